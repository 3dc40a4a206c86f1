-- How often a key is in a list, and whether it is: for the laws of keys.
use Rattle.std.specs.Prelude.{ℕ, ◌+◌, List, [], ◌∷◌, if◌then◌else◌}
use Rattle.std.specs.List.{list_any}
use Rattle.lattice.specs.declared.key.Key.{Key}
use Rattle.lattice.specs.Key.{is_same_key}

-- how often the key is in the list
abbrev pub count_of_key : Key → List Key → ℕ
count_of_key key [] = 0
count_of_key key (k ∷ keys) = (if is_same_key k key then 1 else 0) + count_of_key key keys

-- 1 where the key is in the list, and 0 elsewhere
abbrev pub is_among_keys : Key → List Key → ℕ
is_among_keys key keys = if list_any (λ k. is_same_key k key) keys then 1 else 0
