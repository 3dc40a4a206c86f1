-- Words on lists that the other files use. They are this project's own.
use Rattle.std.specs.Prelude.{ℕ, ◌+◌, ◌*◌, Bool, true, false, List, [], ◌∷◌}

-- whether some item passes the test; no item after the first such one is tried
abbrev pub any_of : {A : Type 0} → (A → Bool) → List A → Bool
any_of test [] = false
any_of test (x ∷ xs) = elim (test x) [ true ↦ true | false ↦ any_of test xs ]

-- the number whose binary digits these are, the lowest first
abbrev pub binary : List Bool → ℕ
binary [] = 0
binary (false ∷ bits) = 2 * binary bits
binary (true ∷ bits) = 2 * binary bits + 1
