-- Faults by counts that never fall. This project's rule.
use Rattle.std.specs.Prelude.{◌≡◌, ℕ, ◌+◌, ◌-◌, ◌^◌, ◌<◌, min, ◌⊎◌}

-- the greatest count that a program keeps
abbrev pub greatest_count : ℕ
greatest_count = 2 ^ 64 - 1

-- the count rose from old to new; at the end of its type it stays, which counts as risen
abbrev pub HasRisen : ℕ → ℕ → Type 0
HasRisen old new = (old < new) ⊎ ((old ≡ greatest_count) × (new ≡ greatest_count))

-- the count after one more, which stays at the greatest
abbrev pub next_count : ℕ → ℕ
next_count count = min (count + 1) greatest_count
