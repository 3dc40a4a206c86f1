-- Numbers in decimal digits, and coordinates as exact decimal fractions. This project's rule.
use Rattle.std.specs.Prelude.{ℕ, ◌+◌, ◌-◌, ◌*◌, ◌/◌, ◌%◌, List, [], ◌∷◌, ◌++◌, length, replicate, codes, decimal}
use Rattle.lattice.specs.declared.point.TheConstants.{UNITS}

-- the last digit of n
abbrev pub digit_of : ℕ → ℕ
digit_of n = 48 + n % 10

-- the last four digits of n, with leading zeros
abbrev pub four_digits : ℕ → List ℕ
four_digits n = digit_of (n / 1000) ∷ digit_of (n / 100) ∷ digit_of (n / 10) ∷ digit_of n ∷ []

-- a unit of a position in hundred millionths of a cell: 1/256 is 0.00390625
abbrev pub UNIT_DIGITS : ℕ
UNIT_DIGITS = 390625

-- n in eight digits, with leading zeros
abbrev pub eight_digits : ℕ → List ℕ
eight_digits n = replicate (8 - length (decimal n)) 48 ++ decimal n

-- a coordinate in units of 1/256 cell, exactly: 1/256 is 0.00390625
abbrev pub coordinate_text : ℕ → List ℕ
coordinate_text units =
    decimal (units / UNITS) ++ codes "." ++ eight_digits (units % UNITS * UNIT_DIGITS)
