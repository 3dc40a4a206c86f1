-- The bits beside an index of a row.
-- Source: this project's rule.
use Rattle.std.specs.Prelude.{ℕ, ◌+◌, ◌-◌, Bool, ◌||◌, ◌&&◌, nat_lt}
use Rattle.octree.specs.SplitBits.{row_bit}

-- whether the bit before an index, that at it or the one behind it is set
abbrev pub row_bit_beside : ℕ → ℕ → Bool
row_bit_beside row i =
    (nat_lt 0 i && row_bit row (i - 1)) || (row_bit row i || row_bit row (i + 1))
