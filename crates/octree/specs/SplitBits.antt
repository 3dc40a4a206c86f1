-- A level map by bits: a word for each row of nodes above level 0, in the order of nodes. No map splits level 0.
-- Source: this project's rule.
use Rattle.std.specs.Cmp.Lexicographic.{pointwise}
use Rattle.std.specs.Int.{bit_at}
use Rattle.std.specs.Ordering.{eq_of_both, on}
use Rattle.std.specs.Prelude.{◌==◌, ◌≡◌, ℕ, ◌+◌, ◌-◌, ◌*◌, ◌/◌, ◌^◌, ◌<◌, ◌≤◌, Bool, ◌&&◌, List, length, nat_lt, slice_index_or}
use Rattle.lattice.specs.Settings.{IsDepth}
use Rattle.lattice.specs.Node.{is_node, nodes_across}
use Rattle.terrain.specs.Levels.{LevelMap}

-- the depth of a world, and a word for each row of its nodes above level 0, in the order of nodes
pub record SplitBits : Type 0 where
  pub depth : ℕ
  pub rows : List ℕ

-- whether the bit of an index is set in the word of a row
abbrev pub row_bit : ℕ → ℕ → Bool
row_bit row i = bit_at row i == 1

-- how many rows above level 0 are of lower levels than this one: a level has a quarter of the rows of the one below it
abbrev pub rows_below : ℕ → ℕ → ℕ
rows_below depth level = (2 ^ (2 * depth) - 2 ^ (2 * (depth + 1 - level))) / 3

-- how many rows above level 0 are before a row
unfoldable pub row_of : ℕ → ℕ → ℕ → ℕ → ℕ
row_of depth level k j = rows_below depth level + (k * nodes_across depth level + j)

-- the level map of the bits: a node that isn't in the world, or is of level 0, isn't split
unfoldable pub split_at : SplitBits → LevelMap
split_at levels n =
    nat_lt 0 n.level && is_node levels.depth n
    && row_bit (slice_index_or levels.rows (row_of levels.depth n.level n.k n.j) 0) n.i

-- a row of nodes of a world, above level 0
pub record IsRow (depth level k j : ℕ) : Type 0 where
  pub low : 1 ≤ level
  pub high : level ≤ depth
  pub k_in : k < nodes_across depth level
  pub j_in : j < nodes_across depth level

-- there is a word for each row above level 0, with no bit behind that of its last node
pub record IsWhole (levels : SplitBits) : Type 0 where
  pub depth : IsDepth levels.depth
  pub long : length levels.rows ≡ rows_below levels.depth (levels.depth + 1)
  pub fits : (level k j : ℕ) → IsRow levels.depth level k j
      → slice_index_or levels.rows (row_of levels.depth level k j) 0
      < 2 ^ nodes_across levels.depth level

-- whether two have one depth and the same bits
abbrev pub are_same : SplitBits → SplitBits → Bool
are_same =
    eq_of_both (on (λ levels. levels.depth) ◌==◌) (on (λ levels. levels.rows) (pointwise ◌==◌))
