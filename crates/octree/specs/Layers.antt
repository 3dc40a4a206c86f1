-- The rows of a level of a level map, and a level of two level maps.
-- Source: this project's rule.
use Rattle.std.specs.Prelude.{◌≡◌, ℕ, ◌+◌, ◌*◌, ◌^◌, ◌<◌, ◌≤◌, ◌&&◌, List, if◌then◌else◌, length, nat_lt, slice_index_or}
use Rattle.lattice.specs.Node.{nodes_across}
use Rattle.octree.specs.SplitBits.{SplitBits, row_bit, split_at}

-- ---- one level map

-- a level map and one of its levels
pub record LayerOf : Type 0 where
  pub levels : SplitBits
  pub level : ℕ

-- the word of a row among those of a square of rows; no other row has one
abbrev pub word_at : ℕ → List ℕ → ℕ → ℕ → ℕ
word_at across rows k j =
    if nat_lt k across && nat_lt j across then slice_index_or rows (k * across + j) 0 else 0

-- a square of words has the bits of the rows of a level, and no other row has a node that is split
pub record IsLayer (levels : SplitBits) (level across : ℕ) (rows : List ℕ) : Type 0 where
  pub few : across ≤ 32
  pub long : length rows ≡ across * across
  pub fits : (k j : ℕ) → word_at across rows k j < 2 ^ 32
  pub each : (k j i : ℕ) → row_bit (word_at across rows k j) i
      ≡ split_at levels (record { level = level; k = k; j = j; i = i })

-- ---- two level maps

-- two level maps and a level
pub record PairOf : Type 0 where
  pub before : SplitBits
  pub after : SplitBits
  pub level : ℕ

-- a level of two level maps of a world, and the level above it
pub record IsLevelPair (level across : ℕ) (before after above_before above_after : LayerOf) : Type 0
  where
    pub same_depth : before.levels.depth ≡ after.levels.depth
    pub first_level : before.level ≡ level
    pub second_level : after.level ≡ level
    pub within : level ≤ after.levels.depth
    pub all : across ≡ nodes_across after.levels.depth level
    pub few : across ≤ 64
    pub first_above : above_before ≡ record { levels = before.levels; level = level + 1 }
    pub second_above : above_after ≡ record { levels = after.levels; level = level + 1 }
