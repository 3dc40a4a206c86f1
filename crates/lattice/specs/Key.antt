-- Keys: where their edges end, which of them are in the world, and when two are the same.
-- Source: this project's rule.
use Rattle.std.specs.Prelude.{◌≡◌, ℕ, ◌%◌, ◌^◌, ◌≤◌, Bool, ◌&&◌, ◌==◌}
use Rattle.lattice.specs.declared.key.Key.{Key}
use Rattle.lattice.specs.declared.point.Point.{Point}
use Rattle.lattice.specs.Point.{IsInWorld, is_same_axis, moved}

-- where a key's edge ends: the side of a cell of its level further along its axis
abbrev pub far_end : Key → Point
far_end key = moved key.axis (2 ^ key.level) key.at

-- a key of the world: its level is one of the world's, its low end has multiples of the level's cell side, and its edge
-- is in the world
pub record IsKey (depth : ℕ) (key : Key) : Type 0 where
  pub level : key.level ≤ depth
  pub z : key.at.z % 2 ^ key.level ≡ 0
  pub y : key.at.y % 2 ^ key.level ≡ 0
  pub x : key.at.x % 2 ^ key.level ≡ 0
  pub end : IsInWorld depth (far_end key)

-- whether two keys are the same
abbrev pub is_same_key : Key → Key → Bool
is_same_key a b =
    a.level == b.level && a.at.z == b.at.z && a.at.y == b.at.y && a.at.x == b.at.x
    && is_same_axis a.axis b.axis
