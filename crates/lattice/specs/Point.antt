-- Points: their coordinates, which of them are in the world, and which are corners of cells.
-- Source: this project's rule.
use Rattle.std.specs.Prelude.{◌≡◌, ℕ, ◌+◌, ◌*◌, ◌%◌, ◌^◌, ◌≤◌, min, Bool, true, false}
use Rattle.lattice.specs.declared.point.Axis.{Axis}
use Rattle.lattice.specs.declared.point.Axis.TheVariants.{X, Y, Z}
use Rattle.lattice.specs.declared.point.Point.{Point}
use Rattle.lattice.specs.Settings.{world_side}

-- whether two axes are the same
abbrev pub is_same_axis : Axis → Axis → Bool
is_same_axis X X = true
is_same_axis Y Y = true
is_same_axis Z Z = true
is_same_axis a b = false

-- a point's coordinate on an axis
abbrev pub coordinate : Axis → Point → ℕ
coordinate X p = p.x
coordinate Y p = p.y
coordinate Z p = p.z

-- the point that is so much further along an axis
abbrev pub moved : Axis → ℕ → Point → Point
moved X n p = record p { x = p.x + n }
moved Y n p = record p { y = p.y + n }
moved Z n p = record p { z = p.z + n }

-- the point that is so many cells of a level from another
abbrev pub point_from : Point → ℕ → Point → Point
point_from low level steps = record {
  z = low.z + 2 ^ level * steps.z;
  y = low.y + 2 ^ level * steps.y;
  x = low.x + 2 ^ level * steps.x;
}

-- a point of the world has each coordinate from 0 to the side
pub record IsInWorld (depth : ℕ) (p : Point) : Type 0 where
  pub z : p.z ≤ world_side depth
  pub y : p.y ≤ world_side depth
  pub x : p.x ≤ world_side depth

-- the point of the world that is nearest: each coordinate is at most the side
abbrev pub clamped : ℕ → Point → Point
clamped depth p = record {
  z = min p.z (world_side depth);
  y = min p.y (world_side depth);
  x = min p.x (world_side depth);
}

-- the low corner of a cell of a level of the world: it has multiples of the cell's side, and the cell is in the world
pub record IsCellCorner (depth level : ℕ) (low : Point) : Type 0 where
  pub allowed : level ≤ depth
  pub z : low.z % 2 ^ level ≡ 0
  pub y : low.y % 2 ^ level ≡ 0
  pub x : low.x % 2 ^ level ≡ 0
  pub end : IsInWorld depth (record {
    z = low.z + 2 ^ level;
    y = low.y + 2 ^ level;
    x =
        low.x + 2 ^ level;
  })
