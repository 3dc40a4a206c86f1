-- Regions: boxes of points, which points are in them, and which of them are in the world.
-- Source: this project's rule.
use Rattle.std.specs.Prelude.{ℕ, ◌≤◌, Bool, ◌&&◌, nat_le}
use Rattle.lattice.specs.declared.point.Point.{Point}
use Rattle.lattice.specs.declared.region.Region.{Region}
use Rattle.lattice.specs.Point.{IsInWorld}

-- a point is in a box of points, its border included
pub record IsWithin (box : Region) (p : Point) : Type 0 where
  pub z : box.lo.z ≤ p.z
  pub z_end : p.z ≤ box.hi.z
  pub y : box.lo.y ≤ p.y
  pub y_end : p.y ≤ box.hi.y
  pub x : box.lo.x ≤ p.x
  pub x_end : p.x ≤ box.hi.x

-- the same as a test
abbrev pub is_within : Region → Point → Bool
is_within box p =
    nat_le box.lo.z p.z && nat_le p.z box.hi.z && nat_le box.lo.y p.y && nat_le p.y box.hi.y
    && nat_le box.lo.x p.x && nat_le p.x box.hi.x

-- a box of points of the world: lo is at most hi on each axis, and hi is in the world
pub record IsRegion (depth : ℕ) (box : Region) : Type 0 where
  pub x : box.lo.x ≤ box.hi.x
  pub y : box.lo.y ≤ box.hi.y
  pub z : box.lo.z ≤ box.hi.z
  pub high : IsInWorld depth box.hi
