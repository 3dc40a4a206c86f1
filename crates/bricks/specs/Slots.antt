-- The slots of a leaf's points: their numbers among them. This project's rule.
use Rattle.std.specs.Prelude.{ℕ, ◌+◌, ◌*◌}
use Rattle.lattice.specs.declared.node.TheConstants.{CELLS}
use Rattle.lattice.specs.declared.point.Axis.{Axis}
use Rattle.lattice.specs.declared.point.Axis.TheVariants.{X, Y, Z}
use Rattle.lattice.specs.declared.point.Point.{Point}

-- the slot of a point of a leaf among its points, by z, then y, then x
abbrev pub point_slot : Point → ℕ
point_slot at = (at.z * (CELLS + 1) + at.y) * (CELLS + 1) + at.x

-- how much further the next point on an axis is among them
abbrev pub point_step : Axis → ℕ
point_step X = 1
point_step Y = CELLS + 1
point_step Z = (CELLS + 1) * (CELLS + 1)
