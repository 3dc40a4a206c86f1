-- Rows of points and the samples of a field at them. This project's rule.
use Rattle.std.specs.Prelude.{ℕ, ◌+◌, ◌*◌, ◌^◌, ◌<◌, ◌≤◌, ℤ, List, [], ◌∷◌}
use Rattle.lattice.specs.declared.point.Axis.{Axis}
use Rattle.lattice.specs.declared.point.Axis.TheVariants.{X, Y, Z}
use Rattle.lattice.specs.declared.point.Point.{Point}
use Rattle.lattice.specs.Lists.{joined}
use Rattle.lattice.specs.Point.{IsInWorld, coordinate, moved}
use Rattle.terrain.specs.Samples.{Field}
use Rattle.field_pages.specs.declared.page.TheConstants.{SIDE}
use Rattle.bricks.specs.declared.line.Line.{Line}

-- the point of this number of a line
abbrev pub line_point : Line → ℕ → Point
line_point line place = moved line.axis (line.stride * place) line.from

-- a line of points of the world
pub record IsLine (depth : ℕ) (line : Line) : Type 0 where
  pub stride : 1 ≤ line.stride
  pub fits : coordinate line.axis line.from + line.stride * line.count < 2 ^ 32
  pub points : (place : ℕ) → place < line.count → IsInWorld depth (line_point line place)

-- a field's samples at the points of a line
abbrev pub line_samples : Field → Line → List ℤ
line_samples s line = joined line.count (λ place. s (line_point line place) ∷ [])

-- how much further the place in a page is of the next point on an axis
abbrev pub step_along : Axis → ℕ
step_along X = 1
step_along Y = SIDE
step_along Z = SIDE * SIDE
