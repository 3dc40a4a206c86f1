-- The faces of a cube: the axis across each, and the two axes along it.
-- Source: this project's rule.
use Rattle.std.specs.Prelude.{Bool, true, false, List, [], ◌∷◌}
use Rattle.lattice.specs.declared.point.Axis.{Axis}
use Rattle.lattice.specs.declared.point.Axis.TheVariants.{X, Y, Z}
use Rattle.lattice.specs.declared.point.Face.{Face}
use Rattle.lattice.specs.declared.point.Face.TheVariants.{XLow, XHigh, YLow, YHigh, ZLow, ZHigh}

-- the faces in their order: XLow, XHigh, YLow, YHigh, ZLow, ZHigh
abbrev pub faces : List Face
faces = XLow ∷ XHigh ∷ YLow ∷ YHigh ∷ ZLow ∷ ZHigh ∷ []

-- the axis that leads across a face
abbrev pub axis_across : Face → Axis
axis_across XLow = X
axis_across XHigh = X
axis_across YLow = Y
axis_across YHigh = Y
axis_across ZLow = Z
axis_across ZHigh = Z

-- whether a face is the high one of its axis
abbrev pub is_high : Face → Bool
is_high XLow = false
is_high XHigh = true
is_high YLow = false
is_high YHigh = true
is_high ZLow = false
is_high ZHigh = true

-- one of a face's two axes: the lower one or the higher one
pub data FaceAxis : Type 0 where
  lower : FaceAxis
  higher : FaceAxis

-- the lower or the higher of the two axes along a face, in the order X, Y, Z
abbrev pub axis_along : Face → FaceAxis → Axis
axis_along XLow lower = Y
axis_along XHigh lower = Y
axis_along YLow lower = X
axis_along YHigh lower = X
axis_along ZLow lower = X
axis_along ZHigh lower = X
axis_along XLow higher = Z
axis_along XHigh higher = Z
axis_along YLow higher = Z
axis_along YHigh higher = Z
axis_along ZLow higher = Y
axis_along ZHigh higher = Y
