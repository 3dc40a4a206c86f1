-- The squares and segments on which the faces of cells lie, and the curves there as directed edges of keys.
--
-- Two cells that share a square see it with opposite turns; so do lateral faces of transition cells that share a
-- segment.
-- Source: cells and transition cells by Lengyel (2010); the turns are this project's rule.
use Rattle.std.specs.Prelude.{◌≡◌, ℕ, ◌+◌, ◌-◌, ◌*◌, ◌/◌, ◌%◌, ◌^◌, Bool, true, false, not, List, [], ◌∷◌, map, slice_index_or}
use Rattle.std.specs.Bool.{beq}
use Rattle.std.specs.List.{range_with_len}
use Rattle.lattice.specs.declared.point.Point.{Point}
use Rattle.lattice.specs.declared.point.Axis.{Axis}
use Rattle.lattice.specs.declared.point.Axis.TheVariants.{X, Y, Z}
use Rattle.lattice.specs.declared.point.Face.{Face}
use Rattle.lattice.specs.declared.point.Face.TheVariants.{XLow, XHigh, YLow, YHigh, ZLow, ZHigh}
use Rattle.lattice.specs.declared.key.Key.{Key}
use Rattle.terrain.specs.Curves.{Polygon, no_side, curves, curve_edges, weight, weight_back, AreAsOften}
use Rattle.lattice.specs.Point.{moved, is_same_axis}
use Rattle.terrain.specs.Samples.{Field, is_solid}
use Rattle.terrain.specs.Cells.{Outline, polygon, regular_signs, regular_key, regular_outlines, transition_signs, transition_key, transition_outlines}
use Rattle.lattice.specs.Face.{FaceAxis, lower, higher, axis_along, axis_across, is_high}

-- ---- turns of directed edges

module _ {K : Type 0} where
  -- the edges of xs are those of ys the other way round, each as often: they weigh the same when ys is turned round,
  -- whatever a pair weighs
  abbrev pub AreReverses : List (K × K) → List (K × K) → Type 0
  AreReverses xs ys = (w : K → K → ℕ) → weight w xs ≡ weight_back w ys

  -- the edges of xs are those of ys, each as often: as they are, or the other way round
  abbrev pub AreInTurn : Bool → List (K × K) → List (K × K) → Type 0
  AreInTurn true xs ys = AreAsOften xs ys
  AreInTurn false xs ys = AreReverses xs ys

-- ---- faces of cells

-- the curves of a polygon as directed edges of keys, where `key` says which key a side has
abbrev pub keyed : (ℕ → Key) → Polygon → List (Key × Key)
keyed key p = map (λ edge. (key edge.0, key edge.1)) (curve_edges (curves p))

-- the outline at a place of a list
abbrev pub outline_at : List Outline → ℕ → Outline
outline_at outlines place = slice_index_or outlines place (record { corners = []; sides = [] })

-- the place of a face among the six
abbrev pub face_place : Face → ℕ
face_place XLow = 0
face_place XHigh = 1
face_place YLow = 2
face_place YHigh = 3
face_place ZLow = 4
face_place ZHigh = 5

-- the curves of a regular cell on one of its faces
abbrev pub regular_square : Field → ℕ → Face → Point → List (Key × Key)
regular_square s level face low =
    let face_outline = outline_at regular_outlines (face_place face) in
    keyed (regular_key level low) (polygon (regular_signs s level low) face_outline)

-- the curves of a transition cell on the face at a place of its list of nine
abbrev pub transition_face : Field → ℕ → Face → Point → ℕ → List (Key × Key)
transition_face s level face low place =
    let face_outline = outline_at (transition_outlines face) place in
    keyed (transition_key level face low)
    (polygon (transition_signs s level face low) face_outline)

-- the curves of a transition cell on its coarse square, and on its fine squares: 0 at the low corner, 1 next to it
-- along the lower axis of the leaf's face, 2 along the higher one, and 3 along both
abbrev pub coarse_square : Field → ℕ → Face → Point → List (Key × Key)
coarse_square s level face low = transition_face s level face low 4

abbrev pub fine_square : Field → ℕ → Face → Point → ℕ → List (Key × Key)
fine_square s level face low place = transition_face s level face low place

-- the fine point at the low corner of a fine square
abbrev pub fine_corner : ℕ → ℕ
fine_corner place = place % 2 + 3 * (place / 2)

-- ---- squares

-- the faces of a cell on an axis
abbrev pub low_face : Axis → Face
low_face X = XLow
low_face Y = YLow
low_face Z = ZLow

abbrev pub high_face : Axis → Face
high_face X = XHigh
high_face Y = YHigh
high_face Z = ZHigh

-- the face as a cell on its other side has it
abbrev pub opposite : Face → Face
opposite XLow = XHigh
opposite XHigh = XLow
opposite YLow = YHigh
opposite YHigh = YLow
opposite ZLow = ZHigh
opposite ZHigh = ZLow

-- the low corner of the square on a face of the cell of a level with this low corner
abbrev pub corner_on : ℕ → Face → Point → Point
corner_on level face low =
    let across : ℕ = elim (is_high face) [ true ↦ 2 ^ level | false ↦ 0 ] in
    moved (axis_across face) across low

-- the curves of the square of a level at a point in the plane of a face, with the corner along the lower axis before
-- the one along the higher axis: they depend on its four samples alone
abbrev pub square_curves : Field → ℕ → Face → Point → List (Key × Key)
square_curves s level face at =
    let along : FaceAxis → Point → Point = λ axis p. moved (axis_along face axis) (2 ^ level) p in
    let key : FaceAxis → Point → Key = λ axis p. record {
      level = level;
      at = p;
      axis = axis_along face axis;
    } in
    let solid : Point → Bool = λ p. is_solid (s p) in
    let corners =
    solid at ∷ solid (along lower at) ∷ solid (along lower (along higher at))
    ∷ solid (along higher at) ∷ [] in
    let keys =
    key lower at ∷ key higher (along lower at) ∷ key lower (along higher at)
    ∷ key higher at ∷ [] in
    keyed (λ n. slice_index_or keys n (key lower at))
    (record { solid = corners; sides = 0 ∷ 1 ∷ 2 ∷ 3 ∷ [] })

-- ---- segments

-- the other of a face's two axes
abbrev pub other : FaceAxis → FaceAxis
other lower = higher
other higher = lower

-- the place of the lateral face that goes along an axis, at the low end of the other axis or at its high end
abbrev pub lateral_place : FaceAxis → Bool → ℕ
lateral_place lower false = 5
lateral_place higher true = 6
lateral_place lower true = 7
lateral_place higher false = 8

-- the curves of a transition cell on a lateral face
abbrev pub lateral_face : Field → ℕ → Face → Point → FaceAxis → Bool → List (Key × Key)
lateral_face s level face low along high =
    transition_face s level face low (lateral_place along high)

-- where the segment of a lateral face begins
abbrev pub segment_start : ℕ → Face → Point → FaceAxis → Bool → Point
segment_start level face low along high =
    moved (axis_along face (other along)) (elim high [ true ↦ 2 ^ level | false ↦ 0 ]) low

-- whether a lateral face in the straight turn goes along its coarse edge from the low end to the high one
abbrev pub leads_forwards : FaceAxis → Bool → Bool
leads_forwards lower high = not high
leads_forwards higher high = high

-- the axis after another one, going round X, Y and Z
abbrev pub axis_after : Axis → Axis
axis_after X = Y
axis_after Y = Z
axis_after Z = X

-- whether the step outwards across a face goes counter-clockwise round an axis, seen from the axis' high end, where it
-- is made on the high or the low side of the third axis
abbrev pub goes_round : Axis → Face → Bool → Bool
goes_round axis face on_high =
    elim (is_same_axis (axis_across face) (axis_after axis))
    [ true ↦ not (beq (is_high face) on_high) | false ↦ beq (is_high face) on_high ]

-- the curves of a lateral face on the segment of a level from a point along an axis, with the coarse edge from the low
-- end to the high one, and back over the two fine edges: they depend on the samples at its two ends and its middle
-- alone
abbrev pub segment_curves : Field → ℕ → Axis → Point → List (Key × Key)
segment_curves s level axis at =
    let middle = moved axis (2 ^ (level - 1)) at in
    let end = moved axis (2 ^ level) at in
    let solid : Point → Bool = λ p. is_solid (s p) in
    let coarse : Key = record { level = level; at = at; axis = axis } in
    let fine : Point → Key = λ p. record { level = level - 1; at = p; axis = axis } in
    let corners = solid at ∷ solid end ∷ solid end ∷ solid middle ∷ solid at ∷ [] in
    let keys = coarse ∷ fine middle ∷ fine at ∷ [] in
    keyed (λ n. slice_index_or keys n coarse) (record {
      solid = corners;
      sides = 0 ∷ no_side ∷ 1 ∷ 2 ∷ no_side ∷ [];
    })

-- the places of the nine faces of a transition cell
abbrev pub nine_places : List ℕ
nine_places = range_with_len 0 9
