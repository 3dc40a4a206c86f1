-- What one cell leaves open: a regular cell its six squares, and a transition cell its fine squares for its coarse one,
-- and its lateral faces.
--
-- From nets of cells and turns of squares and segments, which are laws of `cell_laws`, to flows that are counted
-- towards the high side of an axis: a face's own turn is that of the high face, and the other way round on a low face
-- (`turn-at`). First each square and each lateral face by itself, then `transition-flow` and `regular-cell-flow`, which
-- add them up. For `Transitions` and `RegularTotals`.
use Rattle.std.proofs.Common.{◌≡◌, ℕ, ◌-◌, ◌<◌, ◌≤◌, Bool, true, false, not, refl, ap, sym, ◌∙◌, arith}
use Rattle.std.specs.Prelude.{ℤ, pos, ◌+ℤ◌, ◌-ℤ◌, neg_ℤ}
use Rattle.std.specs.Bool.{beq}
use Rattle.std.specs.List.{flat_map}
use Rattle.std.proofs.lemmas.Int.{ints}
use Rattle.lattice.specs.declared.point.Point.{Point}
use Rattle.lattice.specs.declared.point.Axis.{Axis}
use Rattle.lattice.specs.declared.point.Axis.TheVariants.{X, Y, Z}
use Rattle.lattice.specs.declared.point.Face.{Face}
use Rattle.lattice.specs.declared.key.Key.{Key}
use Rattle.terrain.specs.Curves.{all_edges}
use Rattle.terrain.specs.Samples.{Field}
use Rattle.lattice.specs.Face.{FaceAxis, lower, higher, axis_along, faces}
use Rattle.terrain.specs.Cells.{is_straight, fine_point, regular_triangles, transition_triangles}
use Rattle.cell_laws.specs.Squares.{low_face, high_face, corner_on, fine_corner, regular_square, transition_face, coarse_square, fine_square, lateral_face, square_curves, segment_curves, segment_start, leads_forwards, nine_places}
use Rattle.cell_laws.proofs.SquareFaces.{regular-square, coarse-square, fine-square}
use Rattle.cell_laws.proofs.SquareSegments.{lateral-face}
use Rattle.cell_laws.proofs.SquareNets.{regular-cell-net, transition-cell-net}
use Rattle.seam_laws.specs.Flows.{flow, total, turned}
use Rattle.seam_laws.specs.Seams.{axis_on, square_flow, segment_flow}
use Rattle.seam_laws.proofs.NumberSums.{total-four}
use Rattle.seam_laws.proofs.FlowLemmas.{flow-flat_map, flow-same, flow-turned}

-- the low face across an axis, or the high one
abbrev pub face_on : Axis → Bool → Face
face_on axis true = high_face axis
face_on axis false = low_face axis

-- ---- turns

-- turned twice is as it was
turned-twice : (x : ℤ) → neg_ℤ (neg_ℤ x) ≡ x
turned-twice x = omega (arith, ints)

-- a face's curves counted towards the high side: as they are on a high face, negative on a low one
turn-at : (axis : Axis) (high : Bool) (x : ℤ)
    → turned (is_straight (face_on axis high)) x ≡ turned high
    (turned (is_straight (high_face axis)) x)
turn-at X true x = refl
turn-at X false x = refl
turn-at Y true x = refl
turn-at Y false x = sym (turned-twice x)
turn-at Z true x = refl
turn-at Z false x = refl

-- turned by a test's opposite
turn-not : (b : Bool) (x : ℤ) → turned (not b) x ≡ neg_ℤ (turned b x)
turn-not true x = refl
turn-not false x = sym (turned-twice x)

-- turned by two tests that agree or don't
turn-both : (a b : Bool) (x : ℤ) → turned (beq a b) x ≡ turned b (turned a x)
turn-both true true x = refl
turn-both true false x = refl
turn-both false true x = refl
turn-both false false x = sym (turned-twice x)

-- two turns in either order
turn-order : (a b : Bool) (x : ℤ) → turned a (turned b x) ≡ turned b (turned a x)
turn-order true b x = refl
turn-order false true x = refl
turn-order false false x = refl

-- the two faces across an axis have the same squares and segments
square-at : (s : Field) (level : ℕ) (axis : Axis) (high : Bool) (at : Point)
    → square_curves s level (face_on axis high) at ≡ square_curves s level (high_face axis) at
square-at s level X true at = refl
square-at s level X false at = refl
square-at s level Y true at = refl
square-at s level Y false at = refl
square-at s level Z true at = refl
square-at s level Z false at = refl

-- and the same axes along them
pub along-at : (axis : Axis) (high : Bool) (along : FaceAxis)
    → axis_along (face_on axis high) along ≡ axis_on axis along
along-at X true lower = refl
along-at X true higher = refl
along-at X false lower = refl
along-at X false higher = refl
along-at Y true lower = refl
along-at Y true higher = refl
along-at Y false lower = refl
along-at Y false higher = refl
along-at Z true lower = refl
along-at Z true higher = refl
along-at Z false lower = refl
along-at Z false higher = refl

-- the nine faces of a transition cell, by kind
nine : (high : Bool) (a b c d e f g h i : ℤ)
    → turned high a +ℤ (turned high b +ℤ (turned high c +ℤ
    (turned high d +ℤ (turned high (neg_ℤ e) +ℤ
    (turned high f +ℤ (turned high g +ℤ
    (turned high (neg_ℤ h) +ℤ (turned high (neg_ℤ i) +ℤ pos 0))))))))
    ≡ turned high ((((a +ℤ b) +ℤ (c +ℤ d)) -ℤ e) +ℤ ((f -ℤ h) +ℤ (g -ℤ i)))
nine true a b c d e f g h i = omega (arith, ints)
nine false a b c d e f g h i = omega (arith, ints)

-- the six faces of a regular cell, by axis
pub six-faces : (a b c d e f : ℤ) → neg_ℤ a +ℤ (b +ℤ (neg_ℤ c +ℤ (d +ℤ (neg_ℤ e +ℤ (f +ℤ pos 0)))))
    ≡ (b -ℤ a) +ℤ ((d -ℤ c) +ℤ (f -ℤ e))
six-faces a b c d e f = omega (arith, ints)

module _ (w : Key → Key → ℕ) (s : Field) (level : ℕ) (axis : Axis) (high : Bool) where
  -- ---- squares

  -- the square of a regular cell, counted towards the high side
  pub regular-flow : (low : Point) → flow w (regular_square s level (face_on axis high) low)
      ≡ turned high (square_flow w s level axis (corner_on level (face_on axis high) low))
  unfolding square_flow
  regular-flow low =
      let at = corner_on level (face_on axis high) low in
      flow-turned w (is_straight (face_on axis high))
      (regular_square s level (face_on axis high) low)
      (square_curves s level (face_on axis high) at)
      (regular-square s level (face_on axis high) low)
      ∙ turn-at axis high (flow w (square_curves s level (face_on axis high) at))
      ∙ ap (λ curves. turned high (turned (is_straight (high_face axis)) (flow w curves)))
      (square-at s level axis high at)

  -- the coarse square of a transition cell, which takes the leaf's square away
  coarse-flow : (low : Point) → 1 ≤ level → flow w (coarse_square s level (face_on axis high) low)
      ≡ turned high (neg_ℤ (square_flow w s level axis low))
  unfolding square_flow
  coarse-flow low some =
      flow-turned w (not (is_straight (face_on axis high)))
      (coarse_square s level (face_on axis high) low)
      (square_curves s level (face_on axis high) low)
      (coarse-square s level (face_on axis high) low some)
      ∙ turn-not (is_straight (face_on axis high))
      (flow w (square_curves s level (face_on axis high) low))
      ∙ ap neg_ℤ (turn-at axis high (flow w (square_curves s level (face_on axis high) low)))
      ∙ ap (λ curves. neg_ℤ (turned high (turned (is_straight (high_face axis)) (flow w curves))))
      (square-at s level axis high low)
      ∙ turn-order false high (turned (is_straight (high_face axis))
      (flow w (square_curves s level (high_face axis) low)))

  -- a fine square of a transition cell
  fine-flow : (low : Point) (place : ℕ) → place < 4
      → flow w (fine_square s level (face_on axis high) low place)
      ≡ turned high (square_flow w s (level - 1) axis
      (fine_point level (face_on axis high) low (fine_corner place)))
  unfolding square_flow
  fine-flow low place few =
      let at = fine_point level (face_on axis high) low (fine_corner place) in
      flow-turned w (is_straight (face_on axis high))
      (fine_square s level (face_on axis high) low place)
      (square_curves s (level - 1) (face_on axis high) at)
      (fine-square s level (face_on axis high) low place few)
      ∙ turn-at axis high (flow w (square_curves s (level - 1) (face_on axis high) at))
      ∙ ap (λ curves. turned high (turned (is_straight (high_face axis)) (flow w curves)))
      (square-at s (level - 1) axis high at)

  -- ---- segments

  -- what a lateral face leaves open is what its segment of the lattice does, by its face's direction
  pub lateral-flow : (low : Point) (along : FaceAxis) (far : Bool) → 1 ≤ level
      → flow w (lateral_face s level (face_on axis high) low along far)
      ≡ turned high (turned (leads_forwards along far)
      (segment_flow w s level axis along (segment_start level (face_on axis high)
      low along far)))
  unfolding segment_flow
  lateral-flow low along far some =
      let face = face_on axis high in
      let start = segment_start level face low along far in
      let forwards = leads_forwards along far in
      let x = flow w (segment_curves s level (axis_along face along) start) in
      flow-turned w (beq (is_straight face) forwards) (lateral_face s level face low along far)
      (segment_curves s level (axis_along face along) start)
      (lateral-face s level face low along far some)
      ∙ turn-both (is_straight face) forwards x
      ∙ ap (turned forwards) (turn-at axis high x)
      ∙ turn-order forwards high (turned (is_straight (high_face axis)) x)
      ∙ ap (λ line. turned high (turned forwards
      (turned (is_straight (high_face axis)) (flow w (segment_curves s level line start)))))
      (along-at axis high along)

  -- ---- a transition cell

  -- what a transition cell leaves open: its fine squares, its coarse one, and its lateral faces
  pub transition-flow : (low : Point) → 1 ≤ level
      → (let fine : ℕ → ℤ = λ place. square_flow w s (level - 1) axis
      (fine_point level (face_on axis high) low (fine_corner place)) in
      let side : FaceAxis → Bool → ℤ =
      λ along far. segment_flow w s level axis along
      (segment_start level (face_on axis high) low along far) in
      flow w (all_edges (transition_triangles s level (face_on axis high) low))
      ≡ turned high ((total 4 fine -ℤ square_flow w s level axis low) +ℤ
      ((side lower false -ℤ side lower true) +ℤ (side higher true -ℤ side higher false))))
  transition-flow low some =
      let face = face_on axis high in
      let g : ℕ → ℤ = λ place. flow w (transition_face s level face low place) in
      let fine : ℕ → ℤ = λ place. square_flow w s (level - 1) axis
      (fine_point level face low (fine_corner place)) in
      let side : FaceAxis → Bool → ℤ =
      λ along far. segment_flow w s level axis along (segment_start level face low along far) in
      flow-same w (all_edges (transition_triangles s level face low))
      (flat_map (transition_face s level face low) nine_places)
      (transition-cell-net s level face low)
      ∙ flow-flat_map w (transition_face s level face low) nine_places
      ∙ (λ t. fine-flow low 0 (omega arith) t +ℤ
      (fine-flow low 1 (omega arith) t +ℤ
      (fine-flow low 2 (omega arith) t +ℤ (fine-flow low 3 (omega arith) t
      +ℤ (coarse-flow low some t +ℤ (lateral-flow low lower false some t +ℤ
      (lateral-flow low higher true some t +ℤ
      (lateral-flow low lower true some t +ℤ
      (lateral-flow low higher false some t +ℤ pos 0)))))))))
      ∙ nine high (fine 0) (fine 1) (fine 2) (fine 3) (square_flow w s level axis low)
      (side lower false) (side higher true) (side lower true) (side higher false)
      ∙ ap (λ x. turned high ((x -ℤ square_flow w s level axis low) +ℤ
      ((side lower false -ℤ side lower true) +ℤ (side higher true -ℤ side higher false))))
      (sym (total-four fine))

-- ---- a regular cell

-- a regular cell leaves open its squares at the high ends, less those at the low ends
pub regular-cell-flow : (w : Key → Key → ℕ) (s : Field) (level : ℕ) (low : Point)
    → (let square : Axis → Bool → ℤ = λ axis high. square_flow w s level axis
    (corner_on level (face_on axis high) low) in
    flow w (all_edges (regular_triangles s level low))
    ≡ (square X true -ℤ square X false) +ℤ
    ((square Y true -ℤ square Y false) +ℤ (square Z true -ℤ square Z false)))
regular-cell-flow w s level low =
    let square : Axis → Bool → ℤ = λ axis high. square_flow w s level axis
    (corner_on level (face_on axis high) low) in
    flow-same w (all_edges (regular_triangles s level low))
    (flat_map (λ face. regular_square s level face low) faces) (regular-cell-net s level low)
    ∙ flow-flat_map w (λ face. regular_square s level face low) faces
    ∙ (λ t. regular-flow w s level X false low t +ℤ
    (regular-flow w s level X true low t +ℤ
    (regular-flow w s level Y false low t +ℤ
    (regular-flow w s level Y true low t +ℤ
    (regular-flow w s level Z false low t +ℤ (regular-flow w s level Z true low t +ℤ pos 0))))))
    ∙ six-faces (square X false) (square X true) (square Y false) (square Y true) (square Z false)
    (square Z true)
