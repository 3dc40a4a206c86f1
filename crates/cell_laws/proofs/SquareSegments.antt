-- Lateral faces of transition cells lie on segments of the lattice, and have the curves of three samples, in a turn.
-- For the laws `curves_of_lateral_faces` and `curves_between_transition_cells` (docs/rules.md, "What fits together").
--
-- As `SquareFaces` does for squares: `IsSegment` says which corners and edges of a cell are those of a segment, from it
-- come the curves for the four lists of corners that lateral faces have (`forwards`, `backwards`, and each reversed),
-- and each of the four lateral faces is worked out in both turns (`lateral-in`). Two cells side by side then have
-- opposite turns (`between-laterals`); which turn it is, as a way round the segment, is tried for all 24 cases
-- (`lateral-turn`).
--
-- Offered to the proofs of the crates above, which import it: `lateral-face`.
use Rattle.std.proofs.Common.{◌≡◌, ℕ, ◌+◌, ◌-◌, ◌^◌, ◌%◌, ◌<◌, ◌≤◌, Bool, true, false, not, List, [], ◌∷◌, refl, ap, ◌∙◌, sym, subst, arith}
use Rattle.std.specs.Bool.{beq}
use Rattle.lattice.specs.declared.point.Point.{Point}
use Rattle.lattice.specs.declared.point.Axis.{Axis}
use Rattle.lattice.specs.declared.point.Face.{Face}
use Rattle.lattice.specs.declared.point.Face.TheVariants.{XLow, XHigh, YLow, YHigh, ZLow, ZHigh}
use Rattle.lattice.specs.declared.key.Key.{Key}
use Rattle.terrain.specs.Curves.{no_side, weight, weight_back, AreAsOften}
use Rattle.lattice.specs.Point.{moved}
use Rattle.terrain.specs.Samples.{Field}
use Rattle.terrain.specs.Cells.{polygon, is_set, signs_of, is_straight, fine_point, transition_key}
use Rattle.lattice.specs.Face.{FaceAxis, lower, higher, axis_along}
use Rattle.cell_laws.specs.Squares.{AreReverses, AreInTurn, keyed, other, lateral_face, lateral_place, segment_start, leads_forwards, goes_round, segment_curves}
use Rattle.cell_laws.proofs.SquareCurves.{lateral, lateral-keyed, lateral-back, lateral-reversed, reverses-twice, reverses-across}
use Rattle.cell_laws.proofs.SquareFaces.{solid_at, key_at, sign, moved-zero, first-point, half-lower, half-higher, whole-lower, whole-higher, outlines_in, face_in}

-- three points of a cell are the start, the middle and the end of a segment, and three edges its coarse edge and the
-- fine edges over its second and its first half
record IsSegment (n : ℕ) (point : ℕ → Point) (key : ℕ → Key) (level : ℕ) (axis : Axis) (at : Point)
    (start middle end coarse second first : ℕ) : Type 0 where
  below_start : start < n
  below_middle : middle < n
  below_end : end < n
  at_start : point start ≡ at
  at_middle : point middle ≡ moved axis (2 ^ (level - 1)) at
  at_end : point end ≡ moved axis (2 ^ level) at
  on_coarse : key coarse ≡ key_at level axis at
  on_second : key second ≡ key_at (level - 1) axis (moved axis (2 ^ (level - 1)) at)
  on_first : key first ≡ key_at (level - 1) axis at

-- a lateral face's curves depend on its signs and keys alone
lateral-same : {a a' b b' c c' : Bool} {ab ab' bc bc' ca ca' : Key} → a ≡ a' → b ≡ b' → c ≡ c'
    → ab ≡ ab' → bc ≡ bc' → ca ≡ ca' → lateral a b c ab bc ca ≡ lateral a' b' c' ab' bc' ca'
lateral-same ea eb ec e0 e1 e2 = cc

-- the curves of the segment at a point, by signs and keys
lateral_of : Field → ℕ → Axis → Point → List (Key × Key)
lateral_of s level axis at =
    let middle = moved axis (2 ^ (level - 1)) at in
    lateral (solid_at s at) (solid_at s middle) (solid_at s (moved axis (2 ^ level) at))
    (key_at level axis at) (key_at (level - 1) axis middle) (key_at (level - 1) axis at)

-- these are the curves of the definition
same_curves : (s : Field) (level : ℕ) (axis : Axis) (at : Point)
    → lateral_of s level axis at ≡ segment_curves s level axis at
unfolding lateral_of lateral
same_curves s level axis at = refl

-- the curves of a lateral face by its signs are those of its segment
by_signs : (s : Field) (n : ℕ) (point : ℕ → Point) (key : ℕ → Key) (level : ℕ) (axis : Axis)
    (at : Point) (start middle end coarse second first : ℕ)
    → IsSegment n point key level axis at start middle end coarse second first
    → lateral (is_set (signs_of s n point) start) (is_set (signs_of s n point) middle)
    (is_set (signs_of s n point) end) (key coarse) (key second) (key first)
    ≡ segment_curves s level axis at
unfolding lateral_of
by_signs s n point key level axis at start middle end coarse second first is =
    lateral-same (sign s n point start _ is.below_start is.at_start)
    (sign s n point middle _ is.below_middle is.at_middle)
    (sign s n point end _ is.below_end is.at_end) is.on_coarse is.on_second is.on_first
    ∙ same_curves s level axis at

-- along the coarse edge from the low end
forwards : (s : Field) (n : ℕ) (point : ℕ → Point) (key : ℕ → Key) (level : ℕ) (axis : Axis)
    (at : Point) (start middle end coarse second first : ℕ)
    → IsSegment n point key level axis at start middle end coarse second first
    → AreAsOften (keyed key (polygon (signs_of s n point)
    (record {
      corners = start ∷ end ∷ end ∷ middle ∷ start ∷ [];
      sides = coarse ∷ no_side ∷ second ∷ first ∷ no_side ∷ [];
    })))
    (segment_curves s level axis at)
forwards s n point key level axis at start middle end coarse second first is w =
    let σ = signs_of s n point in
    ap (weight w) (lateral-keyed key coarse second first (is_set σ start) (is_set σ middle)
    (is_set σ end)
    ∙ by_signs s n point key level axis at start middle end coarse second first is)

-- the same list in reverse
forwards_reversed : (s : Field) (n : ℕ) (point : ℕ → Point) (key : ℕ
    → Key) (level : ℕ) (axis : Axis) (at : Point) (start middle end coarse second first : ℕ)
    → IsSegment n point key level axis at start middle end coarse second first
    → AreReverses (keyed key (polygon (signs_of s n point)
    (record {
      corners = start ∷ middle ∷ end ∷ end ∷ start ∷ [];
      sides = first ∷ second ∷ no_side ∷ coarse ∷ no_side ∷ [];
    })))
    (segment_curves s level axis at)
forwards_reversed s n point key level axis at start middle end coarse second first is w =
    let σ = signs_of s n point in
    lateral-reversed key coarse second first (is_set σ start) (is_set σ middle) (is_set σ end) w
    ∙ ap (weight_back w)
    (by_signs s n point key level axis at start middle end coarse second first is)

-- along the coarse edge from the high end
backwards : (s : Field) (n : ℕ) (point : ℕ → Point) (key : ℕ → Key) (level : ℕ) (axis : Axis)
    (at : Point) (start middle end coarse second first : ℕ)
    → IsSegment n point key level axis at start middle end coarse second first
    → AreReverses (keyed key (polygon (signs_of s n point)
    (record {
      corners = end ∷ start ∷ start ∷ middle ∷ end ∷ [];
      sides = coarse ∷ no_side ∷ first ∷ second ∷ no_side ∷ [];
    })))
    (segment_curves s level axis at)
backwards s n point key level axis at start middle end coarse second first is w =
    let σ = signs_of s n point in
    ap (weight w) (lateral-keyed key coarse first second (is_set σ end) (is_set σ middle)
    (is_set σ start))
    ∙ lateral-back (key coarse) (key second) (key first) (is_set σ start) (is_set σ middle)
    (is_set σ end) w
    ∙ ap (weight_back w)
    (by_signs s n point key level axis at start middle end coarse second first is)

-- the same list in reverse
backwards_reversed : (s : Field) (n : ℕ) (point : ℕ → Point) (key : ℕ
    → Key) (level : ℕ) (axis : Axis) (at : Point) (start middle end coarse second first : ℕ)
    → IsSegment n point key level axis at start middle end coarse second first
    → AreAsOften (keyed key (polygon (signs_of s n point)
    (record {
      corners = end ∷ middle ∷ start ∷ start ∷ end ∷ [];
      sides = second ∷ first ∷ no_side ∷ coarse ∷ no_side ∷ [];
    })))
    (segment_curves s level axis at)
backwards_reversed s n point key level axis at start middle end coarse second first is w =
    let σ = signs_of s n point in
    reverses-twice _ _ _
    (lateral-reversed key coarse first second (is_set σ end) (is_set σ middle) (is_set σ start))
    (lateral-back (key coarse) (key second) (key first) (is_set σ start) (is_set σ middle)
    (is_set σ end)) w
    ∙ ap (weight w) (by_signs s n point key level axis at start middle end coarse second first is)

-- ---- lateral faces

-- a segment along the lower axis, from fine point p
lower-segment : (level : ℕ) (face : Face) (low at : Point) (p coarse second first : ℕ) → 1 ≤ level
    → p % 3 + 2 < 3 → p + 2 < 9 → fine_point level face low p ≡ at
    → transition_key level face low coarse ≡ key_at level (axis_along face lower)
    (fine_point level face low p)
    → transition_key level face low second ≡ key_at (level - 1) (axis_along face lower)
    (fine_point level face low (p + 1))
    → transition_key level face low first ≡ key_at (level - 1) (axis_along face lower)
    (fine_point level face low p)
    → IsSegment 9 (fine_point level face low) (transition_key level face low) level
    (axis_along face lower) at p (p + 1) (p + 2) coarse second first
lower-segment level face low at p coarse second first some fits few here on_coarse on_second
    on_first =
    let u = axis_along face lower in
    let at_middle = sym (half-lower level face low p (omega arith))
    ∙ ap (moved u (2 ^ (level - 1))) here in
    record {
      below_start = omega arith;
      below_middle = omega arith;
      below_end = few;
      at_start = here;
      at_middle = at_middle;
      at_end = sym (whole-lower level face low p some fits) ∙ ap (moved u (2 ^ level)) here;
      on_coarse = on_coarse ∙ ap (key_at level u) here;
      on_second = on_second ∙ ap (key_at (level - 1) u) at_middle;
      on_first = on_first ∙ ap (key_at (level - 1) u) here;
    }

-- a segment along the higher axis, from fine point p
higher-segment : (level : ℕ) (face : Face) (low at : Point) (p coarse second first : ℕ) → 1 ≤ level
    → p + 6 < 9 → fine_point level face low p ≡ at
    → transition_key level face low coarse ≡ key_at level (axis_along face higher)
    (fine_point level face low p)
    → transition_key level face low second ≡ key_at (level - 1) (axis_along face higher)
    (fine_point level face low (p + 3))
    → transition_key level face low first ≡ key_at (level - 1) (axis_along face higher)
    (fine_point level face low p)
    → IsSegment 9 (fine_point level face low) (transition_key level face low) level
    (axis_along face higher) at p (p + 3) (p + 6) coarse second first
higher-segment level face low at p coarse second first some few here on_coarse on_second on_first =
    let v = axis_along face higher in
    let at_middle = sym (half-higher level face low p) ∙ ap (moved v (2 ^ (level - 1))) here in
    record {
      below_start = omega arith;
      below_middle = omega arith;
      below_end = few;
      at_start = here;
      at_middle = at_middle;
      at_end = sym (whole-higher level face low p some) ∙ ap (moved v (2 ^ level)) here;
      on_coarse = on_coarse ∙ ap (key_at level v) here;
      on_second = on_second ∙ ap (key_at (level - 1) v) at_middle;
      on_first = on_first ∙ ap (key_at (level - 1) v) here;
    }

-- where each segment starts
starts-low : (level : ℕ) (face : Face) (low : Point) (along : FaceAxis)
    → fine_point level face low 0 ≡ segment_start level face low along false
starts-low level face low along = first-point level face low
    ∙ sym (moved-zero (axis_along face (other along)) low)

-- the one on the far side along the lower axis
starts-above : (level : ℕ) (face : Face) (low : Point) → 1 ≤ level
    → fine_point level face low 6 ≡ segment_start level face low lower true
starts-above level face low some = sym (whole-higher level face low 0 some)
    ∙ ap (moved (axis_along face higher) (2 ^ level)) (first-point level face low)

-- the one on the far side along the higher axis
starts-beside : (level : ℕ) (face : Face) (low : Point) → 1 ≤ level
    → fine_point level face low 2 ≡ segment_start level face low higher true
starts-beside level face low some = sym (whole-lower level face low 0 some (omega arith))
    ∙ ap (moved (axis_along face lower) (2 ^ level)) (first-point level face low)

-- each lateral face in either turn
lateral-in : (straight : Bool) (s : Field) (level : ℕ) (face : Face) (low : Point)
    (along : FaceAxis) (high : Bool) → 1 ≤ level
    → AreInTurn (beq straight (leads_forwards along high))
    (face_in straight s level face low (lateral_place along high))
    (segment_curves s level (axis_along face along) (segment_start level face low along high))
unfolding face_in outlines_in
lateral-in true s level face low lower false some =
    forwards s 9 (fine_point level face low) (transition_key level face low) level
    (axis_along face lower) (segment_start level face low lower false) 0 1 2 12 2 0
    (lower-segment level face low (segment_start level face low lower false) 0 12 2 0 some
    (omega arith) (omega arith) (starts-low level face low lower) refl refl refl)
lateral-in true s level face low higher true some =
    forwards s 9 (fine_point level face low) (transition_key level face low) level
    (axis_along face higher) (segment_start level face low higher true) 2 5 8 14 9 4
    (higher-segment level face low (segment_start level face low higher true) 2 14 9 4 some
    (omega arith) (starts-beside level face low some) refl refl refl)
lateral-in true s level face low lower true some =
    backwards s 9 (fine_point level face low) (transition_key level face low) level
    (axis_along face lower) (segment_start level face low lower true) 6 7 8 15 11 10
    (lower-segment level face low (segment_start level face low lower true) 6 15 11 10 some
    (omega arith) (omega arith) (starts-above level face low some) refl refl refl)
lateral-in true s level face low higher false some =
    backwards s 9 (fine_point level face low) (transition_key level face low) level
    (axis_along face higher) (segment_start level face low higher false) 0 3 6 13 6 1
    (higher-segment level face low (segment_start level face low higher false) 0 13 6 1 some
    (omega arith) (starts-low level face low higher) refl refl refl)
lateral-in false s level face low lower false some =
    forwards_reversed s 9 (fine_point level face low) (transition_key level face low) level
    (axis_along face lower) (segment_start level face low lower false) 0 1 2 12 2 0
    (lower-segment level face low (segment_start level face low lower false) 0 12 2 0 some
    (omega arith) (omega arith) (starts-low level face low lower) refl refl refl)
lateral-in false s level face low higher true some =
    forwards_reversed s 9 (fine_point level face low) (transition_key level face low) level
    (axis_along face higher) (segment_start level face low higher true) 2 5 8 14 9 4
    (higher-segment level face low (segment_start level face low higher true) 2 14 9 4 some
    (omega arith) (starts-beside level face low some) refl refl refl)
lateral-in false s level face low lower true some =
    backwards_reversed s 9 (fine_point level face low) (transition_key level face low) level
    (axis_along face lower) (segment_start level face low lower true) 6 7 8 15 11 10
    (lower-segment level face low (segment_start level face low lower true) 6 15 11 10 some
    (omega arith) (omega arith) (starts-above level face low some) refl refl refl)
lateral-in false s level face low higher false some =
    backwards_reversed s 9 (fine_point level face low) (transition_key level face low) level
    (axis_along face higher) (segment_start level face low higher false) 0 3 6 13 6 1
    (higher-segment level face low (segment_start level face low higher false) 0 13 6 1 some
    (omega arith) (starts-low level face low higher) refl refl refl)

-- the curves of a lateral face are those of its segment, in the turn that it has there
pub lateral-face : (s : Field) (level : ℕ) (face : Face) (low : Point) (along : FaceAxis)
    (high : Bool) → 1 ≤ level → AreInTurn (beq (is_straight face) (leads_forwards along high))
    (lateral_face s level face low along high)
    (segment_curves s level (axis_along face along) (segment_start level face low along high))
unfolding face_in outlines_in
lateral-face s level face low along high some =
    lateral-in (is_straight face) s level face low along high some

-- a segment at the low end of an axis starts at the square's low corner
low-lateral : (s : Field) (level : ℕ) (face : Face) (low : Point) (along : FaceAxis) → 1 ≤ level
    → AreInTurn (beq (is_straight face) (leads_forwards along false))
    (lateral_face s level face low along false) (segment_curves s level (axis_along face along) low)
low-lateral s level face low along some =
    let P : Point → Type 0 = λ at. AreInTurn (beq (is_straight face) (leads_forwards along false))
    (lateral_face s level face low along false)
    (segment_curves s level (axis_along face along) at) in
    subst P (moved-zero (axis_along face (other along)) low)
    (lateral-face s level face low along false some)

-- a lateral face at a high end and one at a low end have opposite turns
across-in : (straight : Bool) (along : FaceAxis) (xs ys zs : List (Key × Key))
    → AreInTurn (beq straight (leads_forwards along true)) xs zs
    → AreInTurn (beq straight (leads_forwards along false)) ys zs → AreReverses xs ys
across-in true lower = reverses-across false
across-in true higher = reverses-across true
across-in false lower = reverses-across true
across-in false higher = reverses-across false

-- two transition cells side by side see the lateral face between them with opposite turns
pub between-laterals : (s : Field) (level : ℕ) (face : Face) (low : Point) (along : FaceAxis)
    → 1 ≤ level → AreReverses (lateral_face s level face low along true)
    (lateral_face s level face (moved (axis_along face (other along)) (2 ^ level) low) along false)
between-laterals s level face low along some =
    let next = moved (axis_along face (other along)) (2 ^ level) low in
    across-in (is_straight face) along (lateral_face s level face low along true)
    (lateral_face s level face next along false)
    (segment_curves s level (axis_along face along) next)
    (lateral-face s level face low along true some) (low-lateral s level face next along some)

-- the turn of a lateral face as a way round its segment
pub lateral-turn : (face : Face) (along : FaceAxis) (high : Bool)
    → beq (is_straight face) (leads_forwards along high) ≡ goes_round (axis_along face along) face
    (not high)
lateral-turn XLow lower true = refl
lateral-turn XLow lower false = refl
lateral-turn XLow higher true = refl
lateral-turn XLow higher false = refl
lateral-turn XHigh lower true = refl
lateral-turn XHigh lower false = refl
lateral-turn XHigh higher true = refl
lateral-turn XHigh higher false = refl
lateral-turn YLow lower true = refl
lateral-turn YLow lower false = refl
lateral-turn YLow higher true = refl
lateral-turn YLow higher false = refl
lateral-turn YHigh lower true = refl
lateral-turn YHigh lower false = refl
lateral-turn YHigh higher true = refl
lateral-turn YHigh higher false = refl
lateral-turn ZLow lower true = refl
lateral-turn ZLow lower false = refl
lateral-turn ZLow higher true = refl
lateral-turn ZLow higher false = refl
lateral-turn ZHigh lower true = refl
lateral-turn ZHigh lower false = refl
lateral-turn ZHigh higher true = refl
lateral-turn ZHigh higher false = refl
