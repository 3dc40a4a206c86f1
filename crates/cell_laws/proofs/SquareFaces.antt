-- The squares of cells lie on the squares of the lattice, and have the curves of their four samples, in the turn of the
-- face. For the law `curves_of_squares` (docs/rules.md, "What fits together").
--
-- `IsSquare` says which four corners and edges of a cell are those of a square of the lattice, whatever numbers the
-- cell gives them. From it come the curves for each of the four lists of corners that cells use (`in_order`,
-- `from_next`, `turned_round`, `listed_back`). Then it is shown of each face of a regular cell (`regular-square`), of
-- the coarse square and of the four fine ones (`coarse-square`, `fine-square`), with the numbers of their corners and
-- edges written out.
--
-- Offered to the proofs of the crates above, which import them: `regular-square`, `moved-zero`, `half-lower`,
-- `half-higher`, `whole-lower`, `whole-higher`, `coarse-square` and `fine-square`.
use Rattle.std.proofs.Common.{◌≡◌, ℕ, zero, suc, ◌+◌, ◌-◌, ◌*◌, ◌%◌, ◌^◌, ◌<◌, ◌≤◌, Bool, true, false, not, List, [], ◌∷◌, map, refl, ap, ◌∙◌, sym, arith, add-zero}
use Rattle.lattice.specs.declared.point.Point.{Point}
use Rattle.lattice.specs.declared.point.Axis.{Axis}
use Rattle.lattice.specs.declared.point.Axis.TheVariants.{X, Y, Z}
use Rattle.lattice.specs.declared.point.Face.{Face}
use Rattle.lattice.specs.declared.point.Face.TheVariants.{XLow, XHigh, YLow, YHigh, ZLow, ZHigh}
use Rattle.lattice.specs.declared.key.Key.{Key}
use Rattle.terrain.specs.Curves.{weight, weight_back, AreAsOften}
use Rattle.lattice.specs.Point.{moved}
use Rattle.terrain.specs.Samples.{Field, is_solid}
use Rattle.terrain.specs.Cells.{Outline, polygon, is_set, signs_of, corner_point, regular_key, is_straight, fine_point, transition_signs, transition_key, straight_outlines, reversed}
use Rattle.lattice.specs.Face.{FaceAxis, lower, higher, axis_along}
use Rattle.cell_laws.specs.Squares.{AreReverses, AreInTurn, keyed, outline_at, regular_square, coarse_square, fine_square, fine_corner, corner_on, square_curves}
use Rattle.cell_laws.proofs.IsPresent.{signs_tell, same_point, step_along, is_low_on, corner_along, along_lower, along_higher, doubled}
use Rattle.cell_laws.proofs.SquareCurves.{square, square-keyed, square-next, square-back, square-reversed}

-- whether a point is solid
abbrev pub solid_at : Field → Point → Bool
solid_at s p = is_solid (s p)

-- the key of a level and an axis at a point
abbrev pub key_at : ℕ → Axis → Point → Key
key_at level axis p = record { level = level; at = p; axis = axis }

-- ---- squares

-- four corners p, u, c and v of a cell are those of a square: its low corner, and those next to it along the lower
-- axis, along both and along the higher one. So are the edges between them.
record IsSquare (n : ℕ) (point : ℕ → Point) (key : ℕ → Key) (level : ℕ) (face : Face) (at : Point)
    (p u c v pu uc vc pv : ℕ) : Type 0 where
  below_p : p < n
  below_u : u < n
  below_c : c < n
  below_v : v < n
  at_p : point p ≡ at
  at_u : point u ≡ moved (axis_along face lower) (2 ^ level) at
  at_c : point c ≡ moved (axis_along face lower) (2 ^ level)
      (moved (axis_along face higher) (2 ^ level) at)
  at_v : point v ≡ moved (axis_along face higher) (2 ^ level) at
  on_pu : key pu ≡ key_at level (axis_along face lower) at
  on_uc : key uc ≡ key_at level (axis_along face higher)
      (moved (axis_along face lower) (2 ^ level) at)
  on_vc : key vc ≡ key_at level (axis_along face lower)
      (moved (axis_along face higher) (2 ^ level) at)
  on_pv : key pv ≡ key_at level (axis_along face higher) at

-- a square's curves depend on its signs and keys alone
square-same : {a a' b b' c c' d d' : Bool} {ab ab' bc bc' cd cd' da da' : Key} → a ≡ a' → b ≡ b'
    → c ≡ c' → d ≡ d' → ab ≡ ab' → bc ≡ bc' → cd ≡ cd' → da ≡ da'
    → square a b c d ab bc cd da ≡ square a' b' c' d' ab' bc' cd' da'
square-same ea eb ec ed e0 e1 e2 e3 = cc

-- whether a corner of a cell is solid, by its sign number and by where it lies
pub sign : (s : Field) (n : ℕ) (point : ℕ → Point) (k : ℕ) (q : Point) → k < n → point k ≡ q
    → is_set (signs_of s n point) k ≡ solid_at s q
sign s n point k q lt e = signs_tell s n point k lt ∙ ap (solid_at s) e

-- the curves of the square at a point, by signs and keys
square_of : Field → ℕ → Face → Point → List (Key × Key)
square_of s level face at =
    let along : FaceAxis → Point → Point = λ axis p. moved (axis_along face axis) (2 ^ level) p in
    square (solid_at s at) (solid_at s (along lower at))
    (solid_at s (along lower (along higher at))) (solid_at s (along higher at))
    (key_at level (axis_along face lower) at)
    (key_at level (axis_along face higher) (along lower at))
    (key_at level (axis_along face lower) (along higher at))
    (key_at level (axis_along face higher) at)

-- these are the curves of the definition
same_curves : (s : Field) (level : ℕ) (face : Face) (at : Point)
    → square_of s level face at ≡ square_curves s level face at
unfolding square_of square
same_curves s level face at = refl

module _ (s : Field) {n : ℕ} {point : ℕ → Point} {key : ℕ → Key} {level : ℕ} {face : Face}
    {at : Point} {p u c v pu uc vc pv : ℕ}
    (is : IsSquare n point key level face at p u c v pu uc vc pv) where
  -- the curves of the cell's face with these corners and sides
  abbrev curves_of : List ℕ → List ℕ → List (Key × Key)
  curves_of corners sides =
      keyed key (polygon (signs_of s n point) (record { corners = corners; sides = sides }))

  -- whether the low corner is solid
  solid_p : is_set (signs_of s n point) p ≡ solid_at s at
  solid_p = sign s n point p _ is.below_p is.at_p

  -- whether the one along the lower axis is
  solid_u : is_set (signs_of s n point) u
      ≡ solid_at s (moved (axis_along face lower) (2 ^ level) at)
  solid_u = sign s n point u _ is.below_u is.at_u

  -- whether the one across is
  solid_c : is_set (signs_of s n point) c ≡ solid_at s (moved (axis_along face lower) (2 ^ level)
      (moved (axis_along face higher) (2 ^ level) at))
  solid_c = sign s n point c _ is.below_c is.at_c

  -- whether the one along the higher axis is
  solid_v : is_set (signs_of s n point) v
      ≡ solid_at s (moved (axis_along face higher) (2 ^ level) at)
  solid_v = sign s n point v _ is.below_v is.at_v

  -- the corners from the low one along the lower axis
  in_order : AreAsOften (curves_of (p ∷ u ∷ c ∷ v ∷ []) (pu ∷ uc ∷ vc ∷ pv ∷ []))
      (square_curves s level face at)
  unfolding square_of
  in_order w =
      ap (weight w) (square-keyed key pu uc vc pv _ _ _ _
      ∙ square-same solid_p solid_u solid_c solid_v is.on_pu is.on_uc is.on_vc is.on_pv
      ∙ same_curves s level face at)

  -- from the next corner
  from_next : AreAsOften (curves_of (u ∷ c ∷ v ∷ p ∷ []) (uc ∷ vc ∷ pv ∷ pu ∷ []))
      (square_curves s level face at)
  unfolding square_of
  from_next w =
      ap (weight w) (square-keyed key uc vc pv pu _ _ _ _
      ∙ square-same solid_u solid_c solid_v solid_p is.on_uc is.on_vc is.on_pv is.on_pu)
      ∙ square-next _ _ _ _ _ _ _ _ w
      ∙ ap (weight w) (same_curves s level face at)

  -- from the low corner along the higher axis
  turned_round : AreReverses (curves_of (p ∷ v ∷ c ∷ u ∷ []) (pv ∷ vc ∷ uc ∷ pu ∷ []))
      (square_curves s level face at)
  unfolding square_of
  turned_round w =
      ap (weight w) (square-keyed key pv vc uc pu _ _ _ _
      ∙ square-same solid_p solid_v solid_c solid_u is.on_pv is.on_vc is.on_uc is.on_pu)
      ∙ square-back _ _ _ _ _ _ _ _ w
      ∙ ap (weight_back w) (same_curves s level face at)

  -- from the last corner back
  listed_back : AreReverses (curves_of (v ∷ c ∷ u ∷ p ∷ []) (vc ∷ uc ∷ pu ∷ pv ∷ []))
      (square_curves s level face at)
  unfolding square_of
  listed_back w =
      ap (weight w) (square-keyed key vc uc pu pv _ _ _ _
      ∙ square-same solid_v solid_c solid_u solid_p is.on_vc is.on_uc is.on_pu is.on_pv)
      ∙ square-reversed _ _ _ _ _ _ _ _ w
      ∙ ap (weight_back w) (same_curves s level face at)

-- ---- regular cells

-- the corners of a regular cell on a face, by the number of the low one and those of the edges
IsSquare-regular : (level : ℕ) (face : Face) (low : Point) (p pu uc vc pv : ℕ)
    → let u = step_along (axis_along face lower) in
    let v = step_along (axis_along face higher) in
    let key : FaceAxis → ℕ → Key =
    λ along k. key_at level (axis_along face along) (corner_point level low k) in
    p + v + u < 8 → corner_point level low p ≡ corner_on level face low
    → is_low_on (axis_along face lower) p ≡ true
    → is_low_on (axis_along face higher) p ≡ true
    → is_low_on (axis_along face lower) (p + v) ≡ true
    → regular_key level low pu ≡ key lower p → regular_key level low uc ≡ key higher (p + u)
    → regular_key level low vc ≡ key lower (p + v) → regular_key level low pv ≡ key higher p
    → IsSquare 8 (corner_point level low) (regular_key level low) level face
    (corner_on level face low) p (p + u) (p + v + u) (p + v) pu uc vc pv
IsSquare-regular level face low p pu uc vc pv most at_p on_u on_v on_c on_pu on_uc on_vc on_pv =
    let u = axis_along face lower in
    let v = axis_along face higher in
    let at_u = sym (corner_along level low u p on_u) ∙ ap (moved u (2 ^ level)) at_p in
    let at_v = sym (corner_along level low v p on_v) ∙ ap (moved v (2 ^ level)) at_p in
    let at_c = sym (corner_along level low u (p + step_along v) on_c)
    ∙ ap (moved u (2 ^ level)) at_v in
    record {
      below_p = omega (arith, most);
      below_u = omega (arith, most);
      below_c = most;
      below_v = omega (arith, most);
      at_p = at_p;
      at_u = at_u;
      at_c = at_c;
      at_v = at_v;
      on_pu = on_pu ∙ ap (key_at level u) at_p;
      on_uc = on_uc ∙ ap (key_at level v) at_u;
      on_vc = on_vc ∙ ap (key_at level u) at_v;
      on_pv = on_pv ∙ ap (key_at level v) at_p;
    }

-- the curves of a regular cell on a face are those of the square there, in the face's turn
pub regular-square : (s : Field) (level : ℕ) (face : Face) (low : Point)
    → AreInTurn (is_straight face) (regular_square s level face low)
    (square_curves s level face (corner_on level face low))
unfolding step_along is_low_on
regular-square s level XLow low = turned_round s (IsSquare-regular level XLow low 0 1 6 9 2
    (omega arith) (same_point (omega arith) (omega arith) (omega arith))
    refl refl refl refl refl refl refl)
regular-square s level XHigh low = in_order s (IsSquare-regular level XHigh low 1 3 7 10 4
    (omega arith) (same_point (omega arith) (omega arith) (omega arith))
    refl refl refl refl refl refl refl)
regular-square s level YLow low = in_order s (IsSquare-regular level YLow low 0 0 4 8 2
    (omega arith) (same_point (omega arith) (omega arith) (omega arith))
    refl refl refl refl refl refl refl)
regular-square s level YHigh low = turned_round s (IsSquare-regular level YHigh low 2 5 7 11 6
    (omega arith) (same_point (omega arith) (omega arith) (omega arith))
    refl refl refl refl refl refl refl)
regular-square s level ZLow low = turned_round s (IsSquare-regular level ZLow low 0 0 3 5 1
    (omega arith) (same_point (omega arith) (omega arith) (omega arith))
    refl refl refl refl refl refl refl)
regular-square s level ZHigh low = in_order s (IsSquare-regular level ZHigh low 4 8 10 11 9
    (omega arith) (same_point (omega arith) (omega arith) (omega arith))
    refl refl refl refl refl refl refl)

-- ---- squares of transition cells

-- a move by nothing leaves a point where it is
pub moved-zero : (axis : Axis) (p : Point) → moved axis 0 p ≡ p
moved-zero X p = ap (λ x. let q : Point = record p { x = x } in q) (add-zero p.x)
moved-zero Y p = ap (λ y. let q : Point = record p { y = y } in q) (add-zero p.y)
moved-zero Z p = ap (λ z. let q : Point = record p { z = z } in q) (add-zero p.z)

-- the first fine point is the square's low corner
pub first-point : (level : ℕ) (face : Face) (low : Point) → fine_point level face low 0 ≡ low
first-point level face low =
    let none : 2 ^ (level - 1) * 0 ≡ 0 = omega arith in
    let u = axis_along face lower in
    let v = axis_along face higher in
    ap (λ n. moved u n (moved v n low)) none ∙ ap (moved u 0) (moved-zero v low) ∙ moved-zero u low

-- the fine point that is a half or a whole square further along an axis
pub half-lower : (level : ℕ) (face : Face) (low : Point) (p : ℕ) → p % 3 + 1 < 3
    → moved (axis_along face lower) (2 ^ (level - 1)) (fine_point level face low p)
    ≡ fine_point level face low (p + 1)
half-lower level face low p fits = along_lower (axis_along face lower) (axis_along face higher)
    (2 ^ (level - 1)) p 1 (2 ^ (level - 1)) low (omega arith) fits

-- a half square along the higher axis leads three points on
pub half-higher : (level : ℕ) (face : Face) (low : Point) (p : ℕ)
    → moved (axis_along face higher) (2 ^ (level - 1)) (fine_point level face low p)
    ≡ fine_point level face low (p + 3)
half-higher level face low p = along_higher (axis_along face lower) (axis_along face higher)
    (2 ^ (level - 1)) p 1 (2 ^ (level - 1)) low (omega arith)

-- a whole square along the lower axis leads two points on
pub whole-lower : (level : ℕ) (face : Face) (low : Point) (p : ℕ) → 1 ≤ level → p % 3 + 2 < 3
    → moved (axis_along face lower) (2 ^ level) (fine_point level face low p)
    ≡ fine_point level face low (p + 2)
whole-lower level face low p some fits =
    along_lower (axis_along face lower) (axis_along face higher) (2 ^ (level - 1)) p 2 (2 ^ level)
    low (doubled level some) fits

-- a whole square along the higher axis leads six points on
pub whole-higher : (level : ℕ) (face : Face) (low : Point) (p : ℕ) → 1 ≤ level
    → moved (axis_along face higher) (2 ^ level) (fine_point level face low p)
    ≡ fine_point level face low (p + 6)
whole-higher level face low p some = along_higher (axis_along face lower) (axis_along face higher)
    (2 ^ (level - 1)) p 2 (2 ^ level) low (doubled level some)

-- the corners of a fine square from this point, by the numbers of its edges
IsSquare-fine : (level : ℕ) (face : Face) (low : Point) (p pu uc vc pv : ℕ) → p % 3 + 1 < 3
    → (p + 3) % 3 + 1 < 3 → p < 5
    → transition_key level face low pu ≡ key_at (level - 1) (axis_along face lower)
    (fine_point level face low p)
    → transition_key level face low uc ≡ key_at (level - 1) (axis_along face higher)
    (fine_point level face low (p + 1))
    → transition_key level face low vc ≡ key_at (level - 1) (axis_along face lower)
    (fine_point level face low (p + 3))
    → transition_key level face low pv ≡ key_at (level - 1) (axis_along face higher)
    (fine_point level face low p)
    → IsSquare 9 (fine_point level face low) (transition_key level face low) (level - 1) face
    (fine_point level face low p) p (p + 1) (p + 3 + 1) (p + 3) pu uc vc pv
IsSquare-fine level face low p pu uc vc pv fits above few on_pu on_uc on_vc on_pv =
    let u = axis_along face lower in
    let v = axis_along face higher in
    let half = 2 ^ (level - 1) in
    let at_u = half-lower level face low p fits in
    let at_v = half-higher level face low p in
    let at_c = ap (moved u half) at_v ∙ half-lower level face low (p + 3) above in
    record {
      below_p = omega arith;
      below_u = omega arith;
      below_c = omega arith;
      below_v = omega arith;
      at_p = refl;
      at_u = sym at_u;
      at_c = sym at_c;
      at_v = sym at_v;
      on_pu = on_pu;
      on_uc = on_uc ∙ ap (key_at (level - 1) v) (sym at_u);
      on_vc = on_vc ∙ ap (key_at (level - 1) u) (sym at_v);
      on_pv = on_pv;
    }

-- the corners of the coarse square
IsSquare-coarse : (level : ℕ) (face : Face) (low : Point) → 1 ≤ level
    → IsSquare 9 (fine_point level face low) (transition_key level face low)
    level face low 0 2 8 6 12 14 15 13
IsSquare-coarse level face low some =
    let u = axis_along face lower in
    let v = axis_along face higher in
    let at_p = first-point level face low in
    let at_u = sym (whole-lower level face low 0 some (omega arith))
    ∙ ap (moved u (2 ^ level)) at_p in
    let at_v = sym (whole-higher level face low 0 some) ∙ ap (moved v (2 ^ level)) at_p in
    let at_c = sym (whole-lower level face low 6 some (omega arith))
    ∙ ap (moved u (2 ^ level)) at_v in
    record {
      below_p = omega arith;
      below_u = omega arith;
      below_c = omega arith;
      below_v = omega arith;
      at_p = at_p;
      at_u = at_u;
      at_c = at_c;
      at_v = at_v;
      on_pu = ap (key_at level u) at_p;
      on_uc = ap (key_at level v) at_u;
      on_vc = ap (key_at level u) at_v;
      on_pv = ap (key_at level v) at_p;
    }

-- the outlines in one of the two turns
unfoldable pub outlines_in : Bool → List Outline
outlines_in straight =
    elim straight [ true ↦ straight_outlines | false ↦ map reversed straight_outlines ]

-- the curves of a transition cell on the face at a place of these outlines
unfoldable pub face_in : Bool → Field → ℕ → Face → Point → ℕ → List (Key × Key)
face_in straight s level face low place =
    keyed (transition_key level face low) (polygon (transition_signs s level face low)
    (outline_at (outlines_in straight) place))

-- the coarse square, in either turn
coarse-in : (straight : Bool) (s : Field) (level : ℕ) (face : Face) (low : Point) → 1 ≤ level
    → AreInTurn (not straight) (face_in straight s level face low 4)
    (square_curves s level face low)
unfolding face_in outlines_in
coarse-in true s level face low some =
    turned_round s (IsSquare-coarse level face low some)
coarse-in false s level face low some =
    from_next s (IsSquare-coarse level face low some)

-- a fine square, in either turn, where its corners and edges are these
fine-in : (straight : Bool) (s : Field) (level : ℕ) (face : Face) (low : Point)
    (p pu uc vc pv place : ℕ) → IsSquare 9 (fine_point level face low)
    (transition_key level face low) (level - 1) face (fine_point level face low p) p (p + 1)
    (p + 3 + 1) (p + 3) pu uc vc pv
    → outline_at (outlines_in true) place ≡ record {
      corners = p ∷ (p + 1) ∷ (p + 3 + 1) ∷ (p + 3)
          ∷ [];
      sides = pu ∷ uc ∷ vc ∷ pv ∷ [];
    }
    → outline_at (outlines_in false) place ≡ record {
      corners = (p + 3) ∷ (p + 3 + 1) ∷ (p + 1)
          ∷ p ∷ [];
      sides = vc ∷ uc ∷ pu ∷ pv ∷ [];
    }
    → AreInTurn straight (face_in straight s level face low place)
    (square_curves s (level - 1) face (fine_point level face low p))
unfolding face_in
fine-in true s level face low p pu uc vc pv place is straight back = λ w.
    let key = transition_key level face low in
    let signs = transition_signs s level face low in
    ap (λ o. weight w (keyed key (polygon signs o))) straight
    ∙ in_order s is w
fine-in false s level face low p pu uc vc pv place is straight back = λ w.
    let key = transition_key level face low in
    let signs = transition_signs s level face low in
    ap (λ o. weight w (keyed key (polygon signs o))) back
    ∙ listed_back s is w

-- the curves of a transition cell on its coarse square are those of the square, in the other turn
pub coarse-square : (s : Field) (level : ℕ) (face : Face) (low : Point) → 1 ≤ level
    → AreInTurn (not (is_straight face)) (coarse_square s level face low)
    (square_curves s level face low)
unfolding face_in outlines_in
coarse-square s level face low some = coarse-in (is_straight face) s level face low some

-- the curves of a transition cell on a fine square are those of the square, in the face's turn
pub fine-square : (s : Field) (level : ℕ) (face : Face) (low : Point) (place : ℕ) → place < 4
    → AreInTurn (is_straight face) (fine_square s level face low place)
    (square_curves s (level - 1) face (fine_point level face low (fine_corner place)))
unfolding face_in outlines_in
fine-square s level face low zero lt =
    fine-in (is_straight face) s level face low 0 0 3 5 1 0
    (IsSquare-fine level face low 0 0 3 5 1 (omega arith) (omega arith) (omega arith)
    refl refl refl refl) refl refl
fine-square s level face low (suc zero) lt =
    fine-in (is_straight face) s level face low 1 2 4 7 3 1
    (IsSquare-fine level face low 1 2 4 7 3 (omega arith) (omega arith) (omega arith)
    refl refl refl refl) refl refl
fine-square s level face low (suc (suc zero)) lt =
    fine-in (is_straight face) s level face low 3 5 8 10 6 2
    (IsSquare-fine level face low 3 5 8 10 6 (omega arith) (omega arith) (omega arith)
    refl refl refl refl) refl refl
fine-square s level face low (suc (suc (suc zero))) lt =
    fine-in (is_straight face) s level face low 4 7 9 11 8 3
    (IsSquare-fine level face low 4 7 9 11 8 (omega arith) (omega arith) (omega arith)
    refl refl refl refl) refl refl
fine-square s level face low (suc (suc (suc (suc place)))) lt = absurd (omega arith)
