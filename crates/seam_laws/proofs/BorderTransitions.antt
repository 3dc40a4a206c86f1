-- What the transition cells of a leaf's face have on the border of the world, added up: `face-border`, for
-- `LeafTotals`.
--
-- Of a cell's nine faces the five squares lie inside the world, as its leaf's face does, and a lateral face is counted
-- where its row of the lattice is on the border (`cell-border`, from `BorderCells`). All cells of the face then are a
-- sum of `four_sides` with that test, which `LeafFlows` adds up.
use Rattle.std.proofs.Common.{◌≡◌, ℕ, suc, ◌+◌, ◌-◌, ◌*◌, ◌^◌, ◌<◌, ◌≤◌, Bool, true, false, List, map, refl, ap, ◌∙◌, arith}
use Rattle.std.specs.Prelude.{ℤ, pos, ◌+ℤ◌, ◌-ℤ◌, neg_ℤ}
use Rattle.std.proofs.Math.Nat.{pow-suc}
use Rattle.std.proofs.lemmas.Int.{ints}
use Rattle.lattice.specs.declared.point.Point.{Point}
use Rattle.lattice.specs.declared.point.Axis.{Axis}
use Rattle.lattice.specs.declared.point.Axis.TheVariants.{X, Y, Z}
use Rattle.lattice.specs.declared.key.Key.{Key}
use Rattle.lattice.specs.Lists.{joined}
use Rattle.lattice.specs.Point.{coordinate}
use Rattle.terrain.specs.Samples.{Field}
use Rattle.terrain.specs.Cells.{Outline, polygon, is_straight, fine_point, transition_signs, transition_key, transition_outlines}
use Rattle.lattice.specs.Face.{FaceAxis, lower, higher}
use Rattle.terrain.specs.Blocks.{lie_on_border, border_curves, square_corner, over_squares}
use Rattle.cell_laws.specs.Squares.{low_face, keyed, outline_at, transition_face}
use Rattle.seam_laws.specs.Flows.{flow, total, when, turned}
use Rattle.seam_laws.specs.Seams.{axis_on, segment_flow}
use Rattle.seam_laws.proofs.FlowLemmas.{flow-filter, flow-joined}
use Rattle.seam_laws.proofs.NumberSums.{total-same}
use Rattle.seam_laws.proofs.NodePlaces.{node_at}
use Rattle.seam_laws.proofs.LowFaceSquares.{point_at}
use Rattle.seam_laws.proofs.OnBorder.{lies}
use Rattle.seam_laws.proofs.CellFlows.{face_on, lateral-flow}
use Rattle.seam_laws.proofs.BorderCells.{outlines, nine-outlines, at-square, at-lower-near, at-higher-far, at-lower-far, at-higher-near}
use Rattle.seam_laws.proofs.LeafFlows.{square-same, segment_at, four_sides}
use Rattle.seam_laws.proofs.Transitions.{plane, fine-on, start-at, square-corner, square-turned}

-- ---- where the points of the lattice lie

-- the coordinate of a point of the lattice across the axis
across-at : (level : ℕ) (axis : Axis) (c u v : ℕ)
    → coordinate axis (point_at level axis c u v) ≡ 2 ^ level * c
across-at level X c u v = refl
across-at level Y c u v = refl
across-at level Z c u v = refl

-- along the lower axis
lower-at : (level : ℕ) (axis : Axis) (c u v : ℕ)
    → coordinate (axis_on axis lower) (point_at level axis c u v) ≡ 2 ^ level * u
lower-at level X c u v = refl
lower-at level Y c u v = refl
lower-at level Z c u v = refl

-- along the higher axis
higher-at : (level : ℕ) (axis : Axis) (c u v : ℕ)
    → coordinate (axis_on axis higher) (point_at level axis c u v) ≡ 2 ^ level * v
higher-at level X c u v = refl
higher-at level Y c u v = refl
higher-at level Z c u v = refl

-- the near side of a cell is where the cell is
near : (h x y : ℕ) → x ≡ y → x + h * 0 ≡ y
near h x y e = omega arith

-- the far side of a cell is one index further
far : (level x v : ℕ) → 1 ≤ level → x ≡ 2 ^ level * v → x + 2 ^ (level - 1) * 2 ≡ 2 ^ level * suc v
far level x v some e =
    let up : level ≡ suc (level - 1) = omega arith in
    let twice : 2 ^ level ≡ 2 * 2 ^ (level - 1) = ap (λ k. 2 ^ k) up ∙ pow-suc 2 (level - 1)
    ∙ omega arith in
    omega arith

-- a test before a turn
when-turned : (b high : Bool) (x : ℤ) → when b (turned high x) ≡ turned high (when b x)
when-turned true high x = refl
when-turned false true x = refl
when-turned false false x = refl

-- a test before a turn and a sign
when-back : (b high : Bool) (x : ℤ) → when b (turned high (neg_ℤ x))
    ≡ turned high (neg_ℤ (when b x))
when-back true high x = refl
when-back false true x = refl
when-back false false x = refl

-- of nine faces four stay, in two differences
four : (high : Bool) (a b c d : ℤ)
    → pos 0 +ℤ
    (pos 0 +ℤ
    (pos 0 +ℤ
    (pos 0 +ℤ (pos 0 +ℤ (turned high a +ℤ
    (turned high b +ℤ (turned high (neg_ℤ c) +ℤ (turned high (neg_ℤ d) +ℤ pos 0))))))))
    ≡ turned high ((a -ℤ c) +ℤ (b -ℤ d))
four true a b c d = omega (arith, ints)
four false a b c d = omega (arith, ints)

module _ (w : Key → Key → ℕ) (s : Field) (depth level : ℕ) (axis : Axis) (high : Bool) where
  -- whether a plane of the lattice is on the border
  abbrev pub keep : ℕ → Bool
  keep c = lies depth (2 ^ level * c)

  -- the curves of one transition cell that lie in the border
  curves_at : Point → List (Key × Key)
  curves_at low =
      border_curves depth (fine_point level (face_on axis high) low)
      (transition_key level (face_on axis high) low)
      (transition_signs s level (face_on axis high) low)
      (transition_outlines (face_on axis high))

  -- one transition cell of a face inside the world
  cell-border : (c u v : ℕ) → 1 ≤ level → keep c ≡ false
      → flow w (curves_at (point_at level axis c u v))
      ≡ turned high (four_sides w s level axis keep keep c u v)
  unfolding curves_at
  cell-border c u v some off =
      let low = point_at level axis c u v in
      let face = face_on axis high in
      let straight = is_straight face in
      let points : ℕ → Point = fine_point level face low in
      let curves : Outline → List (Key × Key) =
      λ face'. keyed (transition_key level face low)
      (polygon (transition_signs s level face low) face') in
      let test : ℕ → Bool = λ place. lie_on_border depth
      (map points (outline_at (outlines straight) place).corners) in
      let on : (place : ℕ) → test place ≡ lie_on_border depth
      (map (fine_point level (low_face axis) low)
      (outline_at (outlines straight) place).corners) =
      λ place. λ t. lie_on_border depth (map (λ n. fine-on level axis high low n t)
      (outline_at (outlines straight) place).corners) in
      let inside : lies depth (coordinate axis low) ≡ false =
      ap (lies depth) (across-at level axis c u v) ∙ off in
      let x : FaceAxis → ℕ → ℕ → ℤ = λ along u v. segment_at w s level axis along c u v in
      let none : (place : ℕ) → place < 5
      → when (test place) (flow w (transition_face s level face low place)) ≡ pos 0 =
      λ place few. ap (λ b. when b (flow w (transition_face s level face low place))) (on place
      ∙ at-square depth level axis low inside straight place few) in
      let lower-near : test 5 ≡ keep v = on 5 ∙ at-lower-near depth level axis low inside straight
      ∙ ap (lies depth) (near (2 ^ (level - 1)) _ _ (higher-at level axis c u v)) in
      let higher-far : test 6 ≡ keep (suc u) = on 6
      ∙ at-higher-far depth level axis low inside straight
      ∙ ap (lies depth) (far level _ u some (lower-at level axis c u v)) in
      let lower-far : test 7 ≡ keep (suc v) = on 7
      ∙ at-lower-far depth level axis low inside straight
      ∙ ap (lies depth) (far level _ v some (higher-at level axis c u v)) in
      let higher-near : test 8 ≡ keep u = on 8 ∙ at-higher-near depth level axis low inside straight
      ∙ ap (lies depth) (near (2 ^ (level - 1)) _ _ (lower-at level axis c u v)) in
      flow-filter w curves (λ face'. lie_on_border depth (map points face'.corners))
      (outlines straight)
      ∙ nine-outlines straight (λ face'. when (lie_on_border depth (map points face'.corners))
      (flow w (curves face')))
      ∙ (λ t. none 0 (omega arith) t +ℤ (none 1 (omega arith) t +ℤ
      (none 2 (omega arith) t +ℤ (none 3 (omega arith) t +ℤ (none 4 (omega arith) t
      +ℤ (when (lower-near t) (lateral-flow w s level axis high low lower false some t) +ℤ
      (when (higher-far t) (lateral-flow w s level axis high low higher true some t)
      +ℤ (when (lower-far t) (lateral-flow w s level axis high low lower true some t) +ℤ
      (when (higher-near t) (lateral-flow w s level axis high low higher false some t)
      +ℤ pos 0)))))))))
      ∙ (λ t. pos 0 +ℤ (pos 0 +ℤ (pos 0 +ℤ (pos 0 +ℤ (pos 0
      +ℤ (when (keep v) (turned high (segment_flow w s level axis lower
      (start-at level axis high lower false c u v t)))
      +ℤ (when (keep (suc u)) (turned high (segment_flow w s level axis higher
      (start-at level axis high higher true c u v t)))
      +ℤ (when (keep (suc v))
      (turned high (neg_ℤ (segment_flow w s level axis lower
      (start-at level axis high lower true c u v t))))
      +ℤ (when (keep u)
      (turned high (neg_ℤ (segment_flow w s level axis higher
      (start-at level axis high higher false c u v t)))) +ℤ pos 0)))))))))
      ∙ (λ t. pos 0 +ℤ (pos 0 +ℤ (pos 0 +ℤ (pos 0 +ℤ (pos 0
      +ℤ (when-turned (keep v) high (x lower u v) t +ℤ
      (when-turned (keep (suc u)) high (x higher (suc u) v) t
      +ℤ (when-back (keep (suc v)) high (x lower u (suc v)) t +ℤ
      (when-back (keep u) high (x higher u v) t +ℤ pos 0)))))))))
      ∙ four high (when (keep v) (x lower u v)) (when (keep (suc u)) (x higher (suc u) v))
      (when (keep (suc v)) (x lower u (suc v))) (when (keep u) (x higher u v))

  -- all transition cells of a face inside the world
  pub face-border : (c u v : ℕ) → 1 ≤ level → keep (16 * plane high c) ≡ false
      → flow w (over_squares (node_at level axis c u v) (face_on axis high)
      (λ low. border_curves depth (fine_point level (face_on axis high) low)
      (transition_key level (face_on axis high) low)
      (transition_signs s level (face_on axis high) low)
      (transition_outlines (face_on axis high))))
      ≡ turned high
      (total 16 (λ b. total 16 (λ a. four_sides w s level axis keep keep (16 * plane high c)
      (16 * u + a) (16 * v + b))))
  unfolding over_squares curves_at
  face-border c u v some off =
      let face = face_on axis high in
      let p = plane high c in
      let n = node_at level axis c u v in
      let one : ℕ → ℕ → ℤ = λ a b. flow w (curves_at (square_corner n face b a)) in
      let sides : ℕ → ℕ → ℤ = λ a b. four_sides w s level axis keep keep (16 * p) (16 * u + a)
      (16 * v + b) in
      flow-joined w 16 (λ b. joined 16 (λ a. curves_at (square_corner n face b a)))
      ∙ total-same 16 (λ b. flow w (joined 16 (λ a. curves_at (square_corner n face b a))))
      (λ b. total 16 (λ a. one a b)) (λ b b_in. flow-joined w 16
      (λ a. curves_at (square_corner n face b a)))
      ∙ square-same one (λ a b. turned high (sides a b)) (λ a b a_in b_in.
      ap (λ low. flow w (curves_at low)) (square-corner level axis high c u v b a)
      ∙ cell-border (16 * p) (16 * u + a) (16 * v + b) some off)
      ∙ square-turned high sides
