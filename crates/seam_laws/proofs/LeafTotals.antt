-- What a leaf's triangles leave open, and what of it lies on the border of the world. For the law
-- `leaves_leave_faces_and_rows` (docs/rules.md, "No crack between blocks", A leaf).
--
-- The regular cells leave the squares of six faces (`RegularTotals`), the transition cells of a face its fine squares
-- for the coarse ones, and the rows (`Transitions`). Both are told by lattice indices; the first half moves them to
-- nodes (`face_node`, `as-node`) and moves tests of the border from coordinates to indices (`keep-border`). Then
-- `leaf-open`, axis by axis, and the same for the border (`leaf-on_border`): a transitional face lies inside the world
-- (`face-inside`), so of it the border has rows alone.
use Rattle.std.proofs.Common.{◌≡◌, ℕ, suc, ◌+◌, ◌-◌, ◌*◌, ◌^◌, ◌<◌, ◌≤◌, Bool, true, false, inl, inr, List, [], ◌∷◌, map, refl, ap, sym, ◌∙◌, arith, add-one, pow-add, le_of_mul-le-mul_right}
use Rattle.std.specs.Prelude.{ℤ, pos, ◌+ℤ◌, ◌-ℤ◌, neg_ℤ, ◌||◌, ◌==◌}
use Rattle.std.specs.List.{flat_map}
use Rattle.std.proofs.lemmas.Int.{ints}
use Rattle.std.proofs.lemmas.Nat.{pow_pos}
use Rattle.std.proofs.lemmas.Bool.{cases_lt, and_parts, eqb-true, eq-eqb, ne_eqb, false≢true}
use Rattle.lattice.specs.declared.point.Axis.{Axis}
use Rattle.lattice.specs.declared.point.Axis.TheVariants.{X, Y, Z}
use Rattle.lattice.specs.declared.point.Face.{Face}
use Rattle.lattice.specs.declared.node.Node.{Node}
use Rattle.lattice.specs.declared.key.Key.{Key}
use Rattle.lattice.specs.Node.{nodes_across, IsNode}
use Rattle.lattice.specs.Settings.{world_side}
use Rattle.lattice.specs.Offset.{has_neighbour, neighbour, across}
use Rattle.terrain.specs.Curves.{all_edges}
use Rattle.terrain.specs.Samples.{Field}
use Rattle.terrain.specs.Levels.{LevelMap, is_transitional, IsOctree}
use Rattle.lattice.specs.Face.{lower, higher, faces}
use Rattle.terrain.specs.Cells.{corner_point, regular_signs, regular_key, regular_outlines, regular_triangles, fine_point, transition_signs, transition_key, transition_outlines, transition_triangles}
use Rattle.terrain.specs.Blocks.{over_cells, over_squares, over_transitional, block, border_curves, leaf_border}
use Rattle.cell_laws.specs.Squares.{low_face, high_face}
use Rattle.seam_laws.specs.Flows.{flow, when, turned}
use Rattle.seam_laws.specs.Seams.{int_sum, index, node_after, on_border, axis_on, Choice, all, face_flow, fine_flow, row_flow, rows_round, squares_of, rows_of, leaf_squares, leaf_rows}
use Rattle.seam_laws.proofs.NodePlaces.{node_at, transitional-last, transitional-first, on_border-inside}
use Rattle.seam_laws.proofs.InnerFaces.{pick}
use Rattle.seam_laws.proofs.FlowLemmas.{flow-none, flow-append, flow-flat_map, flow-edges}
use Rattle.seam_laws.proofs.CellFlows.{face_on}
use Rattle.seam_laws.proofs.LeafFlows.{sides-total}
use Rattle.seam_laws.proofs.RegularTotals.{ends, regular-total, border-total}
use Rattle.seam_laws.proofs.Transitions.{plane, face-total}
use Rattle.seam_laws.proofs.OnBorder.{lies}
use Rattle.seam_laws.proofs.BorderTransitions.{face-border}

-- ---- a node's low or high face, and its places

-- the node whose low face it is
abbrev face_node : Axis → Bool → Node → Node
face_node axis true n = node_after axis n
face_node axis false n = n

-- a node is the one at its own indices
as-node : (axis : Axis) (n : Node) → node_at n.level axis (index axis n)
    (index (axis_on axis lower) n) (index (axis_on axis higher) n) ≡ n
as-node X n = refl
as-node Y n = refl
as-node Z n = refl

-- the node whose low face it is, by indices
as-face_node : (axis : Axis) (high : Bool) (n : Node)
    → node_at n.level axis (plane high (index axis n)) (index (axis_on axis lower) n)
    (index (axis_on axis higher) n) ≡ face_node axis high n
as-face_node X true n = rw add-one refl
as-face_node X false n = refl
as-face_node Y true n = rw add-one refl
as-face_node Y false n = refl
as-face_node Z true n = rw add-one refl
as-face_node Z false n = refl

-- a node of the world has indices below the world's
index-in : (depth : ℕ) (axis : Axis) (n : Node) → IsNode depth n
    → index axis n < nodes_across depth n.level
index-in depth X n h = h.i
index-in depth Y n h = h.j
index-in depth Z n h = h.k

-- its index across the axis
face_node-index : (axis : Axis) (high : Bool) (n : Node)
    → index axis (face_node axis high n) ≡ plane high (index axis n)
face_node-index X true n = rw add-one refl
face_node-index X false n = refl
face_node-index Y true n = rw add-one refl
face_node-index Y false n = refl
face_node-index Z true n = rw add-one refl
face_node-index Z false n = refl

-- its index along the lower axis
face_node-lower : (axis : Axis) (high : Bool) (n : Node)
    → index (axis_on axis lower) (face_node axis high n) ≡ index (axis_on axis lower) n
face_node-lower X true n = refl
face_node-lower X false n = refl
face_node-lower Y true n = refl
face_node-lower Y false n = refl
face_node-lower Z true n = refl
face_node-lower Z false n = refl

-- its index along the higher axis
face_node-higher : (axis : Axis) (high : Bool) (n : Node)
    → index (axis_on axis higher) (face_node axis high n) ≡ index (axis_on axis higher) n
face_node-higher X true n = refl
face_node-higher X false n = refl
face_node-higher Y true n = refl
face_node-higher Y false n = refl
face_node-higher Z true n = refl
face_node-higher Z false n = refl

-- the next node's index
next-index : (axis : Axis) (n : Node) → index axis (node_after axis n) ≡ suc (index axis n)
next-index X n = add-one n.i
next-index Y n = add-one n.j
next-index Z n = add-one n.k

-- the next node's level
next-level : (axis : Axis) (n : Node) → (node_after axis n).level ≡ n.level
next-level X n = refl
next-level Y n = refl
next-level Z n = refl

-- its level
face_node-level : (axis : Axis) (high : Bool) (n : Node) → (face_node axis high n).level ≡ n.level
face_node-level X true n = refl
face_node-level X false n = refl
face_node-level Y true n = refl
face_node-level Y false n = refl
face_node-level Z true n = refl
face_node-level Z false n = refl

-- ---- the border, by places

-- two comparisons that follow from each other have the same value
same-test : (a b c d : ℕ) → (a ≡ b → c ≡ d) → (c ≡ d → a ≡ b) → (a == b) ≡ (c == d)
same-test a b c d there back = go (a == b) refl
  where
    go : (t : Bool) → (a == b) ≡ t → (a == b) ≡ (c == d)
    go true e = e ∙ sym (eq-eqb c d (there (eqb-true a b e)))
    go false e = e ∙ sym (ne_eqb c d (λ h. false≢true (sym e ∙ eq-eqb a b (back h))))

-- a coordinate is the world's side only where the index is the number of nodes
times-same : (h c n : ℕ) → 0 < h → h * (16 * c) ≡ 16 * (h * n) → c ≡ n
times-same h c n some e =
    let low : c ≤ n = le_of_mul-le-mul_right {k = h} (omega arith) some in
    let high : n ≤ c = le_of_mul-le-mul_right {k = h} (omega arith) some in
    omega arith

-- a coordinate is 0 only where the index is
times-zero : (h c : ℕ) → 0 < h → h * (16 * c) ≡ 0 → c ≡ 0
times-zero h c some e = times-same h c 0 some (omega arith)

-- an index 0 has the coordinate 0
from-zero : (h c : ℕ) → c ≡ 0 → h * (16 * c) ≡ 0
from-zero h c e = ap (λ c. h * (16 * c)) e ∙ omega arith

-- an index that is the number of nodes has the coordinate of the world's side
from-same : (h c n : ℕ) → c ≡ n → h * (16 * c) ≡ 16 * (h * n)
from-same h c n e = ap (λ c. h * (16 * c)) e ∙ omega arith

-- a plane of the lattice is on the border by its coordinate exactly where it is by a node's index
keep-border : (depth level : ℕ) (axis : Axis) (n : Node) (c : ℕ) → level ≤ depth → n.level ≡ level
    → index axis n ≡ c → lies depth (2 ^ level * (16 * c)) ≡ on_border depth axis n
keep-border depth level axis n c within at e =
    let h = 2 ^ level in
    let k : depth ≡ level + (depth - level) = omega arith in
    let side : world_side depth ≡ 16 * (h * nodes_across depth level) =
    ap (λ d. 16 * 2 ^ d) k ∙ ap (λ x. 16 * x) (pow-add 2 level (depth - level)) in
    let first : (h * (16 * c) == 0) ≡ (c == 0) =
    same-test (h * (16 * c)) 0 c 0 (times-zero h c (pow_pos level)) (λ e. from-zero h c e) in
    let last : (h * (16 * c) == world_side depth) ≡ (c == nodes_across depth level) =
    same-test (h * (16 * c)) (world_side depth) c (nodes_across depth level)
    (λ e. times-same h c (nodes_across depth level) (pow_pos level) (e ∙ side))
    (λ e. from-same h c (nodes_across depth level) e ∙ sym side) in
    (λ t. first t || last t) ∙ (λ t. (sym e t == 0) || (sym e t == nodes_across depth (sym at t)))

-- ---- transitional faces

-- a transitional face lies inside the world
face-inside : (depth : ℕ) (m : LevelMap) (n : Node) → IsNode depth n → (axis : Axis) (high : Bool)
    → is_transitional depth m n (face_on axis high) ≡ true
    → on_border depth axis (face_node axis high n) ≡ false
face-inside depth m n n_in axis true is_fine =
    let c = index axis n in
    let u = index (axis_on axis lower) n in
    let v = index (axis_on axis higher) n in
    let at = face_node-index axis true n in
    let across : nodes_across depth (node_after axis n).level ≡ nodes_across depth n.level =
    ap (nodes_across depth) (face_node-level axis true n) in
    elim (cases_lt (c + 1) (nodes_across depth n.level)) [
      | inl below ↦ on_border-inside depth axis (node_after axis n) (omega (arith, at))
          (omega (arith, at, across))
      | inr last ↦ absurd
          (false≢true (sym (ap (λ n. is_transitional depth m n (high_face axis))
          (sym (as-node axis n)) ∙ transitional-last depth m n.level axis c u v
          (omega (arith, index-in depth axis n n_in))) ∙ is_fine))
    ]
face-inside depth m n n_in axis false is_fine =
    let c = index axis n in
    let u = index (axis_on axis lower) n in
    let v = index (axis_on axis higher) n in
    elim (cases_lt 0 c) [
      | inl some ↦ on_border-inside depth axis n some (index-in depth axis n n_in)
      | inr first ↦
          let e : c ≡ 0 = omega arith in
          absurd (false≢true (sym (ap (λ n. is_transitional depth m n (low_face axis))
          (sym (as-node axis n))
          ∙ (λ t. is_transitional depth m (node_at n.level axis (e t) u v) (low_face axis))
          ∙ transitional-first depth m n.level axis u v) ∙ is_fine))
    ]

module _ (w : Key → Key → ℕ) (s : Field) (depth : ℕ) (m : LevelMap) (tree : IsOctree depth m)
    (n : Node) (n_in : IsNode depth n) (axis : Axis) (high : Bool) where
  -- the node whose low face it is
  abbrev node : Node
  node = face_node axis high n

  -- a leaf with a transitional face has level 1 or more
  fine-level : is_transitional depth m n (face_on axis high) ≡ true → 1 ≤ n.level
  fine-level is_fine =
      let d = across (face_on axis high) in
      tree.level (neighbour d n) (and_parts (has_neighbour depth d n) (m (neighbour d n)) is_fine).1

  -- the transition cells of a transitional face
  cells-open : is_transitional depth m n (face_on axis high) ≡ true
      → flow w (all_edges (over_squares n (face_on axis high)
      (transition_triangles s n.level (face_on axis high))))
      ≡ turned high ((fine_flow w s axis node -ℤ face_flow w s axis node)
      +ℤ rows_round w s all axis node)
  cells-open is_fine =
      let c = index axis n in
      let u = index (axis_on axis lower) n in
      let v = index (axis_on axis higher) n in
      let to = as-face_node axis high n in
      ap (λ n'. flow w (all_edges (over_squares n' (face_on axis high)
      (transition_triangles s n.level (face_on axis high))))) (sym (as-node axis n))
      ∙ face-total w s n.level axis high c u v (fine-level is_fine)
      ∙ (λ t. turned high ((fine_flow w s axis (to t) -ℤ face_flow w s axis (to t))
      +ℤ rows_round w s all axis (to t)))

  -- what of their curves lies on the border
  cells-border : is_transitional depth m n (face_on axis high) ≡ true
      → flow w (over_squares n (face_on axis high)
      (λ low. border_curves depth (fine_point n.level (face_on axis high) low)
      (transition_key n.level (face_on axis high) low)
      (transition_signs s n.level (face_on axis high) low)
      (transition_outlines (face_on axis high))))
      ≡ turned high (rows_round w s (on_border depth) axis node)
  unfolding rows_round
  cells-border is_fine =
      let c = index axis n in
      let u = index (axis_on axis lower) n in
      let v = index (axis_on axis higher) n in
      let to = as-face_node axis high n in
      let kept : ℕ → Bool = λ x. lies depth (2 ^ n.level * x) in
      let level = face_node-level axis high n in
      let off : kept (16 * plane high c) ≡ false =
      keep-border depth n.level axis node (plane high c) n_in.level level
      (face_node-index axis high n) ∙ face-inside depth m n n_in axis high is_fine in
      let at : (side : Axis) (k : ℕ) → index side node ≡ k
      → kept (16 * k) ≡ on_border depth side node =
      λ side k e. keep-border depth n.level side node k n_in.level level e in
      let after : (side : Axis) (k : ℕ) → index side node ≡ k
      → kept (16 * suc k) ≡ on_border depth side (node_after side node) =
      λ side k e. keep-border depth n.level side (node_after side node) (suc k) n_in.level
      (next-level side node ∙ level) (next-index side node ∙ ap suc e) in
      let on_u : index (axis_on axis lower) node ≡ u = face_node-lower axis high n in
      let on_v : index (axis_on axis higher) node ≡ v = face_node-higher axis high n in
      let curves : Node → List (Key × Key) =
      λ n'. over_squares n' (face_on axis high)
      (λ low. border_curves depth (fine_point n.level (face_on axis high) low)
      (transition_key n.level (face_on axis high) low)
      (transition_signs s n.level (face_on axis high) low)
      (transition_outlines (face_on axis high))) in
      ap (λ n'. flow w (curves n')) (sym (as-node axis n))
      ∙ face-border w s depth n.level axis high c u v (fine-level is_fine) off
      ∙ ap (turned high) (sides-total w s n.level axis kept kept (plane high c) u v
      ∙ (λ t. (when (kept (16 * v)) (row_flow w s axis lower (to t)) -ℤ when (kept (16 * suc v))
      (row_flow w s axis lower (node_after (axis_on axis higher) (to t))))
      +ℤ (when (kept (16 * suc u))
      (row_flow w s axis higher (node_after (axis_on axis lower) (to t)))
      -ℤ when (kept (16 * u)) (row_flow w s axis higher (to t))))
      ∙ (λ t. (when (at (axis_on axis higher) v on_v t) (row_flow w s axis lower node)
      -ℤ when (after (axis_on axis higher) v on_v t)
      (row_flow w s axis lower (node_after (axis_on axis higher) node)))
      +ℤ (when (after (axis_on axis lower) u on_u t)
      (row_flow w s axis higher (node_after (axis_on axis lower) node))
      -ℤ when (at (axis_on axis lower) u on_u t) (row_flow w s axis higher node))))

-- ---- what a leaf leaves open

-- numbers that are the same where a test passes are the same under it
under : (b : Bool) (x y : ℤ) → (b ≡ true → x ≡ y) → when b x ≡ when b y
under true x y same = same refl
under false x y same = refl

module _ (w : Key → Key → ℕ) where
  -- the flow of triangles that are there only where a test passes
  edges-one : (b : Bool) (xs : List (List Key))
      → flow w (all_edges (elim b as (λ _. List (List Key)) [ true ↦ xs | false ↦ [] ]))
      ≡ when b (flow w (all_edges xs))
  edges-one true xs = refl
  edges-one false xs = flow-none w

  -- the same of edges
  flow-one : (b : Bool) (xs : List (Key × Key))
      → flow w (elim b as (λ _. List (Key × Key)) [ true ↦ xs | false ↦ [] ]) ≡ when b (flow w xs)
  flow-one true xs = refl
  flow-one false xs = flow-none w

  -- the flow of the triangles of a list for each item
  edges-flat_map : {A : Type 0} (f : A → List (List Key)) (xs : List A)
      → flow w (all_edges (flat_map f xs)) ≡ int_sum (map (λ x. flow w (all_edges (f x))) xs)
  edges-flat_map f [] = flow-none w
  edges-flat_map f (x ∷ xs) = flow-edges w (f x) (flat_map f xs)
      ∙ ap (λ y. flow w (all_edges (f x)) +ℤ y) (edges-flat_map f xs)

-- the fine squares for the coarse ones, and the rows, of both faces across an axis
open-at : (low high : Bool) (a b c d e f : ℤ)
    → (b -ℤ a) +ℤ (when low (neg_ℤ ((c -ℤ a) +ℤ e)) +ℤ when high ((d -ℤ b) +ℤ f))
    ≡ (pick high d b -ℤ pick low c a) +ℤ (when high f -ℤ when low e)
open-at true true a b c d e f = omega (arith, ints)
open-at true false a b c d e f = omega (arith, ints)
open-at false true a b c d e f = omega (arith, ints)
open-at false false a b c d e f = omega (arith, ints)

-- the squares of a face, all planes counted
squares-all : (w : Key → Key → ℕ) (s : Field) (b : Bool) (axis : Axis) (n : Node)
    → pick b (fine_flow w s axis n) (face_flow w s axis n) ≡ squares_of w s all b axis n
unfolding squares_of
squares-all w s true axis n = refl
squares-all w s false axis n = refl

-- no transitional face lies on the border
squares-border : (w : Key → Key → ℕ) (s : Field) (depth : ℕ) (b : Bool) (axis : Axis) (n : Node)
    → (b ≡ true → on_border depth axis n ≡ false)
    → squares_of w s (on_border depth) b axis n ≡ when (on_border depth axis n)
    (face_flow w s axis n)
unfolding squares_of
squares-border w s depth true axis n inside =
    λ t. when-none (on_border depth axis n) (fine_flow w s axis n) (face_flow w s axis n)
    (inside refl) t
  where
    when-none : (b : Bool) (x y : ℤ) → b ≡ false → when b x ≡ when b y
    when-none b x y e = rw e refl
squares-border w s depth false axis n inside = refl

-- a sum in another order: a negative number under a test
less-low : (b : Bool) (x y z : ℤ) → x +ℤ (when b (neg_ℤ y) +ℤ z) ≡ x +ℤ (z -ℤ when b y)
less-low true x y z = omega (arith, ints)
less-low false x y z = omega (arith, ints)

-- a sum in another order: six faces after three pairs of ends, by axis
by-axes : (a b c d e f g h i : ℤ) → (a +ℤ (b +ℤ c)) +ℤ
    (d +ℤ (e +ℤ (f +ℤ (g +ℤ (h +ℤ (i +ℤ pos 0)))))) ≡ (a +ℤ (d +ℤ e)) +ℤ
    ((b +ℤ (f +ℤ g)) +ℤ (c +ℤ (h +ℤ i)))
by-axes a b c d e f g h i = omega (arith, ints)

-- a sum in another order: squares and rows of three axes, by kind
by-kinds : (a b c d e f : ℤ) → (a +ℤ b) +ℤ ((c +ℤ d) +ℤ (e +ℤ f))
    ≡ (a +ℤ (c +ℤ e)) +ℤ (b +ℤ (d +ℤ f))
by-kinds a b c d e f = omega (arith, ints)

module _ (w : Key → Key → ℕ) (s : Field) (depth : ℕ) (m : LevelMap) (tree : IsOctree depth m)
    (n : Node) (n_in : IsNode depth n) where
  -- whether the leaf's face is transitional
  abbrev is_fine : Axis → Bool → Bool
  is_fine axis high = is_transitional depth m n (face_on axis high)

  -- the squares and rows of one axis
  abbrev axis_squares : Choice → Axis → ℤ
  axis_squares choice axis = squares_of w s choice (is_fine axis true) axis (node_after axis n)
      -ℤ squares_of w s choice (is_fine axis false) axis n

  -- the rows of one axis
  abbrev axis_rows : Choice → Axis → ℤ
  axis_rows choice axis = rows_of w s choice (is_fine axis true) axis (node_after axis n)
      -ℤ rows_of w s choice (is_fine axis false) axis n

  -- what the transition cells say of an axis
  abbrev opened : Axis → ℤ
  opened axis =
      when (is_fine axis false)
      (neg_ℤ ((fine_flow w s axis n -ℤ face_flow w s axis n) +ℤ rows_round w s all axis n))
      +ℤ when (is_fine axis true)
      ((fine_flow w s axis (node_after axis n) -ℤ face_flow w s axis (node_after axis n))
      +ℤ rows_round w s all axis (node_after axis n))

  -- what regular and transition cells leave open across an axis, together
  axis-open : (axis : Axis) → ends w s n (λ c. true) axis +ℤ opened axis
      ≡ axis_squares all axis +ℤ axis_rows all axis
  unfolding rows_of
  axis-open axis =
      let bl = is_fine axis false in
      let bh = is_fine axis true in
      let after = node_after axis n in
      open-at bl bh (face_flow w s axis n) (face_flow w s axis after) (fine_flow w s axis n)
      (fine_flow w s axis after) (rows_round w s all axis n) (rows_round w s all axis after)
      ∙ (λ t. (squares-all w s bh axis after t -ℤ squares-all w s bl axis n t)
      +ℤ axis_rows all axis)

  -- the transition cells of a face, if it has any
  face-open : (axis : Axis) (high : Bool)
      → flow w (all_edges (elim (is_fine axis high) as (λ _. List (List Key)) [
        | true ↦ over_squares n (face_on axis high)
            (transition_triangles s n.level (face_on axis high))
        | false ↦ []
      ]))
      ≡ (let p = face_node axis high n in
      when (is_fine axis high)
      (turned high ((fine_flow w s axis p -ℤ face_flow w s axis p)
      +ℤ rows_round w s all axis p)))
  face-open axis high =
      let p = face_node axis high n in
      let cells = over_squares n (face_on axis high)
      (transition_triangles s n.level (face_on axis high)) in
      edges-one w (is_fine axis high) cells
      ∙ under (is_fine axis high) (flow w (all_edges cells))
      (turned high ((fine_flow w s axis p -ℤ face_flow w s axis p)
      +ℤ rows_round w s all axis p)) (cells-open w s depth m tree n n_in axis high)

  -- what a leaf's triangles leave open: the squares of its faces, and the rows of lateral faces
  pub leaf-open : flow w (all_edges (block depth s m n))
      ≡ leaf_squares w s all depth m n +ℤ leaf_rows w s all depth m n
  unfolding block leaf_squares leaf_rows
  leaf-open =
      let e : Axis → ℤ = ends w s n (λ c. true) in
      let t' : Axis → Bool → ℤ = λ axis high. (let p = face_node axis high n in
      when (is_fine axis high)
      (turned high ((fine_flow w s axis p -ℤ face_flow w s axis p)
      +ℤ rows_round w s all axis p))) in
      let cells : Face → List (List Key) =
      λ face. over_squares n face (transition_triangles s n.level face) in
      flow-edges w (over_cells n (regular_triangles s n.level)) (over_transitional depth m n cells)
      ∙ (λ t. regular-total w s n t +ℤ edges-flat_map w
      (λ face. elim (is_transitional depth m n face) as (λ _. List (List Key))
      [ true ↦ cells face | false ↦ [] ]) faces t)
      ∙ (λ t. (e X +ℤ (e Y +ℤ e Z)) +ℤ (face-open X false t +ℤ
      (face-open X true t +ℤ (face-open Y false t +ℤ
      (face-open Y true t +ℤ (face-open Z false t +ℤ (face-open Z true t +ℤ pos 0)))))))
      ∙ by-axes (e X) (e Y) (e Z) (t' X false) (t' X true) (t' Y false) (t' Y true) (t' Z false)
      (t' Z true)
      ∙ (λ t. axis-open X t +ℤ (axis-open Y t +ℤ axis-open Z t))
      ∙ by-kinds (axis_squares all X) (axis_rows all X) (axis_squares all Y) (axis_rows all Y)
      (axis_squares all Z) (axis_rows all Z)

  -- ---- on the border

  -- whether a plane of the lattice is on the border
  abbrev kept : ℕ → Bool
  kept c = lies depth (2 ^ n.level * c)

  -- what regular cells leave on the border across an axis, by nodes
  ends-border : (axis : Axis) → ends w s n kept axis
      ≡ when (on_border depth axis (node_after axis n)) (face_flow w s axis (node_after axis n))
      -ℤ when (on_border depth axis n) (face_flow w s axis n)
  ends-border axis =
      λ t. when (keep-border depth n.level axis (node_after axis n) (suc (index axis n)) n_in.level
      (next-level axis n) (next-index axis n) t) (face_flow w s axis (node_after axis n))
      -ℤ when (keep-border depth n.level axis n (index axis n) n_in.level refl refl t)
      (face_flow w s axis n)

  -- what regular and transition cells leave on the border across an axis, together
  axis-border : (axis : Axis)
      → ends w s n kept axis +ℤ (when (is_fine axis false)
      (neg_ℤ (rows_round w s (on_border depth) axis n)) +ℤ when (is_fine axis true)
      (rows_round w s (on_border depth) axis (node_after axis n)))
      ≡ axis_squares (on_border depth) axis +ℤ axis_rows (on_border depth) axis
  unfolding rows_of
  axis-border axis =
      let bl = is_fine axis false in
      let bh = is_fine axis true in
      let after = node_after axis n in
      let low = rows_round w s (on_border depth) axis n in
      let high = rows_round w s (on_border depth) axis after in
      (λ t. ends-border axis t +ℤ (when bl (neg_ℤ low) +ℤ when bh high))
      ∙ (λ t. (sym (squares-border w s depth bh axis after (face-inside depth m n n_in axis true))
      t -ℤ sym (squares-border w s depth bl axis n (face-inside depth m n n_in axis false)) t)
      +ℤ (when bl (neg_ℤ low) +ℤ when bh high))
      ∙ less-low bl (axis_squares (on_border depth) axis) low (when bh high)

  -- the transition cells of a face, if it has any, on the border
  face-border-one : (axis : Axis) (high : Bool)
      → (let face = face_on axis high in
      flow w (elim (is_fine axis high) as (λ _. List (Key × Key)) [
        | true ↦ over_squares n face (λ low. border_curves depth (fine_point n.level face low)
            (transition_key n.level face low) (transition_signs s n.level face low)
            (transition_outlines face))
        | false ↦ []
      ])
      ≡ when (is_fine axis high)
      (turned high (rows_round w s (on_border depth) axis (face_node axis high n))))
  face-border-one axis high =
      let face = face_on axis high in
      let curves = over_squares n face (λ low. border_curves depth (fine_point n.level face low)
      (transition_key n.level face low) (transition_signs s n.level face low)
      (transition_outlines face)) in
      flow-one w (is_fine axis high) curves
      ∙ under (is_fine axis high) (flow w curves)
      (turned high (rows_round w s (on_border depth) axis (face_node axis high n)))
      (cells-border w s depth m tree n n_in axis high)

  -- what of it lies on the border of the world
  pub leaf-on_border : flow w (leaf_border depth s m n) ≡ leaf_squares w s (on_border depth)
      depth m n +ℤ leaf_rows w s (on_border depth) depth m n
  unfolding leaf_squares leaf_rows
  leaf-on_border =
      let e : Axis → ℤ = ends w s n kept in
      let t' : Axis → Bool → ℤ = λ axis high. when (is_fine axis high)
      (turned high (rows_round w s (on_border depth) axis (face_node axis high n))) in
      let curves : Face → List (Key × Key) =
      λ face. over_squares n face (λ low. border_curves depth (fine_point n.level face low)
      (transition_key n.level face low) (transition_signs s n.level face low)
      (transition_outlines face)) in
      flow-append w (over_cells n (λ low. border_curves depth (corner_point n.level low)
      (regular_key n.level low) (regular_signs s n.level low) regular_outlines))
      (over_transitional depth m n curves)
      ∙ (λ t. border-total w s n depth t +ℤ flow-flat_map w
      (λ face. elim (is_transitional depth m n face) as (λ _. List (Key × Key))
      [ true ↦ curves face | false ↦ [] ]) faces t)
      ∙ (λ t. (e X +ℤ (e Y +ℤ e Z)) +ℤ (face-border-one X false t +ℤ
      (face-border-one X true t +ℤ (face-border-one Y false t +ℤ
      (face-border-one Y true t +ℤ (face-border-one Z false t +ℤ
      (face-border-one Z true t +ℤ pos 0)))))))
      ∙ by-axes (e X) (e Y) (e Z) (t' X false) (t' X true) (t' Y false) (t' Y true) (t' Z false)
      (t' Z true)
      ∙ (λ t. axis-border X t +ℤ (axis-border Y t +ℤ axis-border Z t))
      ∙ by-kinds (axis_squares (on_border depth) X) (axis_rows (on_border depth) X)
      (axis_squares (on_border depth) Y) (axis_rows (on_border depth) Y)
      (axis_squares (on_border depth) Z) (axis_rows (on_border depth) Z)
