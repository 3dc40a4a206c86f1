-- What holds of all keys of a leaf's block: that they lie in its closed cube, for `triangles_lie_in_their_leaf`, and
-- that they are keys of the world.
--
-- Each key of a regular cell is an edge of the leaf's cells (`regular-hold`), and each key of a transition cell is one,
-- or an edge of the level below on the leaf's face (`transition-hold`), whatever its number. So what holds of these
-- edges holds of all keys of the leaf's block, cell by cell and square by square (`block-hold`), and of those that a
-- mesh lists (`keys-hold`).
use Rattle.std.proofs.Common.{◌≡◌, ℕ, zero, suc, ◌+◌, ◌-◌, ◌*◌, ◌/◌, ◌%◌, ◌<◌, ◌≤◌, Bool, true, false, List, [], ◌∷◌, ◌++◌, get_or, map, inl, inr, refl, sym, subst, arith}
use Rattle.std.specs.Prelude.{All, ◌&&◌, ◌==◌, if◌then◌else◌, nat_lt}
use Rattle.std.specs.List.{flat_map, list_all, list_any}
use Rattle.std.proofs.lemmas.Bool.{and_parts, cases_Bool, cases_lt, eqb-true, ltb-true}
use Rattle.std.proofs.lemmas.List.{get_or_past}
use Rattle.std.proofs.lemmas.List.Elements.{All-append, All-head, All-map, All-nil, All-push, All-tail}
use Rattle.lattice.proofs.JoinedLemmas.{All-joined}
use Rattle.lattice.specs.declared.key.Key.{Key}
use Rattle.lattice.specs.declared.node.Node.{Node}
use Rattle.lattice.specs.declared.node.TheConstants.{CELLS}
use Rattle.lattice.specs.declared.point.Axis.{Axis}
use Rattle.lattice.specs.declared.point.Axis.TheVariants.{X, Y, Z}
use Rattle.lattice.specs.declared.point.Face.{Face}
use Rattle.lattice.specs.declared.point.Face.TheVariants.{XLow, XHigh, YLow, YHigh, ZLow, ZHigh}
use Rattle.lattice.specs.declared.point.Point.{Point}
use Rattle.lattice.specs.Face.{FaceAxis, axis_along, faces, higher, lower}
use Rattle.lattice.specs.Key.{is_same_key}
use Rattle.lattice.specs.Lists.{joined}
use Rattle.lattice.specs.Offset.{across, has_neighbour, neighbour}
use Rattle.lattice.specs.Point.{moved}
use Rattle.lattice.specs.Steps.{AreAtMost, face_steps, key_at}
use Rattle.terrain.specs.Blocks.{block, cell_corner, keys_of, over_cells, over_squares, square_corner, with_key, with_keys}
use Rattle.terrain.specs.Cells.{CellEdge, TransitionEdge, corner_point, regular_edges, regular_key, regular_triangles, transition_edges, transition_key, transition_triangles}
use Rattle.terrain.specs.Levels.{IsBalanced, LevelMap, is_transitional}
use Rattle.terrain.specs.Samples.{Field}
use Rattle.cells.specs.Edges.{regular_edge, transition_edge}
use Rattle.block_mesh.proofs.FaceStepLemmas.{face_steps-higher, face_steps-lower}
use Rattle.block_mesh.proofs.LeafCellLemmas.{cell_key-at}
use Rattle.block_mesh.proofs.SquareKeyLemmas.{FitsSquare, edge-fits, edge_key-coarse, edge_key-fine, starts}

-- ---- edges of regular cells

-- whether a corner is the low end of an edge along an axis
abbrev rises : Axis → ℕ → Bool
rises X corner = corner % 2 == 0
rises Y corner = corner / 2 % 2 == 0
rises Z corner = nat_lt corner 4

-- whether an edge begins at a corner that is its low end
abbrev fits_cell : CellEdge → Bool
fits_cell edge = nat_lt edge.corner 8 && rises edge.axis edge.corner

-- what passes a test for all items and for what is read past them
test-at : {A : Type 0} (test : A → Bool) (xs : List A) (k : ℕ) (none : A)
    → list_all test xs ≡ true → test none ≡ true → test (get_or xs k none) ≡ true
test-at test [] k none all past = past
test-at test (x ∷ xs) zero none all past = (and_parts (test x) (list_all test xs) all).0
test-at test (x ∷ xs) (suc k) none all past =
    test-at test xs k none (and_parts (test x) (list_all test xs) all).1 past

-- each edge of a regular cell does, whatever its number
edge-rises : (number : ℕ) → fits_cell (regular_edge number) ≡ true
edge-rises number =
    test-at fits_cell regular_edges number (record { corner = 0; axis = X }) refl refl

-- so it ends at a point of the leaf
cell-within : (cell : Point) (axis : Axis) (corner : ℕ) → AreAtMost 15 cell → corner < 8
    → rises axis corner ≡ true → AreAtMost 16 (moved axis 1 (corner_point 0 cell corner))
cell-within cell X corner most low is =
    let even : corner % 2 ≡ 0 = eqb-true (corner % 2) 0 is in
    record {
      z = omega (arith, most.z);
      y = omega (arith, most.y);
      x = omega (arith, most.x, even);
    }
cell-within cell Y corner most low is =
    let even : corner / 2 % 2 ≡ 0 = eqb-true (corner / 2 % 2) 0 is in
    record {
      z = omega (arith, most.z);
      y = omega (arith, most.y, even);
      x = omega (arith, most.x);
    }
cell-within cell Z corner most low is =
    let below : corner < 4 = ltb-true corner 4 is in
    record {
      z = omega (arith, most.z, below);
      y = omega (arith, most.y);
      x = omega (arith, most.x);
    }

-- ---- edges of transition cells

-- the steps to a point of a face are within the leaf
face-within : (face : Face) (side v u : ℕ) → v ≤ side → u ≤ side
    → AreAtMost side (face_steps face side v u)
face-within XLow side v u hv hu =
    record { z = omega (arith, hv); y = omega (arith, hu); x = omega arith }
face-within XHigh side v u hv hu =
    record { z = omega (arith, hv); y = omega (arith, hu); x = omega arith }
face-within YLow side v u hv hu =
    record { z = omega (arith, hv); y = omega arith; x = omega (arith, hu) }
face-within YHigh side v u hv hu =
    record { z = omega (arith, hv); y = omega arith; x = omega (arith, hu) }
face-within ZLow side v u hv hu =
    record { z = omega arith; y = omega (arith, hv); x = omega (arith, hu) }
face-within ZHigh side v u hv hu =
    record { z = omega arith; y = omega (arith, hv); x = omega (arith, hu) }

-- so are those to the end of an edge along it
square-within : (face : Face) (along : FaceAxis) (side v u : ℕ) → v ≤ side → u ≤ side
    → (along ≡ lower → u + 1 ≤ side) → (along ≡ higher → v + 1 ≤ side)
    → AreAtMost side (moved (axis_along face along) 1 (face_steps face side v u))
square-within face lower side v u hv hu on_u on_v =
    subst (AreAtMost side) (face_steps-lower face side v u)
    (face-within face side v (u + 1) hv (on_u refl))
square-within face higher side v u hv hu on_u on_v =
    subst (AreAtMost side) (face_steps-higher face side v u)
    (face-within face side (v + 1) u (on_v refl) hu)

-- each edge of a transition cell fits its square, whatever its number
square-fits : (number : ℕ) → FitsSquare (transition_edge number)
square-fits number = elim (cases_lt number 16) [
  | inl within ↦ edge-fits number within
  | inr past ↦
      let none : TransitionEdge = record { is_coarse = false; point = 0; along = lower } in
      let fits : FitsSquare none = edge-fits 0 (omega arith) in
      subst FitsSquare (sym (get_or_past transition_edges number none past)) fits
]

-- what holds of the keys of a leaf: those of its own level, and those of the level below on its faces
module _ (depth : ℕ) (s : Field) (m : LevelMap) (n : Node) (P : Key → Type 0)
    (balanced : IsBalanced depth m)
    (coarse : (at : Point) (axis : Axis) → AreAtMost 16 (moved axis 1 at)
    → P (key_at n.level n at axis))
    (fine : 1 ≤ n.level → (at : Point) (axis : Axis) → AreAtMost 32 (moved axis 1 at)
    → P (key_at (n.level - 1) n at axis)) where
  -- of a key of a regular cell
  regular-hold : (cell : Point) → AreAtMost 15 cell → (number : ℕ)
      → P (regular_key n.level (cell_corner n cell.z cell.y cell.x) number)
  regular-hold cell most number =
      let edge = regular_edge number in
      let parts = and_parts (nat_lt edge.corner 8) (rises edge.axis edge.corner)
      (edge-rises number) in
      subst P (sym (cell_key-at n cell number))
      (coarse (corner_point 0 cell edge.corner) edge.axis
      (cell-within cell edge.axis edge.corner most (ltb-true edge.corner 8 parts.0) parts.1))

  -- of a key of a transition cell on a face of the leaf
  transition-hold : 1 ≤ n.level → (face : Face) (v u : ℕ) → v ≤ 15 → u ≤ 15 → (number : ℕ)
      → P (transition_key n.level face (square_corner n face v u) number)
  transition-hold some face v u hv hu number =
      let edge = transition_edge number in
      let fits = square-fits number in
      elim (cases_Bool edge.is_coarse) [
        | inl is_coarse ↦
            subst P (sym (edge_key-coarse n face v u edge some is_coarse (fits.outer is_coarse)))
            (coarse (face_steps face 16 (v + edge.point / 3 / 2) (u + edge.point % 3 / 2))
            (axis_along face edge.along)
            (square-within face edge.along 16 (v + edge.point / 3 / 2) (u + edge.point % 3 / 2)
            (omega (arith, fits.point)) (omega (arith, fits.point))
            (λ is. omega (arith, on_lower edge.along edge.point is fits.begins))
            (λ is. omega (arith, on_higher edge.along edge.point is fits.begins))))
        | inr is_fine ↦
            subst P (sym (edge_key-fine n face v u edge some is_fine))
            (fine some (face_steps face 32 (2 * v + edge.point / 3) (2 * u + edge.point % 3))
            (axis_along face edge.along)
            (square-within face edge.along 32 (2 * v + edge.point / 3) (2 * u + edge.point % 3)
            (omega (arith, fits.point)) (omega (arith, fits.point))
            (λ is. omega (arith, on_lower edge.along edge.point is fits.begins))
            (λ is. omega (arith, on_higher edge.along edge.point is fits.begins))))
      ]
    where
      on_lower : (along : FaceAxis) (point : ℕ) → along ≡ lower → starts along point ≡ true
          → point % 3 < 2
      on_lower along point is begins =
          ltb-true (point % 3) 2 (subst (λ a. starts a point ≡ true) is begins)

      on_higher : (along : FaceAxis) (point : ℕ) → along ≡ higher → starts along point ≡ true
          → point / 3 < 2
      on_higher along point is begins =
          ltb-true (point / 3) 2 (subst (λ a. starts a point ≡ true) is begins)

  -- ---- all of the leaf

  -- it holds of all keys of some triangles
  abbrev pub HoldsOfAll : List (List Key) → Type 0
  HoldsOfAll triangles = All (All P) triangles

  -- triangles by numbers of keys
  numbered-hold : (key : ℕ → Key) → ((number : ℕ) → P (key number)) → (triangles : List (List ℕ))
      → HoldsOfAll (map (map key) triangles)
  numbered-hold key each triangles =
      All-map (All P) (map key) triangles (λ i d within.
      All-map P key (get_or triangles i d) (λ j e inside.
      each (get_or (get_or triangles i d) j e)))

  -- those of all regular cells
  cells-hold : HoldsOfAll (over_cells n (regular_triangles s n.level))
  unfolding over_cells
  cells-hold =
      let f : Point → List (List Key) = regular_triangles s n.level in
      All-joined (All P) CELLS
      (λ z. joined CELLS (λ y. joined CELLS (λ x. f (cell_corner n z y x)))) (λ z hz.
      All-joined (All P) CELLS (λ y. joined CELLS (λ x. f (cell_corner n z y x))) (λ y hy.
      All-joined (All P) CELLS (λ x. f (cell_corner n z y x)) (λ x hx.
      numbered-hold (regular_key n.level (cell_corner n z y x))
      (regular-hold (record { z = z; y = y; x = x })
      (record { z = omega (arith, hz); y = omega (arith, hy); x = omega (arith, hx) })) _)))

  -- those of the transition cells on a face
  squares-hold : 1 ≤ n.level → (face : Face)
      → HoldsOfAll (over_squares n face (transition_triangles s n.level face))
  unfolding over_squares
  squares-hold some face =
      let f : Point → List (List Key) = transition_triangles s n.level face in
      All-joined (All P) CELLS (λ v. joined CELLS (λ u. f (square_corner n face v u))) (λ v hv.
      All-joined (All P) CELLS (λ u. f (square_corner n face v u)) (λ u hu.
      numbered-hold (transition_key n.level face (square_corner n face v u))
      (transition-hold some face v u (omega (arith, hv)) (omega (arith, hu))) _))

  -- a leaf with a transitional face isn't of level 0
  above_lowest : (face : Face) → is_transitional depth m n face ≡ true → 1 ≤ n.level
  above_lowest face is =
      let parts = and_parts (has_neighbour depth (across face) n) (m (neighbour (across face) n))
      is in
      balanced.octree.level (neighbour (across face) n) parts.1

  -- those on the transitional faces
  faces-hold : (some : List Face)
      → HoldsOfAll (flat_map (λ face. elim (is_transitional depth m n face) [
        | true ↦ over_squares n face (transition_triangles s n.level face)
        | false ↦ []
      ]) some)
  faces-hold [] = All-nil (All P)
  faces-hold (face ∷ some) =
      let at : Bool → List (List Key) = λ b. elim b as (λ _. List (List Key)) [
        | true ↦ over_squares n face (transition_triangles s n.level face)
        | false ↦ []
      ] in
      let here : HoldsOfAll (at (is_transitional depth m n face)) =
      elim (cases_Bool (is_transitional depth m n face)) [
        | inl is ↦
            subst (λ b. HoldsOfAll (at b)) (sym is) (squares-hold (above_lowest face is) face)
        | inr not ↦ subst (λ b. HoldsOfAll (at b)) (sym not) (All-nil (All P))
      ] in
      All-append (All P) (at (is_transitional depth m n face)) _ here (faces-hold some)

  -- all triangles of the leaf
  pub block-hold : HoldsOfAll (block depth s m n)
  unfolding block
  block-hold =
      All-append (All P) (over_cells n (regular_triangles s n.level)) _ cells-hold
      (faces-hold faces)

  -- ---- the keys of a mesh

  -- all keys of some triangles
  flat-hold : (triangles : List (List Key)) → HoldsOfAll triangles
      → All P (flat_map (λ triangle. triangle) triangles)
  flat-hold [] all = All-nil P
  flat-hold (t ∷ ts) all =
      All-append P t (flat_map (λ triangle. triangle) ts) (All-head (All P) t ts all)
      (flat-hold ts (All-tail (All P) t ts all))

  -- put in one after another
  with-hold : (known keys : List Key) → All P known → All P keys
      → All P (with_keys known keys)
  with-hold known [] before all = before
  with-hold known (key ∷ keys) before all =
      let here = All-head P key keys all in
      let one : Bool → List Key = λ b. if b then known else known ++ key ∷ [] in
      let more : All P (with_key known key) =
      elim (cases_Bool (list_any (λ k. is_same_key k key) known)) [
        | inl is ↦ subst (λ b. All P (one b)) (sym is) before
        | inr not ↦ subst (λ b. All P (one b)) (sym not) (All-push P known key before here)
      ] in
      with-hold (with_key known key) keys more (All-tail P key keys all)

  -- the keys that the leaf's mesh lists
  pub keys-hold : All P (keys_of (block depth s m n))
  keys-hold =
      with-hold [] (flat_map (λ triangle. triangle) (block depth s m n)) (All-nil P)
      (flat-hold (block depth s m n) block-hold)
