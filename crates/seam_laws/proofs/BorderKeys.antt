-- The curves in the border join keys that lie on it together, cell by cell and leaf by leaf; so two keys that don't lie
-- on it together have no net there. For the clause `inside` of `no_crack`.
--
-- A face whose corners lie in a plane of the border has curves between keys in that plane (`FaceLies`, from
-- `OffBorder`). What has to be said for it is which corners each key goes between: for a regular cell an edge is named
-- by the corners that it joins, as `e01`, and a face by its side; for a transition cell the edges join fine points, and
-- the nine faces are four fine squares (by their first point), the coarse one, and four sides, in either turn. Then
-- lists of cells and leaves (`leaf-lie`, `border-lie`), and last the count of a pair (`off-border`).
use Rattle.std.proofs.Common.{◌≡◌, ℕ, zero, suc, ◌+◌, ◌≤◌, Bool, true, false, inl, inr, List, [], ◌∷◌, ◌++◌, map, refl, subst, arith}
use Rattle.std.specs.Prelude.{pos, ◌-ℤ◌, ◌&&◌}
use Rattle.std.specs.List.{flat_map, filter}
use Rattle.std.proofs.lemmas.Bool.{and_parts, false_from_ne_true}
use Rattle.lattice.specs.declared.point.Point.{Point}
use Rattle.lattice.specs.declared.point.Axis.{Axis}
use Rattle.lattice.specs.declared.point.Face.{Face}
use Rattle.lattice.specs.declared.node.Node.{Node}
use Rattle.lattice.specs.declared.key.Key.{Key}
use Rattle.lattice.specs.Face.{faces}
use Rattle.lattice.specs.Lists.{joined}
use Rattle.lattice.specs.Offset.{across, has_neighbour, neighbour}
use Rattle.lattice.specs.Key.{far_end, is_same_key}
use Rattle.terrain.specs.Curves.{no_side}
use Rattle.terrain.specs.Samples.{Field}
use Rattle.terrain.specs.Levels.{LevelMap, is_transitional, leaves, IsOctree}
use Rattle.terrain.specs.Cells.{Outline, polygon, is_set, is_straight, corner_point, regular_signs, regular_key, regular_outlines, fine_point, transition_signs, transition_key, transition_outlines}
use Rattle.terrain.specs.Blocks.{lie_on_border, LieOnBorder, border_curves, leaf_border, border_edges, over_cells, over_squares, over_transitional, cell_corner, square_corner, times, net}
use Rattle.cell_laws.specs.Squares.{keyed}
use Rattle.cell_laws.proofs.KeysOf.{key_test}
use Rattle.cell_laws.proofs.SquareFaces.{half-lower, half-higher, whole-lower, whole-higher}
use Rattle.seam_laws.proofs.OnBorder.{lies}
use Rattle.seam_laws.proofs.BorderCells.{outlines}
use Rattle.seam_laws.proofs.LowFaceSquares.{same_point}
use Rattle.seam_laws.proofs.OffBorder.{lie-tells, all-tells, KeyInPlane, Within, together, Joins, quad-in, side-in, back-in}

module _ (depth : ℕ) where
  -- the two keys of each edge lie on the border together
  pub Lies : List (Key × Key) → Type 0
  Lies [] = Unit {0}
  Lies (edge ∷ edges) = LieOnBorder depth edge.0 edge.1 × Lies edges

  -- of two lists, one after the other
  Lies-append : (xs ys : List (Key × Key)) → Lies xs → Lies ys → Lies (xs ++ ys)
  unfolding Lies
  Lies-append [] ys first second = second
  Lies-append (x ∷ xs) ys first second = (first.0, Lies-append xs ys first.1 second)

  -- of so many lists
  Lies-joined : (n : ℕ) (f : ℕ → List (Key × Key)) → ((i : ℕ) → Lies (f i)) → Lies (joined n f)
  unfolding Lies joined
  Lies-joined zero f each = tt
  Lies-joined (suc n) f each = Lies-append (joined n f) (f n) (Lies-joined n f each) (each n)

  -- of a list for each item
  Lies-flat_map : {A : Type 0} (f : A → List (Key × Key)) (xs : List A) → ((x : A) → Lies (f x))
      → Lies (flat_map f xs)
  unfolding Lies
  Lies-flat_map f [] each = tt
  Lies-flat_map f (x ∷ xs) each = Lies-append (f x) (flat_map f xs) (each x)
      (Lies-flat_map f xs each)

  -- one item more, counted where it passes
  kept-step : {A : Type 0} (f : A → List (Key × Key)) (test : A → Bool) (b : Bool) (x : A)
      (xs : List A) → test x ≡ b → (test x ≡ true → Lies (f x)) → Lies (flat_map f (filter test xs))
      → Lies (flat_map f (filter test (x ∷ xs)))
  kept-step f test true x xs e here more =
      rw e (Lies-append (f x) (flat_map f (filter test xs)) (here e) more)
  kept-step f test false x xs e here more = rw e more

  -- of a list that is there only where a test passes
  one : (b : Bool) (edges : List (Key × Key)) → (b ≡ true → Lies edges)
      → Lies (elim b as (λ _. List (Key × Key)) [ true ↦ edges | false ↦ [] ])
  unfolding Lies
  one true edges here = here refl
  one false edges here = tt

  -- edges between keys in one plane of the border
  Lies-within : (axis : Axis) (c : ℕ) → lies depth c ≡ true → (edges : List (Key × Key))
      → Within (KeyInPlane axis c) edges → Lies edges
  unfolding Lies Within
  Lies-within axis c on [] within = tt
  Lies-within axis c on (edge ∷ edges) within = (
    together depth axis c edge.0 edge.1 on within.0.0 within.0.1,
    Lies-within axis c on edges within.1,
  )

  -- what holds of each item
  Each : {A : Type 0} → (A → Type 0) → List A → Type 0
  Each P [] = Unit {0}
  Each P (x ∷ xs) = P x × Each P xs

  -- of a list for each item that passes
  Lies-kept : {A : Type 0} (f : A → List (Key × Key)) (test : A → Bool) (xs : List A)
      → Each (λ x. test x ≡ true → Lies (f x)) xs → Lies (flat_map f (filter test xs))
  unfolding Each Lies
  Lies-kept f test [] each = tt
  Lies-kept f test (x ∷ xs) each = kept-step f test (test x) x xs refl each.0
      (Lies-kept f test xs each.1)

  module _ (point : ℕ → Point) (key : ℕ → Key) (signs : ℕ) where
    -- a face's curves lie on the border where its corners do
    abbrev FaceLies : Outline → Type 0
    FaceLies face = lie_on_border depth (map point face.corners) ≡ true
        → Lies (keyed key (polygon signs face))

    -- a square of a cell
    quad-lies : (i j k l p q r t : ℕ) → Joins key point p i j → Joins key point q j k
        → Joins key point r k l → Joins key point t l i
        → FaceLies (record { corners = i ∷ j ∷ k ∷ l ∷ []; sides = p ∷ q ∷ r ∷ t ∷ [] })
    quad-lies i j k l p q r t hp hq hr ht h =
        let plane = lie-tells depth (point i ∷ point j ∷ point k ∷ point l ∷ []) h in
        Lies-within plane.axis plane.c plane.on
        (keyed key (polygon signs (record {
          corners = i ∷ j ∷ k ∷ l ∷ [];
          sides = p ∷ q ∷ r ∷ t ∷ [];
        })))
        (quad-in key point plane.axis plane.c i j k l p q r t (is_set signs i) (is_set signs j)
        (is_set signs k) (is_set signs l) plane.all hp hq hr ht)

    -- a lateral face of a transition cell, in the straight turn
    side-lies : (i j k p q r : ℕ) → Joins key point p i j → Joins key point q j k
        → Joins key point r k i
        → FaceLies (record {
          corners = i ∷ j ∷ j ∷ k ∷ i ∷ [];
          sides = p ∷ no_side ∷ q ∷ r ∷ no_side ∷ [];
        })
    side-lies i j k p q r hp hq hr h =
        let plane = lie-tells depth (point i ∷ point j ∷ point j ∷ point k ∷ point i ∷ []) h in
        Lies-within plane.axis plane.c plane.on
        (keyed key (polygon signs (record {
          corners = i ∷ j ∷ j ∷ k ∷ i ∷ [];
          sides = p ∷ no_side ∷ q ∷ r ∷ no_side ∷ [];
        })))
        (side-in key point plane.axis plane.c i j k p q r (is_set signs i) (is_set signs k)
        (is_set signs j) plane.all hp hq hr)

    -- a lateral face in the other turn
    back-lies : (i j k p q r : ℕ) → Joins key point p i j → Joins key point q j k
        → Joins key point r k i
        → FaceLies (record {
          corners = i ∷ k ∷ j ∷ j ∷ i ∷ [];
          sides = r ∷ q ∷ no_side ∷ p ∷ no_side ∷ [];
        })
    back-lies i j k p q r hp hq hr h =
        let plane = lie-tells depth (point i ∷ point k ∷ point j ∷ point j ∷ point i ∷ []) h in
        Lies-within plane.axis plane.c plane.on
        (keyed key (polygon signs (record {
          corners = i ∷ k ∷ j ∷ j ∷ i ∷ [];
          sides = r ∷ q ∷ no_side ∷ p ∷ no_side ∷ [];
        })))
        (back-in key point plane.axis plane.c i j k p q r (is_set signs i) (is_set signs k)
        (is_set signs j) plane.all hp hq hr)

  -- ---- regular cells

  -- a regular cell, face by face
  regular-lie : (s : Field) (level : ℕ) (low : Point)
      → Lies (border_curves depth (corner_point level low) (regular_key level low)
      (regular_signs s level low) regular_outlines)
  unfolding Each
  regular-lie s level low =
      let point : ℕ → Point = corner_point level low in
      let key : ℕ → Key = regular_key level low in
      let signs = regular_signs s level low in
      let join : (n i j : ℕ) → (key n).at ≡ point i → far_end (key n) ≡ point j
      → ((key n).at ≡ point i) × (far_end (key n) ≡ point j) = λ n i j a b. (a, b) in
      let e01 = join 0 0 1 refl (same_point _ _ (omega arith) (omega arith) (omega arith)) in
      let e02 = join 1 0 2 refl (same_point _ _ (omega arith) (omega arith) (omega arith)) in
      let e04 = join 2 0 4 refl (same_point _ _ (omega arith) (omega arith) (omega arith)) in
      let e13 = join 3 1 3 refl (same_point _ _ (omega arith) (omega arith) (omega arith)) in
      let e15 = join 4 1 5 refl (same_point _ _ (omega arith) (omega arith) (omega arith)) in
      let e23 = join 5 2 3 refl (same_point _ _ (omega arith) (omega arith) (omega arith)) in
      let e26 = join 6 2 6 refl (same_point _ _ (omega arith) (omega arith) (omega arith)) in
      let e37 = join 7 3 7 refl (same_point _ _ (omega arith) (omega arith) (omega arith)) in
      let e45 = join 8 4 5 refl (same_point _ _ (omega arith) (omega arith) (omega arith)) in
      let e46 = join 9 4 6 refl (same_point _ _ (omega arith) (omega arith) (omega arith)) in
      let e57 = join 10 5 7 refl (same_point _ _ (omega arith) (omega arith) (omega arith)) in
      let e67 = join 11 6 7 refl (same_point _ _ (omega arith) (omega arith) (omega arith)) in
      let quad = quad-lies point key signs in
      let x_low = quad 0 4 6 2 2 9 6 1 (inl e04) (inl e46) (inr e26) (inr e02) in
      let x_high = quad 1 3 7 5 3 7 10 4 (inl e13) (inl e37) (inr e57) (inr e15) in
      let y_low = quad 0 1 5 4 0 4 8 2 (inl e01) (inl e15) (inr e45) (inr e04) in
      let y_high = quad 2 6 7 3 6 11 7 5 (inl e26) (inl e67) (inr e37) (inr e23) in
      let z_low = quad 0 2 3 1 1 5 3 0 (inl e02) (inl e23) (inr e13) (inr e01) in
      let z_high = quad 4 5 7 6 8 10 11 9 (inl e45) (inl e57) (inr e67) (inr e46) in
      Lies-kept (λ face. keyed key (polygon signs face))
      (λ face. lie_on_border depth (map point face.corners)) regular_outlines
      (x_low, (x_high, (y_low, (y_high, (z_low, (z_high, tt))))))

  -- ---- transition cells

  module _ (s : Field) (level : ℕ) (face : Face) (low : Point) (some : 1 ≤ level) where
    -- a fine point of the cell
    abbrev fine : ℕ → Point
    fine n = fine_point level face low n

    -- a key of the cell
    abbrev fine_key : ℕ → Key
    fine_key n = transition_key level face low n

    -- the keys of a transition cell by their ends
    abbrev Goes : ℕ → ℕ → ℕ → Type 0
    Goes n i j = ((fine_key n).at ≡ fine i) × (far_end (fine_key n) ≡ fine j)

    -- the sixteen edges of a transition cell, each from one fine point to another
    record Edges : Type 0 where
      e01 : Goes 0 0 1
      e03 : Goes 1 0 3
      e12 : Goes 2 1 2
      e14 : Goes 3 1 4
      e25 : Goes 4 2 5
      e34 : Goes 5 3 4
      e36 : Goes 6 3 6
      e45 : Goes 7 4 5
      e47 : Goes 8 4 7
      e58 : Goes 9 5 8
      e67 : Goes 10 6 7
      e78 : Goes 11 7 8
      e02 : Goes 12 0 2
      e06 : Goes 13 0 6
      e28 : Goes 14 2 8
      e68 : Goes 15 6 8

    -- the sixteen edges of a transition cell between its fine points
    edges : Edges
    edges = record {
      e01 = (refl, half-lower level face low 0 (omega arith));
      e03 = (refl, half-higher level face low 0);
      e12 = (refl, half-lower level face low 1 (omega arith));
      e14 = (refl, half-higher level face low 1);
      e25 = (refl, half-higher level face low 2);
      e34 = (refl, half-lower level face low 3 (omega arith));
      e36 = (refl, half-higher level face low 3);
      e45 = (refl, half-lower level face low 4 (omega arith));
      e47 = (refl, half-higher level face low 4);
      e58 = (refl, half-higher level face low 5);
      e67 = (refl, half-lower level face low 6 (omega arith));
      e78 = (refl, half-lower level face low 7 (omega arith));
      e02 = (refl, whole-lower level face low 0 some (omega arith));
      e06 = (refl, whole-higher level face low 0 some);
      e28 = (refl, whole-higher level face low 2 some);
      e68 = (refl, whole-lower level face low 6 some (omega arith));
    }

    -- the nine faces of a transition cell, in either turn
    outlines-lie : (straight : Bool)
        → Each (FaceLies fine fine_key (transition_signs s level face low)) (outlines straight)
    unfolding Each
    outlines-lie true =
        let e = edges in
        let signs = transition_signs s level face low in
        let quad = quad-lies fine fine_key signs in
        let side = side-lies fine fine_key signs in
        let square_0 = quad 0 1 4 3 0 3 5 1 (inl e.e01) (inl e.e14) (inr e.e34) (inr e.e03) in
        let square_1 = quad 1 2 5 4 2 4 7 3 (inl e.e12) (inl e.e25) (inr e.e45) (inr e.e14) in
        let square_3 = quad 3 4 7 6 5 8 10 6 (inl e.e34) (inl e.e47) (inr e.e67) (inr e.e36) in
        let square_4 = quad 4 5 8 7 7 9 11 8 (inl e.e45) (inl e.e58) (inr e.e78) (inr e.e47) in
        let coarse = quad 0 6 8 2 13 15 14 12 (inl e.e06) (inl e.e68) (inr e.e28) (inr e.e02) in
        let side_0_2 = side 0 2 1 12 2 0 (inl e.e02) (inr e.e12) (inr e.e01) in
        let side_2_8 = side 2 8 5 14 9 4 (inl e.e28) (inr e.e58) (inr e.e25) in
        let side_8_6 = side 8 6 7 15 10 11 (inr e.e68) (inl e.e67) (inl e.e78) in
        let side_6_0 = side 6 0 3 13 1 6 (inr e.e06) (inl e.e03) (inl e.e36) in (
          square_0,
          (
            square_1,
            (
              square_3,
              (
                square_4,
                (
                  coarse,
                  (side_0_2, (side_2_8, (side_8_6, (side_6_0, tt)))),
                ),
              ),
            ),
          ),
        )
    outlines-lie false =
        let e = edges in
        let signs = transition_signs s level face low in
        let quad = quad-lies fine fine_key signs in
        let back = back-lies fine fine_key signs in
        let square_0 = quad 3 4 1 0 5 3 0 1 (inl e.e34) (inr e.e14) (inr e.e01) (inl e.e03) in
        let square_1 = quad 4 5 2 1 7 4 2 3 (inl e.e45) (inr e.e25) (inr e.e12) (inl e.e14) in
        let square_3 = quad 6 7 4 3 10 8 5 6 (inl e.e67) (inr e.e47) (inr e.e34) (inl e.e36) in
        let square_4 = quad 7 8 5 4 11 9 7 8 (inl e.e78) (inr e.e58) (inr e.e45) (inl e.e47) in
        let coarse = quad 2 8 6 0 14 15 13 12 (inl e.e28) (inr e.e68) (inr e.e06) (inl e.e02) in
        let side_0_2 = back 0 2 1 12 2 0 (inl e.e02) (inr e.e12) (inr e.e01) in
        let side_2_8 = back 2 8 5 14 9 4 (inl e.e28) (inr e.e58) (inr e.e25) in
        let side_8_6 = back 8 6 7 15 10 11 (inr e.e68) (inl e.e67) (inl e.e78) in
        let side_6_0 = back 6 0 3 13 1 6 (inr e.e06) (inl e.e03) (inl e.e36) in (
          square_0,
          (
            square_1,
            (
              square_3,
              (
                square_4,
                (
                  coarse,
                  (side_0_2, (side_2_8, (side_8_6, (side_6_0, tt)))),
                ),
              ),
            ),
          ),
        )

    -- a transition cell
    transition-lie : Lies (border_curves depth (fine_point level face low)
        (transition_key level face low) (transition_signs s level face low)
        (transition_outlines face))
    transition-lie =
        Lies-kept (λ face'. keyed fine_key (polygon (transition_signs s level face low) face'))
        (λ face'. lie_on_border depth (map fine face'.corners)) (outlines (is_straight face))
        (outlines-lie (is_straight face))

  -- ---- leaves

  -- a leaf, cell by cell
  leaf-lie : (s : Field) (m : LevelMap) → IsOctree depth m → (n : Node)
      → Lies (leaf_border depth s m n)
  unfolding over_cells over_squares
  leaf-lie s m tree n =
      let level = n.level in
      let cells : Point → List (Key × Key) =
      λ low. border_curves depth (corner_point level low) (regular_key level low)
      (regular_signs s level low) regular_outlines in
      let curves : Face → Point → List (Key × Key) =
      λ face low. border_curves depth (fine_point level face low)
      (transition_key level face low) (transition_signs s level face low)
      (transition_outlines face) in
      let f : Face → List (Key × Key) =
      λ face. elim (is_transitional depth m n face) as (λ _. List (Key × Key))
      [ true ↦ over_squares n face (curves face) | false ↦ [] ] in
      Lies-append (over_cells n cells) (over_transitional depth m n
      (λ face. over_squares n face (curves face)))
      (Lies-joined 16 (λ z. joined 16 (λ y. joined 16 (λ x. cells (cell_corner n z y x)))) (λ z.
      Lies-joined 16 (λ y. joined 16 (λ x. cells (cell_corner n z y x))) (λ y.
      Lies-joined 16 (λ x. cells (cell_corner n z y x))
      (λ x. regular-lie s level (cell_corner n z y x)))))
      (Lies-flat_map f faces (λ face. one (is_transitional depth m n face)
      (over_squares n face (curves face)) (λ is_fine.
      let some : 1 ≤ level = tree.level (neighbour (across face) n)
      (and_parts (has_neighbour depth (across face) n) (m (neighbour (across face) n))
      is_fine).1 in
      Lies-joined 16 (λ v. joined 16 (λ u. curves face (square_corner n face v u))) (λ v.
      Lies-joined 16 (λ u. curves face (square_corner n face v u))
      (λ u. transition-lie s level face (square_corner n face v u) some)))))

  -- all curves in the border join keys that lie on it together
  pub border-lie : (s : Field) (m : LevelMap) → IsOctree depth m → Lies (border_edges depth s m)
  border-lie s m tree = Lies-flat_map (leaf_border depth s m) (leaves depth m) (leaf-lie s m tree)

  -- ---- two keys that don't lie on the border together

  -- an edge on the border isn't one between two keys off it
  not-here : (x y a b : Key) → LieOnBorder depth x y → (LieOnBorder depth a b → ⊥)
      → (is_same_key x a && is_same_key y b) ≡ false
  not-here x y a b lie off =
      false_from_ne_true (is_same_key x a && is_same_key y b) (λ e.
      let parts = and_parts (is_same_key x a) (is_same_key y b) e in
      let first : x ≡ a = (key_test x a).0 parts.0 in
      let second : y ≡ b = (key_test y b).0 parts.1 in
      off (subst (λ k. LieOnBorder depth k b) first (subst (LieOnBorder depth x) second lie)))

  -- an edge that isn't counted
  zero-plus : (n : ℕ) → n ≡ 0 → 0 + n ≡ 0
  zero-plus n e = omega arith

  -- so edges on the border have none between two keys off it
  none-of : (a b : Key) (edges : List (Key × Key)) → (LieOnBorder depth a b → ⊥) → Lies edges
      → times a b edges ≡ 0
  unfolding Lies
  none-of a b [] off held = refl
  none-of a b (edge ∷ rest) off held =
      rw (not-here edge.0 edge.1 a b held.0 off)
      (zero-plus (times a b rest) (none-of a b rest off held.1))

  -- in either order
  turned-lie : (a b : Key) → LieOnBorder depth a b → LieOnBorder depth b a
  turned-lie a b lie =
      let plane = lie-tells depth (a.at ∷ far_end a ∷ b.at ∷ far_end b ∷ []) lie in
      let first = all-tells plane.axis plane.c a.at (far_end a ∷ b.at ∷ far_end b ∷ []) plane.all in
      let second = all-tells plane.axis plane.c (far_end a) (b.at ∷ far_end b ∷ []) first.1 in
      let third = all-tells plane.axis plane.c b.at (far_end b ∷ []) second.1 in
      let fourth = all-tells plane.axis plane.c (far_end b) [] third.1 in
      together depth plane.axis plane.c b a plane.on (third.0, fourth.0) (first.0, second.0)

  -- so two keys that don't lie on it together have no curve between them
  pub off-border : (a b : Key) (edges : List (Key × Key)) → (LieOnBorder depth a b → ⊥) → Lies edges
      → net edges a b ≡ pos 0
  off-border a b edges off lies =
      (λ t. pos (none-of a b edges off lies t)
      -ℤ pos (none-of b a edges (λ lie. off (turned-lie b a lie)) lies t))
