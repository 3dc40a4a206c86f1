-- Cells, rows, faces and leaves of one sign have no triangles: what the mesher passes over, for speed.
--
-- From the cell to the leaf: a cell whose signs are all 0 or all 1 has no triangles, by computing its two cases
-- (`no_cells`, `no_squares`); so a row of cells between rows of one sign has none (`empty_row`, `empty_squares`); and
-- so a face or a leaf whose samples have one sign (`one_sign`, `one_sign_face`), since each of its rows has. At the
-- end, that the rows which the mesher cuts out of a brick are those rows (`leaf_row`, `face_row`).
use Rattle.std.proofs.Common.{◌≡◌, ℕ, zero, suc, ◌+◌, ◌-◌, ◌*◌, ◌/◌, ◌%◌, ◌^◌, ◌<◌, ◌≤◌, Bool, true, ◌==◌, not, ℤ, pos, negsuc, List, [], ◌∷◌, ◌++◌, map, take, drop, replicate, length, refl, sym, ap, subst, ◌∙◌, arith, inl, inr, ◌⊎◌, slice_index_or}
use Rattle.std.proofs.Math.Nat.{pow-suc, zero-div}
use Rattle.std.proofs.lemmas.Bool.{agree_below_at, and_parts, cases_lt, eqb-true, or_cases}
use Rattle.std.proofs.lemmas.List.Folds.{list_all-append}
use Rattle.std.proofs.lemmas.Nat.{pow_pos}
use Rattle.std.specs.List.{list_all}
use Rattle.lattice.specs.declared.node.Node.{Node}
use Rattle.lattice.specs.declared.point.Face.{Face}
use Rattle.lattice.specs.declared.point.Face.TheVariants.{XLow, XHigh, YLow, YHigh, ZLow, ZHigh}
use Rattle.lattice.specs.declared.point.Point.{Point}
use Rattle.lattice.specs.Lists.{joined}
use Rattle.terrain.specs.Blocks.{cell_corner, face_samples, leaf_samples, over_cells, over_squares, square_corner}
use Rattle.terrain.specs.Cells.{regular_faces, regular_key, regular_signs, regular_triangles, transition_faces, transition_key, transition_signs, transition_triangles, triangles_of}
use Rattle.terrain.specs.Curves.{loops_of, next, orbit, steps}
use Rattle.terrain.specs.Samples.{Field, is_solid}
use Rattle.bricks.specs.declared.line.Line.{Line}
use Rattle.bricks.specs.Brick.{fine_line, leaf_line}
use Rattle.bricks.specs.Line.{line_samples}
use Rattle.block_mesh.specs.Signs.{BoundCells, BoundSquares, have_one_sign, line_signs, signs_of_samples}
use Rattle.bricks.proofs.BrickLemmas.{face_samples-rows, layer_samples, leaf_samples-layers, leaf_samples-rows, length-line}
use Rattle.lattice.proofs.RowLemmas.{joined-none, joined-suc, row-of}
use Rattle.block_mesh.proofs.SignLemmas.{regular_signs-rows, transition_signs-rows}

-- ---- cells without triangles

-- a cell with one sign has no triangle
pub no_cells : (signs : ℕ) → (signs ≡ 0) ⊎ (signs ≡ 255) → triangles_of (regular_faces signs) ≡ []
unfolding triangles_of loops_of orbit steps next
no_cells signs (inl none) = ap (λ n. triangles_of (regular_faces n)) none
no_cells signs (inr all) = ap (λ n. triangles_of (regular_faces n)) all

-- the same for transition cells
empty-square : (face : Face) → triangles_of (transition_faces face 0) ≡ []
unfolding triangles_of loops_of orbit steps next
empty-square XLow = refl
empty-square XHigh = refl
empty-square YLow = refl
empty-square YHigh = refl
empty-square ZLow = refl
empty-square ZHigh = refl

-- nor has one whose samples are all solid
full-square : (face : Face) → triangles_of (transition_faces face 511) ≡ []
unfolding triangles_of loops_of orbit steps next
full-square XLow = refl
full-square XHigh = refl
full-square YLow = refl
full-square YHigh = refl
full-square ZLow = refl
full-square ZHigh = refl

-- nor has a transition cell with one sign
pub no_squares : (face : Face) (signs : ℕ) → (signs ≡ 0) ⊎ (signs ≡ 511)
    → triangles_of (transition_faces face signs) ≡ []
no_squares face signs (inl none) =
    ap (λ n. triangles_of (transition_faces face n)) none ∙ empty-square face
no_squares face signs (inr all) =
    ap (λ n. triangles_of (transition_faces face n)) all ∙ full-square face

-- a regular cell whose sign number is that
pub regular-none : (s : Field) (level : ℕ) (low : Point)
    → (regular_signs s level low ≡ 0) ⊎ (regular_signs s level low ≡ 255)
    → regular_triangles s level low ≡ []
regular-none s level low one =
    ap (map (map (regular_key level low))) (no_cells (regular_signs s level low) one)

-- a transition cell whose sign number is that
pub transition-none : (s : Field) (level : ℕ) (face : Face) (low : Point)
    → (transition_signs s level face low ≡ 0) ⊎ (transition_signs s level face low ≡ 511)
    → transition_triangles s level face low ≡ []
transition-none s level face low one =
    ap (map (map (transition_key level face low)))
    (no_squares face (transition_signs s level face low) one)

-- ---- rows without triangles

-- the digits of a whole row of a leaf's points
ones-17 : (x : ℕ) → x < 16 → (2 ^ 17 - 1) / 2 ^ x % 4 ≡ 3
ones-17 x x_in =
    eqb-true ((2 ^ 17 - 1) / 2 ^ x % 4) 3
    (agree_below_at (λ x. (2 ^ 17 - 1) / 2 ^ x % 4 == 3) (λ x. true) 16 x refl x_in)

-- the digits of a whole row of a face's finer points
ones-33 : (u : ℕ) → u < 16 → (2 ^ 33 - 1) / 2 ^ (2 * u) % 8 ≡ 7
ones-33 u u_in =
    eqb-true ((2 ^ 33 - 1) / 2 ^ (2 * u) % 8) 7
    (agree_below_at (λ u. (2 ^ 33 - 1) / 2 ^ (2 * u) % 8 == 7) (λ u. true) 16 u refl u_in)

-- a row of cells between rows of one sign has no triangles
pub empty_row : (s : Field) (n : Node) (z y : ℕ) (rows : List ℕ) → BoundCells s n z y rows
    → (rows ≡ replicate 4 0) ⊎ (rows ≡ replicate 4 (2 ^ 17 - 1)) → (x : ℕ) → x < 16
    → regular_triangles s n.level (cell_corner n z y x) ≡ []
empty_row s n z y rows bound one x x_in =
    let digits : List ℕ → ℕ → ℕ = λ rows k. slice_index_or rows k 0 / 2 ^ x % 4 in
    let number : List ℕ → ℕ = λ rows.
    digits rows 0 + 4 * digits rows 1 + 16 * digits rows 2 + 64 * digits rows 3 in
    let same : regular_signs s n.level (cell_corner n z y x) ≡ number rows =
    sym (ap number bound.is ∙ regular_signs-rows s n z y x x_in) in
    regular-none s n.level (cell_corner n z y x) (elim one [
      | inl none ↦
          let zero_digit : 0 / 2 ^ x % 4 ≡ 0 = ap (λ q. q % 4) (zero-div (2 ^ x)) in
          inl (same ∙ ap number none ∙ omega (arith, zero_digit))
      | inr all ↦ inr (same ∙ ap number all ∙ omega (arith, ones-17 x x_in))
    ])

-- nothing joined to nothing
joined-nothing : {A : Type 0} (n : ℕ) (f : ℕ → List A) → ((k : ℕ) → k < n → f k ≡ [])
    → joined n f ≡ []
joined-nothing zero f none = joined-none f
joined-nothing (suc n) f none =
    joined-suc n f
    ∙ (λ i. joined-nothing n f (λ k k_in. none k (omega arith)) i ++ none n (omega arith) i)

-- a layer of cells between rows of one sign has no triangles
pub plain_layer : (s : Field) (n : Node) (z row : ℕ)
    → ((y : ℕ) → y < 17 → line_signs s (leaf_line n z y) ≡ row)
    → ((y : ℕ) → y < 17 → line_signs s (leaf_line n (z + 1) y) ≡ row)
    → (row ≡ 0) ⊎ (row ≡ 2 ^ 17 - 1)
    → joined 16 (λ y. joined 16 (λ x. regular_triangles s n.level (cell_corner n z y x))) ≡ []
plain_layer s n z row low high one =
    joined-nothing 16 _ (λ y y_in. joined-nothing 16 _ (λ x x_in.
    let rows : List ℕ = line_signs s (leaf_line n z y) ∷ line_signs s (leaf_line n z (y + 1))
    ∷ line_signs s (leaf_line n (z + 1) y) ∷ line_signs s (leaf_line n (z + 1) (y + 1)) ∷ [] in
    let all : rows ≡ replicate 4 row =
    λ i. low y (omega arith) i ∷ low (y + 1) (omega arith) i ∷ high y (omega arith) i
    ∷ high (y + 1) (omega arith) i ∷ [] in
    let bound : BoundCells s n z y rows = record { is = refl } in
    empty_row s n z y rows bound (elim one [
      | inl none ↦ inl (all ∙ ap (replicate 4) none)
      | inr solid ↦ inr (all ∙ ap (replicate 4) solid)
    ]) x x_in))

-- a row of squares between rows of one sign has no triangles
pub empty_squares : (s : Field) (n : Node) (face : Face) (v : ℕ) (rows : List ℕ) → 1 ≤ n.level
    → BoundSquares s n face v rows
    → (rows ≡ replicate 3 0) ⊎ (rows ≡ replicate 3 (2 ^ 33 - 1)) → (u : ℕ) → u < 16
    → transition_triangles s n.level face (square_corner n face v u) ≡ []
empty_squares s n face v rows some bound one u u_in =
    let digits : List ℕ → ℕ → ℕ = λ rows k. slice_index_or rows k 0 / 2 ^ (2 * u) % 8 in
    let number : List ℕ → ℕ = λ rows. digits rows 0 + 8 * digits rows 1 + 64 * digits rows 2 in
    let same : transition_signs s n.level face (square_corner n face v u) ≡ number rows =
    sym (ap number bound.is ∙ transition_signs-rows s n face v u some u_in) in
    transition-none s n.level face (square_corner n face v u) (elim one [
      | inl none ↦
          let zero_digit : 0 / 2 ^ (2 * u) % 8 ≡ 0 = ap (λ q. q % 8) (zero-div (2 ^ (2 * u))) in
          inl (same ∙ ap number none ∙ omega (arith, zero_digit))
      | inr all ↦ inr (same ∙ ap number all ∙ omega (arith, ones-33 u u_in))
    ])

-- ---- leaves and faces without triangles

-- a test that all items of joined lists pass
list_all-joined : {A : Type 0} (test : A → Bool) (n : ℕ) (f : ℕ → List A)
    → list_all test (joined n f) ≡ true → (k : ℕ) → k < n → list_all test (f k) ≡ true
list_all-joined test zero f all k k_in = absurd (omega arith)
list_all-joined test (suc n) f all k k_in =
    let parts = and_parts (list_all test (joined n f)) (list_all test (f n))
    (sym (ap (list_all test) (joined-suc n f) ∙ list_all-append test (joined n f) (f n)) ∙ all) in
    elim (cases_lt k n) [
      | inl before ↦ list_all-joined test n f parts.0 k before
      | inr last ↦
          let same : n ≡ k = omega arith in
          subst (λ j. list_all test (f j) ≡ true) same parts.1
    ]

-- the number of a row without a solid sample
none-solid : (samples : List ℤ) → list_all (λ sample. not (is_solid sample)) samples ≡ true
    → signs_of_samples samples ≡ 0
none-solid [] none = refl
none-solid (pos x ∷ samples) none =
    let rest : signs_of_samples samples ≡ 0 = none-solid samples none in
    omega (arith, rest)
none-solid (negsuc x ∷ samples) none = cc

-- the number of a row of solid samples
all-solid : (samples : List ℤ) → list_all is_solid samples ≡ true
    → signs_of_samples samples ≡ 2 ^ length samples - 1
all-solid [] all = refl
all-solid (pos x ∷ samples) all = cc
all-solid (negsuc x ∷ samples) all =
    let rest : signs_of_samples samples ≡ 2 ^ length samples - 1 = all-solid samples all in
    omega (arith, rest, pow-suc 2 (length samples), pow_pos (length samples))

-- a line without a solid sample
none-line : (s : Field) (line : Line)
    → list_all (λ sample. not (is_solid sample)) (line_samples s line) ≡ true
    → line_signs s line ≡ 0
none-line s line none = none-solid (line_samples s line) none

-- a line of solid samples
all-line : (s : Field) (line : Line) → list_all is_solid (line_samples s line) ≡ true
    → line_signs s line ≡ 2 ^ line.count - 1
all-line s line all =
    all-solid (line_samples s line) all ∙ ap (λ n. 2 ^ n - 1) (length-line s line)

-- the rows of a leaf whose samples pass a test do
leaf-rows : (test : ℤ → Bool) (s : Field) (n : Node) → list_all test (leaf_samples s n) ≡ true
    → (z y : ℕ) → z < 17 → y < 17 → list_all test (line_samples s (leaf_line n z y)) ≡ true
leaf-rows test s n all z y z_in y_in =
    list_all-joined test 17 (λ y. line_samples s (leaf_line n z y))
    (list_all-joined test 17 (layer_samples s n)
    (sym (ap (list_all test) (leaf_samples-layers s n)) ∙ all) z z_in) y y_in

-- so do those of a face
face-rows : (test : ℤ → Bool) (s : Field) (n : Node) (face : Face)
    → list_all test (face_samples s n face) ≡ true → (v : ℕ) → v < 33
    → list_all test (line_samples s (fine_line n face v)) ≡ true
face-rows test s n face all v v_in =
    list_all-joined test 33 (λ v. line_samples s (fine_line n face v))
    (sym (ap (list_all test) (face_samples-rows s n face)) ∙ all) v v_in

-- the rows that bound a row of cells, in a leaf with one sign
one-cells : (s : Field) (n : Node) → have_one_sign (leaf_samples s n) ≡ true
    → (z y : ℕ) → z < 16 → y < 16 → (rows : List ℕ) → BoundCells s n z y rows
    → (rows ≡ replicate 4 0) ⊎ (rows ≡ replicate 4 (2 ^ 17 - 1))
one-cells s n one z y z_in y_in rows bound =
    elim (or_cases (list_all (λ sample. not (is_solid sample)) (leaf_samples s n))
    (list_all is_solid (leaf_samples s n)) one) [
      | inl none ↦
          let at : (z y : ℕ) → z < 17 → y < 17 → line_signs s (leaf_line n z y) ≡ 0 =
          λ z y z_in y_in. none-line s (leaf_line n z y)
          (leaf-rows (λ sample. not (is_solid sample)) s n none z y z_in y_in) in
          inl (bound.is ∙ (λ i. at z y (omega arith) (omega arith) i
          ∷ at z (y + 1) (omega arith) (omega arith) i ∷ at (z + 1) y (omega arith) (omega arith) i
          ∷ at (z + 1) (y + 1) (omega arith) (omega arith) i ∷ []))
      | inr all ↦
          let at : (z y : ℕ) → z < 17 → y < 17 → line_signs s (leaf_line n z y) ≡ 2 ^ 17 - 1 =
          λ z y z_in y_in. all-line s (leaf_line n z y)
          (leaf-rows is_solid s n all z y z_in y_in) in
          inr (bound.is ∙ (λ i. at z y (omega arith) (omega arith) i
          ∷ at z (y + 1) (omega arith) (omega arith) i ∷ at (z + 1) y (omega arith) (omega arith) i
          ∷ at (z + 1) (y + 1) (omega arith) (omega arith) i ∷ []))
    ]

-- the rows through a row of squares, on a face with one sign
one-squares : (s : Field) (n : Node) (face : Face) → have_one_sign (face_samples s n face) ≡ true
    → (v : ℕ) → v < 16 → (rows : List ℕ) → BoundSquares s n face v rows
    → (rows ≡ replicate 3 0) ⊎ (rows ≡ replicate 3 (2 ^ 33 - 1))
one-squares s n face one v v_in rows bound =
    elim (or_cases (list_all (λ sample. not (is_solid sample)) (face_samples s n face))
    (list_all is_solid (face_samples s n face)) one) [
      | inl none ↦
          let at : (v : ℕ) → v < 33 → line_signs s (fine_line n face v) ≡ 0 =
          λ v v_in. none-line s (fine_line n face v)
          (face-rows (λ sample. not (is_solid sample)) s n face none v v_in) in
          inl (bound.is ∙ (λ i. at (2 * v) (omega arith) i ∷ at (2 * v + 1) (omega arith) i
          ∷ at (2 * v + 2) (omega arith) i ∷ []))
      | inr all ↦
          let at : (v : ℕ) → v < 33 → line_signs s (fine_line n face v) ≡ 2 ^ 33 - 1 =
          λ v v_in. all-line s (fine_line n face v) (face-rows is_solid s n face all v v_in) in
          inr (bound.is ∙ (λ i. at (2 * v) (omega arith) i ∷ at (2 * v + 1) (omega arith) i
          ∷ at (2 * v + 2) (omega arith) i ∷ []))
    ]

-- a leaf whose samples have one sign has no triangles of regular cells
pub one_sign : (s : Field) (n : Node) (samples : List ℤ) → samples ≡ leaf_samples s n
    → have_one_sign samples ≡ true → over_cells n (regular_triangles s n.level) ≡ []
unfolding over_cells
one_sign s n samples are one =
    let one_here : have_one_sign (leaf_samples s n) ≡ true = sym (ap have_one_sign are) ∙ one in
    joined-nothing 16 _ (λ z z_in. joined-nothing 16 _ (λ y y_in. joined-nothing 16 _ (λ x x_in.
    let rows : List ℕ = line_signs s (leaf_line n z y) ∷ line_signs s (leaf_line n z (y + 1))
    ∷ line_signs s (leaf_line n (z + 1) y) ∷ line_signs s (leaf_line n (z + 1) (y + 1)) ∷ [] in
    let bound : BoundCells s n z y rows = record { is = refl } in
    empty_row s n z y rows bound (one-cells s n one_here z y z_in y_in rows bound) x x_in)))

-- a face whose finer samples have one sign has no triangles of transition cells
pub one_sign_face : (s : Field) (n : Node) (face : Face) (samples : List ℤ) → 1 ≤ n.level
    → samples ≡ face_samples s n face → have_one_sign samples ≡ true
    → over_squares n face (transition_triangles s n.level face) ≡ []
unfolding over_squares
one_sign_face s n face samples some are one =
    let one_here : have_one_sign (face_samples s n face) ≡ true =
    sym (ap have_one_sign are) ∙ one in
    joined-nothing 16 _ (λ v v_in. joined-nothing 16 _ (λ u u_in.
    let rows : List ℕ = line_signs s (fine_line n face (2 * v))
    ∷ line_signs s (fine_line n face (2 * v + 1)) ∷ line_signs s (fine_line n face (2 * v + 2))
    ∷ [] in
    let bound : BoundSquares s n face v rows = record { is = refl } in
    empty_squares s n face v rows some bound (one-squares s n face one_here v v_in rows bound)
    u u_in))

-- ---- the signs of a brick's samples

-- the samples of a row of a leaf, as they are cut out, have the signs of the row
pub leaf_row : (s : Field) (n : Node) (samples : List ℤ) → samples ≡ leaf_samples s n
    → (z y from to : ℕ) → z < 17 → y < 17 → from ≡ (z * 17 + y) * 17 → to ≡ from + 17
    → signs_of_samples (take (to - from) (drop from samples)) ≡ line_signs s (leaf_line n z y)
leaf_row s n samples are z y from to z_in y_in first last =
    let row : ℕ = z * 17 + y in
    let line : ℕ → List ℤ = λ row. line_samples s (leaf_line n (row / 17) (row % 17)) in
    let count : to - from ≡ 17 = omega arith in
    let at_z : row / 17 ≡ z = omega arith in
    let at_y : row % 17 ≡ y = omega arith in
    (λ i. signs_of_samples (take (count i) (drop (first i) samples)))
    ∙ ap signs_of_samples (row-of 17 289 line samples
    (λ k k_in. length-line s (leaf_line n (k / 17) (k % 17))) (are ∙ leaf_samples-rows s n) row
    (omega arith))
    ∙ (λ i. line_signs s (leaf_line n (at_z i) (at_y i)))

-- so do those of a row of a face
pub face_row : (s : Field) (n : Node) (face : Face) (samples : List ℤ)
    → samples ≡ face_samples s n face → (v from to : ℕ) → v < 33 → from ≡ v * 33 → to ≡ from + 33
    → signs_of_samples (take (to - from) (drop from samples)) ≡ line_signs s (fine_line n face v)
face_row s n face samples are v from to v_in first last =
    let count : to - from ≡ 33 = omega arith in
    (λ i. signs_of_samples (take (count i) (drop (first i) samples)))
    ∙ ap signs_of_samples (row-of 33 33 (λ v. line_samples s (fine_line n face v)) samples
    (λ k k_in. length-line s (fine_line n face k)) (are ∙ face_samples-rows s n face) v v_in)

-- ---- rows of squares, joined

-- a row of squares between rows of one sign gives nothing
pub empty_squares-joined : (s : Field) (n : Node) (face : Face) (v : ℕ) (rows : List ℕ)
    → 1 ≤ n.level → BoundSquares s n face v rows
    → (rows ≡ replicate 3 0) ⊎ (rows ≡ replicate 3 (2 ^ 33 - 1))
    → joined 16 (λ u. transition_triangles s n.level face (square_corner n face v u)) ≡ []
empty_squares-joined s n face v rows some bound one =
    joined-nothing 16 (λ u. transition_triangles s n.level face (square_corner n face v u))
    (λ u u_in. empty_squares s n face v rows some bound one u u_in)
