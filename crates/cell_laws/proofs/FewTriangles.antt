-- How many triangles a cell has, by a test of all sign numbers, and how many a leaf. For the law `triangles_are_few`.
--
-- A cell's triangles are those of its sign number with keys in place of numbers, so it has as many (`AllSigns` tries
-- all). A leaf's triangles are its cells' lists joined, each at most so long: 16 x 16 x 16 times five, and for at most
-- six transitional faces 16 x 16 times nine.
use Rattle.std.proofs.Common.{◌≡◌, ℕ, zero, suc, ◌+◌, ◌*◌, ◌≤◌, Bool, true, false, List, [], ◌∷◌, length, map, refl, arith, length-append}
use Rattle.std.specs.Prelude.{flat_map, nat_le}
use Rattle.std.proofs.lemmas.Bool.{leb-true}
use Rattle.std.proofs.lemmas.List.{length-map}
use Rattle.lattice.specs.Face.{faces}
use Rattle.lattice.specs.Lists.{joined}
use Rattle.lattice.specs.declared.key.Key.{Key}
use Rattle.lattice.specs.declared.node.Node.{Node}
use Rattle.lattice.specs.declared.node.TheConstants.{CELLS}
use Rattle.lattice.specs.declared.point.Face.{Face}
use Rattle.lattice.specs.declared.point.Point.{Point}
use Rattle.terrain.specs.Blocks.{block, cell_corner, over_cells, over_squares, over_transitional, square_corner}
use Rattle.terrain.specs.Cells.{corner_point, fine_point, regular_faces, regular_key, regular_signs, regular_triangles, transition_faces, transition_key, transition_signs, transition_triangles, triangles_of}
use Rattle.terrain.specs.Curves.{Polygon, loops_of, next, orbit, steps}
use Rattle.terrain.specs.Levels.{LevelMap, is_transitional}
use Rattle.terrain.specs.Samples.{Field}
use Rattle.cell_laws.proofs.AllSigns.{all_regular, at_regular, all_transition, at_transition}
use Rattle.cell_laws.proofs.IsPresent.{signs_bound}

-- ---- cells

-- whether a cell has at most so many triangles
has_few : ℕ → List Polygon → Bool
has_few most faces = nat_le (length (triangles_of faces)) most

-- by computing: no regular cell has more than five triangles
regular_pass : all_regular (λ signs. has_few 5) ≡ true
unfolding all_regular has_few triangles_of next steps orbit loops_of
regular_pass = refl

-- by computing: no transition cell has more than nine
transition_pass : all_transition (λ signs. has_few 9) ≡ true
unfolding all_transition has_few triangles_of next steps orbit loops_of
transition_pass = refl

-- a regular cell has at most five triangles
pub regular_few : (s : Field) (level : ℕ) (low : Point)
    → length (regular_triangles s level low) ≤ 5
unfolding has_few
regular_few s level low =
    let signs = regular_signs s level low in
    let few = leb-true _ _ (at_regular (λ signs. has_few 5) regular_pass signs
    (signs_bound s 8 (corner_point level low))) in
    omega (
      arith,
      few,
      length-map (triangles_of (regular_faces signs))
          (map (regular_key level low)),
    )

-- a transition cell has at most nine
pub transition_few : (s : Field) (level : ℕ) (face : Face) (low : Point)
    → length (transition_triangles s level face low) ≤ 9
unfolding has_few
transition_few s level face low =
    let signs = transition_signs s level face low in
    let few = leb-true _ _ (at_transition (λ signs. has_few 9) transition_pass face signs
    (signs_bound s 9 (fine_point level face low))) in
    omega (
      arith,
      few,
      length-map (triangles_of (transition_faces face signs))
          (map (transition_key level face low)),
    )

-- ---- leaves

-- lists with at most so many items each, joined
few_joined : {A : Type 0} (most n : ℕ) (f : ℕ → List A) → ((k : ℕ) → length (f k) ≤ most)
    → length (joined n f) ≤ most * n
unfolding joined
few_joined most zero f few = omega arith
few_joined most (suc n) f few =
    let sum = length-append (joined n f) (f n) in
    let step : most * suc n ≡ most * n + most = grind arith in
    omega (arith, sum, step, few n, few_joined most n f few)

-- 5 times 16 x 16 x 16 regular cells
few_cells : (n : Node) (f : Point → List (List Key)) → ((p : Point) → length (f p) ≤ 5)
    → length (over_cells n f) ≤ 20480
unfolding over_cells
few_cells n f few =
    few_joined 1280 CELLS _ (λ z. few_joined 80 CELLS _ (λ y. few_joined 5 CELLS _
    (λ x. few (cell_corner n z y x))))

-- 9 times 16 x 16 transition cells of a face
few_over_squares : (n : Node) (face : Face) (f : Point → List (List Key))
    → ((p : Point) → length (f p) ≤ 9) → length (over_squares n face f) ≤ 2304
unfolding over_squares
few_over_squares n face f few =
    few_joined 144 CELLS _ (λ v. few_joined 9 CELLS _ (λ u. few (square_corner n face v u)))

-- a list that is there only where a test holds
few_only : (b : Bool) (xs : List (List Key)) → length xs ≤ 2304
    → length {A = List Key} (elim b [ true ↦ xs | false ↦ [] ]) ≤ 2304
few_only true xs few = few
few_only false xs few = omega arith

-- so many for each of a list of faces
few_flat : (f : Face → List (List Key)) (xs : List Face) → ((x : Face) → length (f x) ≤ 2304)
    → length (flat_map f xs) ≤ 2304 * length xs
few_flat f [] few = omega arith
few_flat f (x ∷ xs) few =
    let sum = length-append (f x) (flat_map f xs) in
    omega (arith, sum, few x, few_flat f xs few)

-- a leaf has no more than all of its cells may have
pub leaf_few : (depth : ℕ) (s : Field) (m : LevelMap) (n : Node)
    → length (block depth s m n) ≤ 34304
unfolding block
leaf_few depth s m n =
    let cells = over_cells n (regular_triangles s n.level) in
    let on : Face → List (List Key) = λ face.
    over_squares n face (transition_triangles s n.level face) in
    let squares = over_transitional depth m n on in
    let few = few_cells n (regular_triangles s n.level) (regular_few s n.level) in
    let more = few_flat (λ face. elim (is_transitional depth m n face) [
      | true ↦ on face
      | false ↦ []
    ]) faces (λ face. few_only (is_transitional depth m n face) (on face)
    (few_over_squares n face (transition_triangles s n.level face)
    (transition_few s n.level face))) in
    omega (arith, few, more, length-append cells squares)
