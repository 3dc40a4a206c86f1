-- The keys of a transition cell on a square of a leaf's face, by steps from the leaf's low corner.
--
-- For `transition_index` of the builder. What the table of sixteen edges says of each is compared by computing
-- (`edge-fits`): coarse edges begin at outer points, and none begins at the last point of its axis. So a fine edge is a
-- key of the level below, by steps of half a cell (`edge_key-fine`), and a coarse one a key of the leaf's level, by
-- whole steps (`edge_key-coarse`).
use Rattle.std.proofs.Common.{◌≡◌, ℕ, zero, suc, ◌+◌, ◌-◌, ◌*◌, ◌/◌, ◌%◌, ◌^◌, ◌<◌, ◌≤◌, Bool, true, false, List, [], ◌∷◌, length, refl, sym, ap, ◌∙◌, arith}
use Rattle.std.specs.Prelude.{◌&&◌, ◌||◌, ◌==◌, nat_lt, not, slice_index_or}
use Rattle.std.specs.List.{list_all}
use Rattle.std.proofs.lemmas.Bool.{and_parts, eqb-true, false≢true, ltb-true}
use Rattle.cells.specs.Edges.{transition_edge}
use Rattle.lattice.specs.declared.key.Key.{Key}
use Rattle.lattice.specs.declared.node.Node.{Node}
use Rattle.lattice.specs.declared.point.Face.{Face}
use Rattle.lattice.specs.Face.{FaceAxis, axis_along, higher, lower}
use Rattle.terrain.specs.Blocks.{square_corner}
use Rattle.terrain.specs.Cells.{TransitionEdge, fine_point, transition_edges}
use Rattle.lattice.specs.Steps.{face_steps, key_at}
use Rattle.block_mesh.proofs.FaceStepLemmas.{face_steps-at, fine_point-on, half-twice, half_side, on_face, whole_side}

-- ---- the table of edges

-- whether an edge begins before the last point on its axis
abbrev pub starts : FaceAxis → ℕ → Bool
starts lower point = nat_lt (point % 3) 2
starts higher point = nat_lt (point / 3) 2

-- whether a point is an outer one of the square
abbrev pub is_outer : ℕ → Bool
is_outer point = point % 3 % 2 == 0 && point / 3 % 2 == 0

-- the test of one edge
abbrev fits_square : TransitionEdge → Bool
fits_square edge =
    nat_lt edge.point 9 && (starts edge.along edge.point
    && (not edge.is_coarse || is_outer edge.point))

-- all sixteen pass it
all_fit : list_all fits_square transition_edges ≡ true
all_fit = refl

-- a test that all items pass is passed by each
list_all-at : {A : Type 0} (test : A → Bool) (xs : List A) (i : ℕ) (d : A)
    → list_all test xs ≡ true → i < length xs → test (slice_index_or xs i d) ≡ true
list_all-at test [] i d all within = absurd (omega arith)
list_all-at test (x ∷ xs) zero d all within = (and_parts (test x) (list_all test xs) all).0
list_all-at test (x ∷ xs) (suc i) d all within =
    list_all-at test xs i d (and_parts (test x) (list_all test xs) all).1 (omega arith)

-- what the table says of an edge
pub record FitsSquare (edge : TransitionEdge) : Type 0 where
  pub point : edge.point < 9
  pub begins : starts edge.along edge.point ≡ true
  pub outer : edge.is_coarse ≡ true → is_outer edge.point ≡ true

-- each edge of a transition cell fits its square
pub edge-fits : (number : ℕ) → number < 16 → FitsSquare (transition_edge number)
edge-fits number within =
    let edge = transition_edge number in
    let all = list_all-at fits_square transition_edges number
    (record { is_coarse = false; point = 0; along = lower }) all_fit within in
    let a = and_parts (nat_lt edge.point 9)
    (starts edge.along edge.point && (not edge.is_coarse || is_outer edge.point)) all in
    let b = and_parts (starts edge.along edge.point) (not edge.is_coarse || is_outer edge.point)
    a.1 in
    record {
      point = ltb-true edge.point 9 a.0;
      begins = b.0;
      outer = λ coarse. by edge.is_coarse (is_outer edge.point) coarse b.1;
    }
  where
    by : (c o : Bool) → c ≡ true → (not c || o) ≡ true → o ≡ true
    by true o is h = h
    by false o is h = absurd (false≢true is)

-- ---- keys by steps

-- the key of an edge of the cell
abbrev pub edge_key : Node → Face → ℕ → ℕ → TransitionEdge → Key
edge_key n face v u edge = record {
  level = elim edge.is_coarse [ true ↦ n.level | false ↦ n.level - 1 ];
  at = fine_point n.level face (square_corner n face v u) edge.point;
  axis = axis_along face edge.along;
}

-- a fine edge
pub edge_key-fine : (n : Node) (face : Face) (v u : ℕ) (edge : TransitionEdge) → 1 ≤ n.level
    → edge.is_coarse ≡ false → edge_key n face v u edge
    ≡ key_at (n.level - 1) n (face_steps face 32 (2 * v + edge.point / 3) (2 * u + edge.point % 3))
    (axis_along face edge.along)
edge_key-fine n face v u edge some fine =
    let pick : Bool → ℕ = λ c. elim c [ true ↦ n.level | false ↦ n.level - 1 ] in
    let at = fine_point-on n v u edge.point some face
    ∙ sym (face_steps-at n (n.level - 1) 32 (half_side n some) (2 * v + edge.point / 3)
    (2 * u + edge.point % 3) face) in
    λ i. record { level = pick (fine i); at = at i; axis = axis_along face edge.along }

-- twice a whole step in half steps
even-steps : (level v b : ℕ) → 1 ≤ level → b % 2 ≡ 0
    → 2 ^ (level - 1) * (2 * v + b) ≡ 2 ^ level * (v + b / 2)
even-steps level v b some even =
    let twice = half-twice level some in
    let half : b ≡ 2 * (b / 2) = omega arith in
    let turned : 2 ^ level * (v + b / 2) ≡ 2 * 2 ^ (level - 1) * (v + b / 2) =
    ap (λ k. k * (v + b / 2)) twice in
    ap (λ k. 2 ^ (level - 1) * (2 * v + k)) half ∙ omega (arith, turned)

-- a coarse edge
pub edge_key-coarse : (n : Node) (face : Face) (v u : ℕ) (edge : TransitionEdge) → 1 ≤ n.level
    → edge.is_coarse ≡ true → is_outer edge.point ≡ true → edge_key n face v u edge
    ≡ key_at n.level n (face_steps face 16 (v + edge.point / 3 / 2) (u + edge.point % 3 / 2))
    (axis_along face edge.along)
edge_key-coarse n face v u edge some coarse outer =
    let pick : Bool → ℕ = λ c. elim c [ true ↦ n.level | false ↦ n.level - 1 ] in
    let even = and_parts (edge.point % 3 % 2 == 0) (edge.point / 3 % 2 == 0) outer in
    let v_is = even-steps n.level v (edge.point / 3) some (eqb-true (edge.point / 3 % 2) 0 even.1)
    in
    let u_is = even-steps n.level u (edge.point % 3) some (eqb-true (edge.point % 3 % 2) 0 even.0)
    in
    let at = fine_point-on n v u edge.point some face
    ∙ (λ i. on_face n face (v_is i) (u_is i))
    ∙ sym (face_steps-at n n.level 16 (whole_side n) (v + edge.point / 3 / 2)
    (u + edge.point % 3 / 2) face) in
    λ i. record { level = pick (coarse i); at = at i; axis = axis_along face edge.along }
