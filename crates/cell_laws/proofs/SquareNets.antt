-- The triangles of every cell leave open just the curves of its faces, by a test of all sign numbers. For the law
-- `nets_of_cells` (docs/rules.md, "What fits together").
--
-- Two lists of edges between numbers are compared by taking out each edge of the one from the other
-- (`have_same_edges`); where nothing is left they weigh the same (`weight-same`). All sign numbers pass by computing.
-- The second part puts keys in place of numbers: fans, edges and weights go along (`net-keys`), and a cell's curves are
-- those of its faces in order (`by_faces`).
--
-- Offered to the proofs of the crates above, which import them: `regular-cell-net` and `transition-cell-net`.
use Rattle.std.proofs.Common.{◌≡◌, ℕ, ◌+◌, ◌<◌, Bool, true, false, ◌&&◌, List, [], ◌∷◌, ◌++◌, map, refl, ap, ◌∙◌, sym, subst, arith}
use Rattle.std.specs.Prelude.{◌==◌}
use Rattle.std.specs.List.{zip, flat_map}
use Rattle.std.proofs.lemmas.Bool.{eqb-true, and_parts}
use Rattle.std.proofs.lemmas.List.{map-append}
use Rattle.lattice.specs.declared.point.Face.{Face}
use Rattle.lattice.specs.declared.point.Point.{Point}
use Rattle.lattice.specs.declared.key.Key.{Key}
use Rattle.terrain.specs.declared.curve.Curve.{Curve}
use Rattle.terrain.specs.Curves.{Polygon, next, steps, orbit, loops_of, curves, cell_curves, curve_edges, edges_round, all_edges, weight, weight_back, HaveSameNet}
use Rattle.terrain.specs.Samples.{Field}
use Rattle.terrain.specs.Cells.{Outline, polygon, corner_point, regular_signs, regular_key, regular_outlines, regular_faces, regular_triangles, is_straight, fine_point, transition_signs, transition_key, transition_outlines, transition_faces, transition_triangles, triangles_of}
use Rattle.lattice.specs.Face.{faces}
use Rattle.cell_laws.specs.Squares.{keyed, regular_square, transition_face, nine_places}
use Rattle.cell_laws.proofs.IsPresent.{signs_bound}
use Rattle.cell_laws.proofs.SquareFaces.{outlines_in, face_in}
use Rattle.cell_laws.proofs.WeightLemmas.{weight-append}
use Rattle.cell_laws.proofs.AllSigns.{all_regular, at_regular, all_transition, at_transition}

-- whether two edges are the same
is_same_edge : ℕ × ℕ → ℕ × ℕ → Bool
is_same_edge a b = a.0 == b.0 && a.1 == b.1

-- whether an edge is among these, and these without it
is_edge_of : ℕ × ℕ → List (ℕ × ℕ) → Bool
is_edge_of edge [] = false
is_edge_of edge (e ∷ es) = elim (is_same_edge e edge) [ true ↦ true | false ↦ is_edge_of edge es ]

-- these without the edge, taken out once
without : ℕ × ℕ → List (ℕ × ℕ) → List (ℕ × ℕ)
without edge [] = []
without edge (e ∷ es) = elim (is_same_edge e edge) [ true ↦ es | false ↦ e ∷ without edge es ]

-- whether two lists have the same edges, each as often
have_same_edges : List (ℕ × ℕ) → List (ℕ × ℕ) → Bool
have_same_edges [] [] = true
have_same_edges [] (e ∷ es) = false
have_same_edges (edge ∷ edges) es =
    elim (is_edge_of edge es) [ true ↦ have_same_edges edges (without edge es) | false ↦ false ]

-- the edges the other way round
turned_back : List (ℕ × ℕ) → List (ℕ × ℕ)
turned_back edges = map (λ edge. (edge.1, edge.0)) edges

-- whether the triangles of a cell with these faces have the net of its curves
has_net : List Polygon → Bool
has_net faces =
    let edges = all_edges (triangles_of faces) in
    let curves = curve_edges (cell_curves faces) in
    have_same_edges (edges ++ turned_back curves) (turned_back edges ++ curves)

-- by computing, for 256 regular cells
regular_pass : all_regular (λ signs. has_net) ≡ true
unfolding all_regular has_net have_same_edges without is_edge_of is_same_edge turned_back
    triangles_of next steps orbit loops_of
regular_pass = refl

-- by computing, for 512 transition cells in two turns
transition_pass : all_transition (λ signs. has_net) ≡ true
unfolding all_transition has_net have_same_edges without is_edge_of is_same_edge turned_back
    triangles_of next steps orbit loops_of
transition_pass = refl

-- ---- what the tests say

-- what the test of edges says
same-edge : (a b : ℕ × ℕ) → is_same_edge a b ≡ true → a ≡ b
unfolding is_same_edge
same-edge (a, b) (c, d) test =
    let parts = and_parts (a == c) (b == d) test in
    let first : a ≡ c = eqb-true a c parts.0 in
    let second : b ≡ d = eqb-true b d parts.1 in
    cc

-- the edges without one of them weigh less by its weight
by_first : (w : ℕ → ℕ → ℕ) (edge e : ℕ × ℕ) (es rest : List (ℕ × ℕ)) (later same : Bool)
    → is_same_edge e edge ≡ same → (later ≡ true → weight w es ≡ w edge.0 edge.1 + weight w rest)
    → elim same [ true ↦ true | false ↦ later ] ≡ true
    → w e.0 e.1 + weight w es ≡ w edge.0 edge.1 + weight w
    (elim same [ true ↦ es | false ↦ e ∷ rest ])
by_first w edge e es rest later true is others test =
    ap (λ x. w x.0 x.1 + weight w es) (same-edge e edge is)
by_first w edge e es rest later false is others test = omega (arith, others test)

-- an edge taken out takes its weight with it
weight-without : (w : ℕ → ℕ → ℕ) (edge : ℕ × ℕ) (es : List (ℕ × ℕ)) → is_edge_of edge es ≡ true
    → weight w es ≡ w edge.0 edge.1 + weight w (without edge es)
unfolding is_edge_of without
weight-without w edge [] test = absurd (cc)
weight-without w edge (e ∷ es) test = by_first w edge e es (without edge es) (is_edge_of edge es)
    (is_same_edge e edge) refl (weight-without w edge es) test

-- lists of the same edges weigh the same
one_more : (w : ℕ → ℕ → ℕ) (edge : ℕ × ℕ) (edges es : List (ℕ × ℕ)) (there rest : Bool)
    → is_edge_of edge es ≡ there → (rest ≡ true → weight w edges ≡ weight w (without edge es))
    → elim there [ true ↦ rest | false ↦ false ] ≡ true
    → w edge.0 edge.1 + weight w edges ≡ weight w es
one_more w edge edges es true rest is others test =
    omega (arith, others test, weight-without w edge es is)
one_more w edge edges es false rest is others test = absurd (cc)

-- lists that pass weigh the same
weight-same : (w : ℕ → ℕ → ℕ) (xs ys : List (ℕ × ℕ)) → have_same_edges xs ys ≡ true
    → weight w xs ≡ weight w ys
unfolding have_same_edges
weight-same w [] [] test = refl
weight-same w [] (e ∷ es) test = absurd (cc)
weight-same w (edge ∷ edges) es test =
    one_more w edge edges es (is_edge_of edge es) (have_same_edges edges (without edge es)) refl
    (weight-same w edges (without edge es)) test

-- turned edges weigh what reverses do
weight-turned_back : (w : ℕ → ℕ → ℕ) (xs : List (ℕ × ℕ))
    → weight w (turned_back xs) ≡ weight_back w xs
unfolding turned_back
weight-turned_back w [] = refl
weight-turned_back w (x ∷ xs) = ap (λ n. w x.1 x.0 + n) (weight-turned_back w xs)

-- a cell that passes has the net
from_net : (faces : List Polygon) → has_net faces ≡ true
    → HaveSameNet (all_edges (triangles_of faces)) (curve_edges (cell_curves faces))
unfolding has_net
from_net faces test w =
    let edges = all_edges (triangles_of faces) in
    let curves = curve_edges (cell_curves faces) in
    let same = weight-same w (edges ++ turned_back curves) (turned_back edges ++ curves) test in
    omega (
      arith,
      same,
      weight-append w edges (turned_back curves),
      weight-append w (turned_back edges) curves,
      weight-turned_back w edges,
      weight-turned_back w curves,
    )

-- each regular cell has the net, between numbers
regular-net : (signs : ℕ) → signs < 256
    → HaveSameNet (all_edges (triangles_of (regular_faces signs)))
    (curve_edges (cell_curves (regular_faces signs)))
regular-net signs lt =
    from_net (regular_faces signs) (at_regular (λ signs. has_net) regular_pass signs lt)

-- each transition cell has the net, between numbers
transition-net : (face : Face) (signs : ℕ) → signs < 512
    → HaveSameNet (all_edges (triangles_of (transition_faces face signs)))
    (curve_edges (cell_curves (transition_faces face signs)))
transition-net face signs lt = from_net (transition_faces face signs)
    (at_transition (λ signs. has_net) transition_pass face signs lt)

-- ---- with keys

-- an edge of keys
abbrev keys_of_edge : (ℕ → Key) → ℕ × ℕ → Key × Key
keys_of_edge key edge = (key edge.0, key edge.1)

-- pairs of keys
zip-keys : (key : ℕ → Key) (xs ys : List ℕ) → zip (map key xs) (map key ys) ≡ map (keys_of_edge key)
    (zip xs ys)
zip-keys key [] ys = refl
zip-keys key (x ∷ xs) [] = refl
zip-keys key (x ∷ xs) (y ∷ ys) = ap (λ es. (key x, key y) ∷ es) (zip-keys key xs ys)

-- edges round a list, with keys
edges_round-keys : (key : ℕ → Key) (keys : List ℕ)
    → edges_round (map key keys) ≡ map (keys_of_edge key) (edges_round keys)
edges_round-keys key [] = refl
edges_round-keys key (k ∷ keys) = ap (zip (key k ∷ map key keys))
    (sym (map-append key keys (k ∷ []))) ∙ zip-keys key (k ∷ keys) (keys ++ k ∷ [])

-- edges of lists, with keys
all_edges-keys : (key : ℕ → Key) (lists : List (List ℕ))
    → all_edges (map (map key) lists) ≡ map (keys_of_edge key) (all_edges lists)
all_edges-keys key [] = refl
all_edges-keys key (keys ∷ lists) =
    ap (λ es. es ++ all_edges (map (map key) lists)) (edges_round-keys key keys)
    ∙ ap (λ es. map (keys_of_edge key) (edges_round keys) ++ es) (all_edges-keys key lists)
    ∙ sym (map-append (keys_of_edge key) (edges_round keys) (all_edges lists))

-- a weight of keys is one of their numbers
weight-keys : (w : Key → Key → ℕ) (key : ℕ → Key) (es : List (ℕ × ℕ))
    → weight w (map (keys_of_edge key) es) ≡ weight (λ a b. w (key a) (key b)) es
weight-keys w key [] = refl
weight-keys w key (e ∷ es) = ap (λ n. w (key e.0) (key e.1) + n) (weight-keys w key es)

-- the same of reverses
weight_back-keys : (w : Key → Key → ℕ) (key : ℕ → Key) (es : List (ℕ × ℕ))
    → weight_back w (map (keys_of_edge key) es) ≡ weight_back (λ a b. w (key a) (key b)) es
weight_back-keys w key [] = refl
weight_back-keys w key (e ∷ es) = ap (λ n. w (key e.1) (key e.0) + n) (weight_back-keys w key es)

-- a net between numbers gives one between keys
net-keys : (key : ℕ → Key) (lists : List (List ℕ)) (es : List (ℕ × ℕ))
    → HaveSameNet (all_edges lists) es → HaveSameNet (all_edges (map (map key) lists))
    (map (keys_of_edge key) es)
net-keys key lists es net w =
    let edges = ap (weight w) (all_edges-keys key lists) ∙ weight-keys w key (all_edges lists) in
    let back = ap (weight_back w) (all_edges-keys key lists)
    ∙ weight_back-keys w key (all_edges lists) in
    omega (
      arith,
      edges,
      back,
      weight-keys w key es,
      weight_back-keys w key es,
      net (λ a b. w (key a) (key b)),
    )

-- the curves of a cell face by face
by_faces : (key : ℕ → Key) (signs : ℕ) (outlines : List Outline)
    → map (keys_of_edge key) (curve_edges (cell_curves (map (polygon signs) outlines)))
    ≡ flat_map (λ o. keyed key (polygon signs o)) outlines
by_faces key signs [] = refl
by_faces key signs (o ∷ outlines) =
    let here = curves (polygon signs o) in
    let later = cell_curves (map (polygon signs) outlines) in
    let ends : Curve → ℕ × ℕ = λ c. (c.start, c.end) in
    ap (map (keys_of_edge key)) (map-append ends here later)
    ∙ map-append (keys_of_edge key) (curve_edges here) (curve_edges later)
    ∙ ap (λ es. keyed key (polygon signs o) ++ es) (by_faces key signs outlines)

-- the triangles of a regular cell have the net of the curves on its six squares
pub regular-cell-net : (s : Field) (level : ℕ) (low : Point)
    → HaveSameNet (all_edges (regular_triangles s level low))
    (flat_map (λ face. regular_square s level face low) faces)
regular-cell-net s level low =
    let signs = regular_signs s level low in
    let key = regular_key level low in
    let net = net-keys key (triangles_of (regular_faces signs))
    (curve_edges (cell_curves (regular_faces signs)))
    (regular-net signs (signs_bound s 8 (corner_point level low))) in
    subst (HaveSameNet (all_edges (regular_triangles s level low)))
    (by_faces key signs regular_outlines) net

-- the nine outlines of a transition cell, by their places
nine : (straight : Bool) (s : Field) (level : ℕ) (face : Face) (low : Point)
    → flat_map (λ o. keyed (transition_key level face low)
    (polygon (transition_signs s level face low) o)) (outlines_in straight)
    ≡ flat_map (face_in straight s level face low) nine_places
unfolding outlines_in face_in
nine true s level face low = refl
nine false s level face low = refl

-- the triangles of a transition cell have the net of the curves on its nine faces
pub transition-cell-net : (s : Field) (level : ℕ) (face : Face) (low : Point)
    → HaveSameNet (all_edges (transition_triangles s level face low))
    (flat_map (transition_face s level face low) nine_places)
unfolding outlines_in face_in
transition-cell-net s level face low =
    let signs = transition_signs s level face low in
    let key = transition_key level face low in
    let net = net-keys key (triangles_of (transition_faces face signs))
    (curve_edges (cell_curves (transition_faces face signs)))
    (transition-net face signs (signs_bound s 9 (fine_point level face low))) in
    subst (HaveSameNet (all_edges (transition_triangles s level face low)))
    (by_faces key signs (transition_outlines face)
    ∙ nine (is_straight face) s level face low) net
