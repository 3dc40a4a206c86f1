-- Each triangle goes behind the others.
use Rattle.std.proofs.Common.{◌≡◌, ℕ, ◌+◌, ◌<◌, ◌≤◌, ◌∷◌, ◌++◌, [], List, get_or, length, map, take, sym, ap, ◌∙◌, subst, arith}
use Rattle.std.specs.List.{AllByRecursion}
use Rattle.std.proofs.lemmas.List.{get_or-map, length-map, take_all}
use Rattle.lattice.specs.declared.key.Key.{Key}
use Rattle.lattice.specs.declared.point.Axis.TheVariants.{X}
use Rattle.terrain.specs.Cells.{IsPresent, regular_faces, triangles_of}
use Rattle.cells.specs.declared.edges.TheConstants.{REGULAR_EDGES}
use Rattle.block_mesh.specs.CellSteps.{number_step}
use Rattle.block_mesh.specs.KeyTable.{edge_slot}
use Rattle.block_mesh.specs.LeafCells.{cell_key, cell_triangles}
use Rattle.block_mesh.specs.MeshEdges.{IsEdgeSlot, key_at_slot}
use Rattle.block_mesh.proofs.BuilderLemmas.{AddsTriangles-none, AddsTriangles-same, AddsTriangles-then}
use Rattle.block_mesh.proofs.CellStepLemmas.{step-keys, step-slots}
use Rattle.block_mesh.proofs.LeafCellLemmas.{row-at, row-of, triangles-more}
use Rattle.block_mesh.proofs.builder.Builder.add_regular.Goals as goal
use Rattle.block_mesh.proofs.builder.Builder.add_regular.Goals.{In-loop-triangle}

-- the triangles of the cell, by the numbers of edges
abbrev all_of : ℕ → List (List ℕ)
all_of signs = triangles_of (regular_faces signs)

-- the next one
next : (c : In-loop-triangle) → List ℕ
next c = get_or (all_of c.args.signs) c.loop-triangle.triangle-index []

-- there is one
next_in : (c : In-loop-triangle) → c.loop-triangle.triangle-index < length (all_of c.args.signs)
next_in c =
    omega (
      arith,
      c.loop-triangle-test.true,
      ap length c.of-triangle-items.ensures.steps,
      length-map (all_of c.args.signs) (map number_step),
    )

-- its edges are the cell's
next_edges : (c : In-loop-triangle) → AllByRecursion (λ edge. edge < REGULAR_EDGES) (next c)
unfolding next
next_edges c =
    row-at (λ edge. edge < REGULAR_EDGES) (all_of c.args.signs) c.loop-triangle.triangle-index
    c.of-triangle-items.ensures.edges (next_in c)

-- the one at hand has their steps
next_steps : (c : In-loop-triangle)
    → get_or c.of-triangle-items.result.now c.loop-triangle.triangle-index []
    ≡ map number_step (next c)
unfolding next
next_steps c =
    ap (λ xs. get_or xs c.loop-triangle.triangle-index []) c.of-triangle-items.ensures.steps
    ∙ get_or-map (map number_step) (all_of c.args.signs) c.loop-triangle.triangle-index [] []
    (next_in c)

-- and their keys
next_keys : (c : In-loop-triangle)
    → map (λ step. key_at_slot c.args.brick.now (c.edge_slot-first.result + step))
    (get_or c.of-triangle-items.result.now c.loop-triangle.triangle-index [])
    ≡ map (cell_key c.args.brick.now.node c.args.cell) (next c)
next_keys c =
    let b = c.args.brick.now in
    (λ i. map (λ step. key_at_slot b (c.edge_slot-first.ensures.value i + step)) (next_steps c i))
    ∙ step-keys b c.args.cell (next c) c.requires.cell (next_edges c)

pub loop-triangle-init : goal.loop-triangle-init
loop-triangle-init c = record {
  few = omega arith;
  adds = AddsTriangles-none c.args.brick.now c.args.self.now c.requires.builds;
}

pub add_regular_triangle-requires-clause-slots : goal.add_regular_triangle-requires-clause-slots
add_regular_triangle-requires-clause-slots c =
    let d = (goal.at.add_regular_triangle-requires-clause-slots c).In-loop-triangle in
    subst (λ first. AllByRecursion (λ step. IsEdgeSlot (first + step))
    (get_or c.of-triangle-items.result.now c.loop-triangle.triangle-index []))
    (sym c.edge_slot-first.ensures.value)
    (subst (AllByRecursion (λ step. IsEdgeSlot (edge_slot c.args.cell X + step)))
    (sym (next_steps d)) (step-slots c.args.cell (next d) c.requires.cell (next_edges d)))

pub add_regular_triangle-requires-clause-present :
    goal.add_regular_triangle-requires-clause-present
unfolding next
add_regular_triangle-requires-clause-present c = λ s has.
    let d = (goal.at.add_regular_triangle-requires-clause-present c).In-loop-triangle in
    subst (AllByRecursion (IsPresent s)) (sym (next_keys d))
    (row-of (IsPresent s) (cell_key c.args.brick.now.node c.args.cell) (all_of c.args.signs)
    c.loop-triangle.triangle-index (c.requires.present s has) (next_in d))

pub add_regular_triangle-requires-clause-builds : goal.add_regular_triangle-requires-clause-builds
add_regular_triangle-requires-clause-builds c = c.loop-triangle.invariant.adds.builds

pub add_regular_triangle-requires-clause-room : goal.add_regular_triangle-requires-clause-room
add_regular_triangle-requires-clause-room c =
    omega (
      arith,
      c.requires.room,
      c.loop-triangle.invariant.few,
      c.loop-triangle-test.true,
      c.of-triangle-items.ensures.few,
    )

pub loop-triangle-preserved : goal.loop-triangle-preserved
unfolding next
loop-triangle-preserved c =
    let d = (goal.at.loop-triangle-preserved c).In-loop-triangle in
    let b = c.args.brick.now in
    let f : ℕ → Key = cell_key b.node c.args.cell in
    let ts = all_of c.args.signs in
    let i = c.loop-triangle.triangle-index in
    let t : List ℕ = get_or ts i [] in
    let new = c.add_regular_triangle.new.self in
    record {
      few = omega (
        arith,
        c.in_ok-add_regular_triangle.ensures.few,
        c.loop-triangle.invariant.few,
      );
      adds = AddsTriangles-same b (λ _. map (map f) (take i ts) ++ map f t ∷ [])
          (λ _. map (map f) (take (i + 1) ts)) c.args.self.now new
          (λ s has. triangles-more f ts i (next_in d))
          (AddsTriangles-then b (λ _. map (map f) (take i ts)) (λ _. map f t ∷ [])
          c.args.self.now c.loop-triangle.self new c.loop-triangle.invariant.adds
          (AddsTriangles-same b _ (λ _. map f t ∷ []) c.loop-triangle.self new
          (λ s has. ap (λ keys. keys ∷ []) (next_keys d))
          c.in_ok-add_regular_triangle.ensures.adds));
    }

pub returns-clause-few : goal.returns-clause-few
returns-clause-few c =
    omega (
      arith,
      c.loop-triangle.invariant.few,
      c.loop-triangle.invariant,
      c.loop-triangle-test.false,
      c.of-triangle-items.ensures.few,
    )

pub returns-clause-adds : goal.returns-clause-adds
returns-clause-adds c =
    let b = c.args.brick.now in
    let ts = all_of c.args.signs in
    let i = c.loop-triangle.triangle-index in
    let past : length ts ≤ i =
    omega (
      arith,
      c.loop-triangle-test.false,
      ap length c.of-triangle-items.ensures.steps,
      length-map ts (map number_step),
    ) in
    AddsTriangles-same b (λ _. cell_triangles b.node c.args.cell (take i ts))
    (λ _. cell_triangles b.node c.args.cell ts) c.args.self.now c.loop-triangle.self
    (λ s has. ap (cell_triangles b.node c.args.cell) (take_all i ts past))
    c.loop-triangle.invariant.adds
