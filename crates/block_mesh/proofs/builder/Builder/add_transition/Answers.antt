-- Each triangle goes behind the others.
use Rattle.std.proofs.Common.{ℕ, ◌+◌, ◌<◌, ◌∷◌, ◌++◌, [], List, get_or, map, take, ap, arith}
use Rattle.std.proofs.lemmas.List.{take_all}
use Rattle.terrain.specs.Cells.{IsPresent}
use Rattle.lattice.specs.declared.key.Key.{Key}
use Rattle.cells.specs.declared.edges.TheConstants.{TRANSITION_EDGES}
use Rattle.block_mesh.specs.LeafCells.{square_key}
use Rattle.block_mesh.proofs.BuilderLemmas.{AddsTriangles-none, AddsTriangles-same, AddsTriangles-then}
use Rattle.block_mesh.proofs.LeafCellLemmas.{row-at, row-of, triangles-more}
use Rattle.block_mesh.proofs.MetLemmas.{HasMet-none}
use Rattle.block_mesh.proofs.builder.Builder.add_transition.Goals as goal

pub loop-triangle-init : goal.loop-triangle-init
loop-triangle-init c = record {
  few = omega arith;
  adds = AddsTriangles-none c.args.brick.now c.args.self.now c.requires.builds;
  met = HasMet-none c.args.brick.now c.args.square c.args.self.now 16;
}

pub add_transition_triangle-requires-clause-edges :
    goal.add_transition_triangle-requires-clause-edges
add_transition_triangle-requires-clause-edges c =
    row-at (λ edge. edge < TRANSITION_EDGES) c.args.triangles.now c.loop-triangle.triangle-index
    c.requires.edges c.loop-triangle-test.true

pub add_transition_triangle-requires-clause-present :
    goal.add_transition_triangle-requires-clause-present
add_transition_triangle-requires-clause-present c = λ s has.
    let q = c.args.square in
    row-of (IsPresent s) (square_key c.args.brick.now.node q.face q.v q.u) c.args.triangles.now
    c.loop-triangle.triangle-index (c.requires.present s has) c.loop-triangle-test.true

pub add_transition_triangle-requires-clause-builds :
    goal.add_transition_triangle-requires-clause-builds
add_transition_triangle-requires-clause-builds c = c.loop-triangle.invariant.adds.builds

pub add_transition_triangle-requires-clause-room :
    goal.add_transition_triangle-requires-clause-room
add_transition_triangle-requires-clause-room c =
    omega (arith, c.requires.room, c.loop-triangle.invariant.few, c.loop-triangle-test.true)

pub add_transition_triangle-requires-clause-met :
    goal.add_transition_triangle-requires-clause-met
add_transition_triangle-requires-clause-met c = c.loop-triangle.invariant.met

pub loop-triangle-preserved : goal.loop-triangle-preserved
loop-triangle-preserved c =
    let b = c.args.brick.now in
    let q = c.args.square in
    let f : ℕ → Key = square_key b.node q.face q.v q.u in
    let ts = c.args.triangles.now in
    let i = c.loop-triangle.triangle-index in
    let t : List ℕ = get_or ts i [] in
    let new = c.add_transition_triangle.new.self in
    record {
      few = omega (
        arith,
        c.in_ok-add_transition_triangle.ensures.few,
        c.loop-triangle.invariant.few,
      );
      met = c.in_ok-add_transition_triangle.ensures.met;
      adds = AddsTriangles-same b (λ _. map (map f) (take i ts) ++ map f t ∷ [])
          (λ _. map (map f) (take (i + 1) ts)) c.args.self.now new
          (λ s has. triangles-more f ts i c.loop-triangle-test.true)
          (AddsTriangles-then b (λ _. map (map f) (take i ts)) (λ _. map f t ∷ [])
          c.args.self.now c.loop-triangle.self new c.loop-triangle.invariant.adds
          c.in_ok-add_transition_triangle.ensures.adds);
    }

pub returns-clause-adds : goal.returns-clause-adds
returns-clause-adds c =
    let b = c.args.brick.now in
    let q = c.args.square in
    let f : ℕ → Key = square_key b.node q.face q.v q.u in
    let ts = c.args.triangles.now in
    let i = c.loop-triangle.triangle-index in
    AddsTriangles-same b (λ _. map (map f) (take i ts)) (λ _. map (map f) ts) c.args.self.now
    c.loop-triangle.self
    (λ s has. ap (map (map f)) (take_all i ts c.loop-triangle-test.false))
    c.loop-triangle.invariant.adds
