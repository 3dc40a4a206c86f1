-- Three keys are asked for, and their triangle goes behind the others.
use Rattle.std.proofs.Common.{ℕ, ◌<◌, ◌∷◌, [], List, get_or, map, refl, ap, arith}
use Rattle.std.proofs.lemmas.Result.{on_ok_weaker}
use Rattle.terrain.specs.Cells.{IsPresent}
use Rattle.lattice.specs.declared.key.Key.{Key}
use Rattle.cells.specs.declared.edges.TheConstants.{TRANSITION_EDGES}
use Rattle.block_mesh.specs.LeafCells.{square_key}
use Rattle.block_mesh.proofs.BuilderLemmas.{AddsTriangles-same, AddsTriangles-three}
use Rattle.block_mesh.proofs.LeafCellLemmas.{item-at, item-of, three}
use Rattle.block_mesh.proofs.builder.Builder.add_transition_triangle.Goals as goal

pub met_index-requires-clause-edge : goal.met_index-requires-clause-edge
met_index-requires-clause-edge c =
    item-at (λ edge. edge < TRANSITION_EDGES) c.args.triangle.now 0 c.requires.edges
    (omega (arith, c.told-triangle))

pub met_index-requires-clause-present : goal.met_index-requires-clause-present
met_index-requires-clause-present c = λ s has.
    let q = c.args.square in
    item-of (IsPresent s) (square_key c.args.brick.now.node q.face q.v q.u) c.args.triangle.now 0
    (c.requires.present s has) (omega (arith, c.told-triangle))

pub met_index-requires-2-clause-edge : goal.met_index-requires-2-clause-edge
met_index-requires-2-clause-edge c =
    item-at (λ edge. edge < TRANSITION_EDGES) c.args.triangle.now 1 c.requires.edges
    (omega (arith, c.told-triangle))

pub met_index-requires-2-clause-present : goal.met_index-requires-2-clause-present
met_index-requires-2-clause-present c = λ s has.
    let q = c.args.square in
    item-of (IsPresent s) (square_key c.args.brick.now.node q.face q.v q.u) c.args.triangle.now 1
    (c.requires.present s has) (omega (arith, c.told-triangle))

pub met_index-requires-2-clause-builds : goal.met_index-requires-2-clause-builds
met_index-requires-2-clause-builds c = c.in_ok-met_index.ensures.adds.builds

pub met_index-requires-3-clause-edge : goal.met_index-requires-3-clause-edge
met_index-requires-3-clause-edge c =
    item-at (λ edge. edge < TRANSITION_EDGES) c.args.triangle.now 2 c.requires.edges
    (omega (arith, c.told-triangle))

pub met_index-requires-3-clause-present : goal.met_index-requires-3-clause-present
met_index-requires-3-clause-present c = λ s has.
    let q = c.args.square in
    item-of (IsPresent s) (square_key c.args.brick.now.node q.face q.v q.u) c.args.triangle.now 2
    (c.requires.present s has) (omega (arith, c.told-triangle))

pub met_index-requires-3-clause-builds : goal.met_index-requires-3-clause-builds
met_index-requires-3-clause-builds c = c.in_ok-met_index-2.ensures.adds.builds

pub returns-clause-few : goal.returns-clause-few
returns-clause-few c =
    on_ok_weaker c.push.result
    (λ _. omega (
      arith,
      c.in_ok-met_index.ensures.few,
      c.in_ok-met_index-2.ensures.few,
      c.in_ok-met_index-3.ensures.few,
    )) c.push.ensures

pub returns-clause-adds : goal.returns-clause-adds
returns-clause-adds c =
    let b = c.args.brick.now in
    let q = c.args.square in
    let f : ℕ → Key = square_key b.node q.face q.v q.u in
    let t : List ℕ = c.args.triangle.now in
    let triangle : List Key = f (get_or t 0 0) ∷ f (get_or t 1 0) ∷ f (get_or t 2 0) ∷ [] in
    let new = record c.met_index-3.new.self { triangles = c.push.new.self } in
    let builds = c.in_ok-met_index-3.ensures.adds.builds in
    on_ok_weaker c.push.result
    (λ pushed. AddsTriangles-same b (λ _. triangle ∷ []) (λ _. map f t ∷ []) c.args.self.now new
    (λ s has. ap (λ row. map f row ∷ []) (three t c.told-triangle))
    (AddsTriangles-three b _ _ _ c.args.self.now c.met_index.new.self c.met_index-2.new.self
    c.met_index-3.new.self new _ _ _ c.in_ok-met_index.ensures.adds
    c.in_ok-met_index-2.ensures.adds c.in_ok-met_index-3.ensures.adds refl pushed
    (record {
      edges = builds.edges;
      spare = record { coarse = builds.spare.coarse; fine = builds.spare.fine };
      coarse = builds.coarse;
      fine = builds.fine;
      low = builds.low;
      moves = builds.moves;
    }))) c.push.ensures

pub returns-clause-met : goal.returns-clause-met
returns-clause-met c =
    on_ok_weaker c.push.result (λ _. record { each = c.in_ok-met_index-3.ensures.met.each })
    c.push.ensures
