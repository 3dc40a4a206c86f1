-- The layers of cells are added one after another.
use Rattle.std.proofs.Common.{◌≡◌, ◌∙◌, ap, arith}
use Rattle.lattice.specs.Lists.{joined}
use Rattle.terrain.specs.Blocks.{over_cells}
use Rattle.terrain.specs.Cells.{regular_triangles}
use Rattle.block_mesh.proofs.BuilderLemmas.{AddsTriangles-begun, AddsTriangles-next, AddsTriangles-same}
use Rattle.block_mesh.proofs.CellTriangleLemmas.{cells-joined}
use Rattle.block_mesh.proofs.mesher.add_cells.Invariants.{layer}
use Rattle.block_mesh.proofs.mesher.add_cells.Goals as goal

pub loop-z-init : goal.loop-z-init
loop-z-init c =
    let b = c.args.brick.now in
    record {
      few = omega arith;
      adds = AddsTriangles-begun b (layer b.node) c.args.builder.now c.requires.builds;
    }

pub add_layer-requires-clause-builds : goal.add_layer-requires-clause-builds
add_layer-requires-clause-builds c = c.loop-z.invariant.adds.builds

pub add_layer-requires-clause-room : goal.add_layer-requires-clause-room
add_layer-requires-clause-room c =
    omega (arith, c.requires.room, c.loop-z.invariant.few, c.loop-z-test.true)

pub loop-z-preserved : goal.loop-z-preserved
loop-z-preserved c =
    let b = c.args.brick.now in
    let z = c.loop-z.z in
    record {
      few = omega (arith, c.in_ok-add_layer.ensures.few, c.loop-z.invariant.few);
      adds = AddsTriangles-next b (layer b.node) z c.args.builder.now c.loop-z.builder
          c.add_layer.new.builder c.loop-z.invariant.adds c.in_ok-add_layer.ensures.adds;
    }

pub returns-clause-few : goal.returns-clause-few
returns-clause-few c = omega (arith, c.loop-z.invariant.few, c.loop-z.auto.z-end)

pub returns-clause-adds : goal.returns-clause-adds
returns-clause-adds c =
    let b = c.args.brick.now in
    let n = b.node in
    let last : c.loop-z.z ≡ 16 = omega (arith, c.loop-z.auto.z-end, c.loop-z-test.false) in
    AddsTriangles-same b (λ s. joined c.loop-z.z (layer n s))
    (λ s. over_cells n (regular_triangles s n.level)) c.args.builder.now c.loop-z.builder
    (λ s has. ap (λ k. joined k (layer n s)) last ∙ cells-joined n (regular_triangles s n.level))
    c.loop-z.invariant.adds
