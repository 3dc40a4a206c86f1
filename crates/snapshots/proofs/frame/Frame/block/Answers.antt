-- The lists are those of the leaf's block.
use Rattle.std.proofs.Common.{refl, subst, sym}
use Rattle.block_mesh.specs.Mesh.{ShowsMesh}
use Rattle.snapshots.specs.Frame.{mesh_after}
use Rattle.snapshots.proofs.frame.Frame.block.Goals as goal

pub returns-clause-mesh : goal.returns-clause-mesh
returns-clause-mesh c =
    subst (λ lists. ShowsMesh lists (mesh_after c.args.self.now.settings c.args.self.now.events
    c.args.node)) (sym c.view.ensures.lists) c.in_ok-done.ensures.block.mesh
