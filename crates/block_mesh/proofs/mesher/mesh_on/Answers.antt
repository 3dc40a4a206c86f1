-- A brick whose samples are all one has a mesh without triangles.
use Rattle.std.proofs.Common.{sym, subst}
use Rattle.block_mesh.specs.Mesh.{IsMeshOf}
use Rattle.block_mesh.proofs.MeshLemmas.{IsMeshOf-none, one-sample}
use Rattle.block_mesh.proofs.mesher.mesh_on.Goals as goal

pub returns-in-None-clause-shows : goal.returns-in-None-clause-shows
returns-in-None-clause-shows c =
    let b = c.args.brick.now in
    let one = c.in-None.ensures.lists in
    subst (IsMeshOf b) (sym c.empty.ensures)
    (IsMeshOf-none b c.lists.ensures.brick (one-sample b one.0 one.1))
