-- Empty lists are a mesh.
use Rattle.block_mesh.proofs.MeshLemmas.{IsMesh-none}
use Rattle.block_mesh.proofs.block.Mesh.empty.Goals as goal

pub invariant_of-result : goal.invariant_of-result
invariant_of-result c =
    IsMesh-none _ c.new.ensures.items c.new-2.ensures.items c.new-3.ensures.items
