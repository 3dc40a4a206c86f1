-- The laws of cells and keys, put together over a leaf.
use Rattle.block_mesh.proofs.NetLemmas.{mesh-leaves}
use Rattle.block_mesh.proofs.nets.meshes_leave_curves.Goals as goal

pub returns : goal.returns
returns c = mesh-leaves c.nets_of_cells.ensures.regular c.nets_of_cells.ensures.transition
    c.keys_are_told_apart.ensures c.nets_by_weights_are_nets_of_pairs.ensures
