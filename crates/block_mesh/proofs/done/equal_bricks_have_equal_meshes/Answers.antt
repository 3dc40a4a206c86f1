-- A brick has one mesh.
use Rattle.block_mesh.proofs.DoneLemmas.{one-done}
use Rattle.block_mesh.proofs.done.equal_bricks_have_equal_meshes.Goals as goal

pub returns : goal.returns
returns c = one-done
