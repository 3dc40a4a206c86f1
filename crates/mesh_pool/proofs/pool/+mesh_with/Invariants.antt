-- Each call has one post fewer.
use Rattle.std.proofs.Common.{length}
use Rattle.mesh_pool.proofs.pool.+mesh_with.Given as goal

abbrev pub decreases-mesh_with : goal.decreases-mesh_with
decreases-mesh_with g l = length l.posts.now
