-- Blocks: bricks with their meshes. This project's rule.
use Rattle.terrain.specs.Blocks.{Brick}
use Rattle.bricks.specs.Brick.{IsBrick}
use Rattle.block_mesh.specs.Mesh.{IsMesh, IsMeshOf}
use Rattle.terrain.specs.MeshLists.{MeshLists}

-- a brick and the lists of a mesh
pub record DoneState : Type 0 where
  pub brick : Brick
  pub mesh : MeshLists

-- the mesh is the brick's
pub record IsDone (done : DoneState) : Type 0 where
  pub brick : IsBrick done.brick
  pub of : IsMeshOf done.brick done.mesh
  pub mesh : IsMesh done.mesh
