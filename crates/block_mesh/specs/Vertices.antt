-- The vertices of a mesh's edges. This project's rule.
use Rattle.std.specs.Prelude.{◌≡◌, List, length, map}
use Rattle.terrain.specs.Blocks.{Brick, place}
use Rattle.terrain.specs.Levels.{LevelMap}
use Rattle.terrain.specs.Samples.{Field}
use Rattle.bricks.specs.Brick.{HasBrick}
use Rattle.block_mesh.specs.MeshEdges.{mesh_key}
use Rattle.block_mesh.specs.declared.mesh_edge.MeshEdge.{MeshEdge}
use Rattle.block_mesh.specs.declared.vertices.Vertices.{Vertices}

-- the keys of edges with a position for each, which is where the key's vertex lies in each field and level map that
-- have the brick
pub record AreVertices (b : Brick) (edges : List MeshEdge) (made : Vertices) : Type 0 where
  pub keys : made.keys.items ≡ map (mesh_key b) edges
  pub count : length made.positions.items ≡ length edges
  pub placed : (s : Field) (m : LevelMap) → HasBrick s m b
      → made.positions.items ≡ map (place b.depth s m) made.keys.items
