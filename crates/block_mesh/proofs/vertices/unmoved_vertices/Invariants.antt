-- The edges so far have their keys and their positions.
use Rattle.std.proofs.Common.{◌≡◌, length, map, take, vec_capacity}
use Rattle.terrain.specs.Blocks.{place}
use Rattle.terrain.specs.Levels.{LevelMap}
use Rattle.terrain.specs.Samples.{Field}
use Rattle.bricks.specs.Brick.{HasBrick}
use Rattle.block_mesh.specs.MeshEdges.{mesh_key}
use Rattle.block_mesh.proofs.vertices.unmoved_vertices.Given as goal

abbrev pub invariant-loop-edge : goal.invariant-loop-edge
invariant-loop-edge l = record {
  keys : l.keys.items ≡ map (mesh_key l.brick) (take l.edge-index l.edges);
  count : length l.positions.items ≡ l.edge-index;
  room : vec_capacity l.keys ≡ l.count;
  place_room : vec_capacity l.positions ≡ l.count;
  placed : (s : Field) (m : LevelMap) → HasBrick s m l.brick
      → l.positions.items ≡ map (place l.brick.depth s m) l.keys.items;
}
