-- How many leaves, triangles and keys there are. This project's rule.
use Rattle.std.specs.Prelude.{ℕ, ◌+◌, List, [], ◌∷◌, Option, None, Some, length, sum_by}
use Rattle.terrain.specs.Blocks.{Mesh}
use Rattle.block_mesh.specs.Done.{DoneState}
use Rattle.snapshots.specs.declared.stats.Stats.{Stats}

-- how many triangles the meshes have
abbrev pub triangle_count : List Mesh → ℕ
triangle_count [] = 0
triangle_count (mesh ∷ meshes) = length mesh.triangles + triangle_count meshes

-- how many vertices the meshes have: one for each key of each
abbrev pub vertex_count : List Mesh → ℕ
vertex_count [] = 0
vertex_count (mesh ∷ meshes) = length mesh.keys + vertex_count meshes

-- how many leaves, triangles and keys the meshes have; a key counts in each leaf that has it
abbrev pub stats_of : List Mesh → Stats
stats_of meshes = record {
  leaves = length meshes;
  triangles = triangle_count meshes;
  keys = vertex_count meshes;
}

-- the stats of what a slot of a table has
abbrev pub stats_of_slot : Option DoneState → Stats
stats_of_slot None = record { leaves = 0; triangles = 0; keys = 0 }
stats_of_slot (Some done) = record {
  leaves = 1;
  triangles = length done.mesh.triangles;
  keys = length done.mesh.keys;
}

-- the stats of what some slots have
abbrev pub stats_of_slots : List (Option DoneState) → Stats
stats_of_slots slots = record {
  leaves = sum_by (λ slot. (stats_of_slot slot).leaves) slots;
  triangles = sum_by (λ slot. (stats_of_slot slot).triangles) slots;
  keys = sum_by (λ slot. (stats_of_slot slot).keys) slots;
}
