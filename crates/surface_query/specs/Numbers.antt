-- Numbers that a text counts with. This project's rule.
use Rattle.std.specs.Prelude.{◌≤◌}
use Rattle.mesh_out.specs.declared.obj.TheConstants.{MAX_MESH_BASE}
use Rattle.surface_query.specs.declared.bases.Bases.{Bases}

-- a mesh may be written behind so many vertices and normals: its own fit their types too
pub record AreCounts (bases : Bases) : Type 0 where
  pub vertices : bases.vertices ≤ MAX_MESH_BASE
  pub normals : bases.normals ≤ MAX_MESH_BASE
