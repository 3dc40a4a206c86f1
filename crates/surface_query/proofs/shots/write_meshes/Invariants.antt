-- The meshes so far.
use Rattle.std.proofs.Common.{◌≡◌, ◌*◌, ◌≤◌, ◌++◌, map, take}
use Rattle.block_mesh.specs.declared.mesher.TheConstants.{MAX_KEYS}
use Rattle.mesh_out.specs.Writing.{Writes}
use Rattle.snapshots.specs.Frame.{mesh_after}
use Rattle.snapshots.specs.Stats.{vertex_count}
use Rattle.surface_normals.specs.Normals.{normal_of}
use Rattle.surface_query.specs.NormalText.{meshes_with_normals}
use Rattle.terrain.specs.History.{sample}
use Rattle.surface_query.proofs.shots.write_meshes.Given as goal

abbrev pub invariant-loop-leaf : goal.invariant-loop-leaf
invariant-loop-leaf g l =
    let meshes =
    map (mesh_after l.frame.settings l.frame.events) (take l.leaf-index l.leaf-items) in
    let normals =
    normal_of l.frame.settings.depth (sample l.frame.settings l.frame.events) in
    Writes (g.K.Sink.state l.initial.sink) (g.K.Sink.state l.sink)
    (l.initial.text.items ++ meshes_with_normals normals l.bases meshes) l.text.items
    × (l.count ≡ vertex_count meshes) × (l.count ≤ MAX_KEYS * l.leaf-index)
