-- The meshes so far.
use Rattle.std.proofs.Common.{◌≡◌, ◌+◌, ◌*◌, ◌≤◌, ◌++◌, map, take}
use Rattle.block_mesh.specs.declared.mesher.TheConstants.{MAX_KEYS}
use Rattle.snapshots.specs.Stats.{vertex_count}
use Rattle.mesh_out.specs.Text.{meshes_text}
use Rattle.mesh_out.specs.Writing.{Writes}
use Rattle.snapshots.specs.Frame.{mesh_after}
use Rattle.mesh_out.proofs.shot.write_meshes.Given as goal

abbrev pub invariant-loop-leaf : goal.invariant-loop-leaf
invariant-loop-leaf g l =
    let meshes =
    map (mesh_after l.frame.settings l.frame.events) (take l.leaf-index l.leaf-items) in
    Writes (g.K.Sink.state l.initial.sink) (g.K.Sink.state l.sink)
    (l.initial.text.items ++ meshes_text l.base meshes) l.text.items
    × (l.vertices ≡ l.base + vertex_count meshes)
    × (l.vertices ≤ l.base + MAX_KEYS * l.leaf-index)
