-- The meshes so far.
use Rattle.std.proofs.Common.{◌*◌, ◌-◌, length, map, take}
use Rattle.terrain.specs.declared.cells.TheConstants.{LEAF_TRIANGLES}
use Rattle.audits.specs.Tally.{HasRoomFor, IsTallyOf}
use Rattle.snapshots.specs.Frame.{mesh_after}
use Rattle.terrain.specs.Blocks.{frame_edges}
use Rattle.audits.proofs.audit.tally_of.Given as goal

abbrev pub invariant-loop-leaf : goal.invariant-loop-leaf
invariant-loop-leaf l =
    HasRoomFor l.tally (3 * (LEAF_TRIANGLES * (length l.leaf-items - l.leaf-index)))
    × IsTallyOf l.tally (frame_edges
    (map (mesh_after l.frame.settings l.frame.events) (take l.leaf-index l.leaf-items)))
