-- The best hit up to the node of the index.
use Rattle.std.proofs.Common.{IfSome}
use Rattle.frame_surface.proofs.ColumnLemmas.{node_at}
use Rattle.frame_surface.specs.Scan.{IsBestBefore, IsSmallHit}
use Rattle.frame_surface.specs.Surface.{surface_after}
use Rattle.frame_surface.proofs.picking.scan_row.Given as goal

abbrev pub invariant-loop-i : goal.invariant-loop-i
invariant-loop-i l =
    IfSome l.best IsSmallHit
    × IsBestBefore (surface_after l.frame.settings l.frame.events) l.at.x l.at.y
    (node_at l.column.level l.k l.j l.i) 0 l.best
