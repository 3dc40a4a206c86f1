-- The best hit up to the row of the index.
use Rattle.std.proofs.Common.{IfSome}
use Rattle.frame_surface.proofs.ColumnLemmas.{node_at}
use Rattle.frame_surface.specs.Scan.{IsBestBefore, IsSmallHit}
use Rattle.frame_surface.specs.Surface.{surface_after}
use Rattle.frame_surface.proofs.picking.scan_layer.Given as goal

abbrev pub invariant-loop-j : goal.invariant-loop-j
invariant-loop-j l =
    IfSome l.best IsSmallHit
    × IsBestBefore (surface_after l.frame.settings l.frame.events) l.at.x l.at.y
    (node_at l.column.level l.k l.j 0) 0 l.best
