-- The best hit up to the layer of the index.
use Rattle.std.proofs.Common.{IfSome}
use Rattle.frame_surface.proofs.ColumnLemmas.{node_at}
use Rattle.frame_surface.specs.Scan.{IsBestBefore, IsSmallHit}
use Rattle.frame_surface.specs.Surface.{surface_after}
use Rattle.frame_surface.proofs.picking.scan_level.Given as goal

abbrev pub invariant-loop-k : goal.invariant-loop-k
invariant-loop-k l =
    IfSome l.best IsSmallHit
    × IsBestBefore (surface_after l.frame.settings l.frame.events) l.at.x l.at.y
    (node_at l.level l.k 0 0) 0 l.best
