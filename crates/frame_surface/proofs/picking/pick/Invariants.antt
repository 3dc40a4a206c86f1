-- The best hit up to the level.
use Rattle.std.proofs.Common.{IfSome}
use Rattle.frame_surface.proofs.ColumnLemmas.{node_at}
use Rattle.frame_surface.specs.Scan.{IsBestBefore, IsSmallHit}
use Rattle.frame_surface.specs.Surface.{surface_after}
use Rattle.frame_surface.proofs.picking.pick.Given as goal

abbrev pub invariant-loop-level : goal.invariant-loop-level
invariant-loop-level l =
    IfSome l.best IsSmallHit
    × IsBestBefore (surface_after l.frame.settings l.frame.events) l.at.x l.at.y
    (node_at l.level 0 0 0) 0 l.best
