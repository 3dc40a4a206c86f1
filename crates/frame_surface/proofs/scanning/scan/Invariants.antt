-- The best hit so far.
use Rattle.std.proofs.Common.{IfSome}
use Rattle.terrain.specs.MeshLists.{lists_of}
use Rattle.frame_surface.specs.Scan.{IsBestBefore, IsSmallHit, ShowsSurface}
use Rattle.frame_surface.specs.Surface.{Surface}
use Rattle.frame_surface.proofs.scanning.scan.Given as goal

abbrev pub invariant-loop-number : goal.invariant-loop-number
invariant-loop-number l =
    IfSome l.best IsSmallHit
    × ((s : Surface) → ShowsSurface s l.node (lists_of l.view)
    → IsBestBefore s l.at.x l.at.y l.node 0 l.fn.best
    → IsBestBefore s l.at.x l.at.y l.node l.number l.best)
