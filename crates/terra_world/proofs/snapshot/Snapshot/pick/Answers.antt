-- The frame that is shared is the snapshot's.
use Rattle.std.proofs.Common.{◌∙◌, IfNone, subst}
use Rattle.snapshots.specs.Frame.{FrameState}
use Rattle.frame_surface.specs.Best.{IsBare}
use Rattle.frame_surface.specs.Surface.{surface_after}
use Rattle.terra_world.proofs.snapshot.Snapshot.pick.Goals as goal

pub returns-clause-none : goal.returns-clause-none
returns-clause-none c =
    subst (λ (frame : FrameState). IfNone c.pick.result
    (IsBare (surface_after frame.settings frame.events) c.args.x c.args.y))
    (c.deref.ensures ∙ c.self.view_is) c.pick.ensures.none
