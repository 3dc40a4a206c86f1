-- What is known of the frame of a board's marked journal.
use Rattle.std.proofs.Common.{List, subst}
use Rattle.lattice.specs.declared.settings.Settings.{Settings}
use Rattle.terrain.specs.declared.event.Event.{Event}
use Rattle.mesh_board.specs.Board.{BoardState, marked_events}
use Rattle.mesh_board.specs.Leads.{Leads}
use Rattle.snapshots.specs.Frame.{FrameState, StandsFor}
use Rattle.snapshots.specs.Patch.{Fits}
use Rattle.snapshots.specs.declared.patch.Patch.{Patch}
use Rattle.terra_world.specs.Game.{IsMarkedFrame}

-- the board's patch fits it
pub fits_marked : (board : BoardState) (frame : FrameState) (patch : Patch)
    → IsMarkedFrame board frame → Leads board patch → Fits patch frame
fits_marked board frame patch marked leads =
    let Of : Settings → List Event → Type 0 = StandsFor frame in
    leads frame (subst (λ rules. Of rules (marked_events board)) marked.settings
    (subst (λ events. Of frame.settings events) marked.journal marked.sound.stands))
