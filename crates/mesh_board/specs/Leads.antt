-- The patch of a board leads from the frames of the marked journal to those of the present one.
-- Source: this project's rule.
use Rattle.snapshots.specs.Frame.{FrameState, StandsFor}
use Rattle.snapshots.specs.Patch.{Fits}
use Rattle.snapshots.specs.declared.patch.Patch.{Patch}
use Rattle.mesh_board.specs.Board.{BoardState, marked_events}

-- a patch fits each frame that stands for the marked journal
abbrev pub Leads : BoardState → Patch → Type 0
Leads board patch = (frame : FrameState)
    → StandsFor frame board.world.settings (marked_events board) → Fits patch frame
