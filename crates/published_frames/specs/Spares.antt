-- The frames that were shown before the present one.
-- Source: this project's rule.
use Rattle.std.specs.Prelude.{◌≡◌, IfSome}
use Rattle.snapshots.specs.Absorbed.{absorbed}
use Rattle.snapshots.specs.Frame.{FrameState}
use Rattle.published_frames.specs.declared.spares.Spare.{Spare}
use Rattle.published_frames.specs.declared.spares.Spares.{Spares}

-- what a frame that was shown becomes by the patch that led from it
abbrev pub after_patch : Spare → FrameState
after_patch spare = absorbed spare.frame.value spare.patch

-- the frames lead up to the one that is shown: the last of them becomes it by its patch, and the oldest becomes the
-- last one by its own
abbrev pub LeadUpTo : Spares → FrameState → Type 0
LeadUpTo spares shown =
    IfSome spares.last (λ last. (after_patch last ≡ shown)
    × IfSome spares.oldest (λ oldest. after_patch oldest ≡ last.frame.value))
