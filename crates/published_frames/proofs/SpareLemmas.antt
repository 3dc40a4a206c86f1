-- Frames that lead up to the one that is shown, for `Spares`.
use Rattle.std.proofs.Common.{◌≡◌, Some, None, ap, subst, ◌∙◌}
use Rattle.std.specs.Prelude.{IfSome, Option}
use Rattle.snapshots.specs.Absorbed.{absorbed}
use Rattle.snapshots.specs.Frame.{FrameState}
use Rattle.published_frames.specs.declared.spares.Spare.{Spare}
use Rattle.published_frames.specs.declared.spares.Spares.{Spares}
use Rattle.published_frames.specs.Spares.{LeadUpTo, after_patch}

-- the first of two facts
pub first_of : {A : Type 0} (P Q : A → Type 0) (o : Option A) → IfSome o (λ x. P x × Q x)
    → IfSome o P
first_of P Q None both = tt
first_of P Q (Some x) both = both.0

-- without the second
pub without : {A : Type 0} (P Q R : A → Type 0) → ((x : A) → R x) → (o : Option A)
    → IfSome o (λ x. P x × Q x) → IfSome o (λ x. P x × R x)
without P Q R all None both = tt
without P Q R all (Some x) both = (both.0, all x)

-- the oldest spare becomes the shown frame by its own patch and that of the last one
pub both_patches : (spares : Spares) (shown : FrameState) → LeadUpTo spares shown
    → (last oldest : Spare) → spares.last ≡ Some last → spares.oldest ≡ Some oldest
    → absorbed (after_patch oldest) last.patch ≡ shown
both_patches spares shown lead last oldest is_last is_oldest =
    let leads = subst (λ o. IfSome o (λ (l : Spare). (after_patch l ≡ shown)
    × IfSome spares.oldest (λ o. after_patch o ≡ l.frame.value))) is_last lead in
    let first = subst (λ o. IfSome o (λ o. after_patch o ≡ last.frame.value)) is_oldest leads.1 in
    ap (λ f. absorbed f last.patch) first ∙ leads.0
