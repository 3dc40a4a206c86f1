-- The frame leads to the present one by its patch, and the spare frame before it led to it.
use Rattle.std.proofs.Common.{◌≡◌, refl, subst, sym, ◌∙◌}
use Rattle.std.specs.Prelude.{IfSome}
use Rattle.snapshots.specs.Absorbed.{absorbed}
use Rattle.published_frames.specs.declared.spares.Spare.{Spare}
use Rattle.published_frames.specs.Spares.{after_patch}
use Rattle.published_frames.proofs.SpareLemmas.{first_of}
use Rattle.published_frames.proofs.spares.Spares.take_in.Goals as goal

pub returns : goal.returns
returns c =
    let frame = c.args.frame.value in
    let last = c.replace-last in
    let oldest = subst (λ o. IfSome o (λ (s : Spare). after_patch s ≡ frame))
    (sym (c.replace.ensures.after ∙ last.ensures.value))
    (first_of (λ s. after_patch s ≡ frame) _ c.args.self.now.last c.requires) in
    subst (λ o. IfSome o (λ (s : Spare). (after_patch s ≡ absorbed frame c.args.patch)
    × IfSome c.replace.new.dest (λ t. after_patch t ≡ s.frame.value)))
    (sym last.ensures.after) (refl, oldest)
