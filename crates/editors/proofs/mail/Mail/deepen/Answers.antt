-- Worlds that get deeper before the first editor is made keep the rule.
use Rattle.std.proofs.Common.{ap}
use Rattle.editors.specs.declared.shown.Shown.{Shown}
use Rattle.editors.proofs.PassLemmas.{deepens}
use Rattle.editors.proofs.mail.Mail.deepen.Goals as goal

pub another-requires-clause-rule : goal.another-requires-clause-rule
another-requires-clause-rule c =
    let shown = c.loop-depth.invariant.shown in
    deepens _ _ (ap (λ (a : Shown). a.takes) shown) (ap (λ (a : Shown). a.sends) shown)
    (ap (λ (a : Shown). a.made) shown) (ap (λ (a : Shown). a.sheets) shown)
