-- The later of two frames says what both say.
use Rattle.std.proofs.Common.{subst}
use Rattle.published_frames.specs.Pasts.{Continues, past_of}
use Rattle.published_frames.proofs.SeenLemmas.{later_says, later_says_too}
use Rattle.published_frames.proofs.learnt.Learnt.later_of.Goals as goal

pub returns-then-is_before-clause-as_much : goal.returns-then-is_before-clause-as_much
returns-then-is_before-clause-as_much c =
    later_says c.args.one c.args.other
    (subst (λ frame. Continues frame (past_of c.args.other)) c.frame.ensures.value
    (c.is_before.ensures.0 c.if-is_before.true))

pub returns-then-is_before-2-clause-as_much : goal.returns-then-is_before-2-clause-as_much
returns-then-is_before-2-clause-as_much c =
    later_says_too c.args.one c.args.other
    (subst (λ frame. Continues frame (past_of c.args.one)) c.frame-else-is_before.ensures.value
    (c.is_before-else-is_before.ensures.0 c.if-is_before-2.true))
