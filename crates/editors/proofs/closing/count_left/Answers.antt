-- One more note is taken, or the queue is empty.
use Rattle.std.proofs.Common.{ℕ, ◌+◌, sym, ap, ◌∙◌, subst, arith}
use Rattle.crossbeam_queue.specs.Passes.{view}
use Rattle.editors.specs.declared.shown.Shown.{Shown}
use Rattle.editors.proofs.LeftLemmas.{IsLeftSoFar, left-all, left-more}
use Rattle.editors.proofs.PassLemmas.{gathers}
use Rattle.editors.proofs.RuleLemmas.{pops}
use Rattle.editors.proofs.closing.count_left.Goals as goal

pub pop_as-requires-clause-rule : goal.pop_as-requires-clause-rule
pop_as-requires-clause-rule g c =
    let shown = c.loop-taken.invariant.so_far.shown in (
      pops _ _ (ap (λ (a : Shown). a.takes) shown ∙ c.requires.takes)
          (ap (λ (a : Shown). a.sends) shown ∙ c.requires.sends),
      gathers _ _,
    )

pub loop-taken-preserved : goal.loop-taken-preserved
loop-taken-preserved g c =
    let so_far = c.loop-taken.invariant in
    let queue = c.in-Some.ensures.queue in
    let left = c.loop-taken.left in
    let more = left-more (view c.args.pass.now) (view c.loop-taken.pass) (view c.pop_as.new.pass)
    left c.in-Some.note so_far.so_far c.in-Some.ensures.rule.0 in record {
      pass_of = (queue.0 ∙ so_far.pass_of.0, queue.2 ∙ so_far.pass_of.1);
      so_far = subst (λ (n : ℕ).
          IsLeftSoFar (view c.args.pass.now) (view c.pop_as.new.pass) (left + n))
          (sym c.event_count-left.ensures.value) more;
      few = omega (arith, so_far.few, c.event_count-left.ensures.few);
    }

pub returns-in_default : goal.returns-in_default
returns-in_default g c =
    left-all (view c.args.pass.now) (view c.loop-taken.pass) c.loop-taken.left c.requires.takes
    c.loop-taken.invariant.so_far c.in_default.ensures.rule.1
