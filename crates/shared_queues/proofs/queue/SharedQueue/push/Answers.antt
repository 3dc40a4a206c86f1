-- To push an item keeps the rule.
use Rattle.std.proofs.Common.{◌<◌, subst, sym}
use Rattle.shared_queues.specs.declared.entries.Entries.{Entries}
use Rattle.shared_queues.proofs.RuleLemmas.{pushes}
use Rattle.shared_queues.proofs.queue.SharedQueue.push.Goals as goal

pub push_as-requires-clause-rule : goal.push_as-requires-clause-rule
push_as-requires-clause-rule g c = (
  pushes _ _ _ _ (subst (λ shown. 0 < shown.shares) (sym c.loop.invariant.same) c.requires.shares),
  λ items accounts balanced at. tt,
)
