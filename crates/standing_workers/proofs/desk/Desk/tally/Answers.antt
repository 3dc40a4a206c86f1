-- What is left is what was issued and not collected.
use Rattle.std.proofs.Common.{arith, refl}
use Rattle.standing_workers.proofs.TallyLemmas.{issued_are, tallied}
use Rattle.standing_workers.proofs.desk.Desk.tally.Goals as goal

pub overflow_sub-result : goal.overflow_sub-result
overflow_sub-result c =
    let jobs = c.balance.ensures.left in
    let outcomes = c.balance-2.ensures.left in
    omega (
      arith,
      issued_are c.args.lanes c.args.self c.args.ends.items c.requires.desk
          c.requires.seats _ _ c.close_all.ensures.accounts jobs.0 outcomes.0 jobs.1 outcomes.1,
    )

pub returns : goal.returns
returns c =
    let jobs = c.balance.ensures.left in
    let outcomes = c.balance-2.ensures.left in (
      jobs.0,
      outcomes.0,
      tallied c.args.lanes c.args.self c.args.ends.items c.requires.desk c.requires.seats _ _
          c.close_all.ensures.accounts jobs.0 outcomes.0 jobs.1 outcomes.1 _ refl refl refl,
    )
