-- The thread has the list, and so has the editor that comes back where there is none.
use Rattle.std.proofs.Common.{◌∙◌, rules, subst, sym}
use Rattle.editors.specs.Beside.{IsSent}
use Rattle.editors.proofs.beside.Desk.start.Goals as goal

pub spawn_with-started-requires-clause-runs : goal.spawn_with-started-requires-clause-runs
spawn_with-started-requires-clause-runs g c κs within =
    ((c.requires.editor, c.requires.new, c.requires.lawful), search rules)

pub spawn_with-started-requires-clause-keeps : goal.spawn_with-started-requires-clause-keeps
spawn_with-started-requires-clause-keeps g c κs within = λ sent is.
    subst (λ n. IsSent c.args.mail.now n c.args.events.now sent) (sym c.number-number.ensures) is

pub spawn_with-requires-after_bounds : goal.spawn_with-requires-after_bounds
spawn_with-requires-after_bounds g c κs within =
    rw c.in-Err.ensures.err (c.requires.editor, c.requires.new, c.requires.lawful)

pub finish-requires-clause-sent : goal.finish-requires-clause-sent
finish-requires-clause-sent g c =
    subst (λ n. IsSent c.args.mail.now n c.args.events.now c.spawn_with.result)
    (sym c.number-number.ensures) (rw c.in-Err.ensures.err at c.spawn_with.ensures)

pub returns-in-Err-clause-ended : goal.returns-in-Err-clause-ended
returns-in-Err-clause-ended g c =
    let done = c.finish.ensures in (
      done.ended,
      done.number ∙ c.number-number.ensures,
      done.whole,
    )
