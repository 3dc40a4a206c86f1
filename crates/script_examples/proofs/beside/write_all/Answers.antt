-- Each editor that has ended is the one at its place.
use Rattle.std.proofs.Common.{sym, ap, ◌∙◌, arith}
use Rattle.editors.specs.declared.editor.Editor.{Editor}
use Rattle.script_examples.proofs.EndLemmas.{any-at}
use Rattle.script_examples.proofs.beside.write_all.Goals as goal

pub returns-clause-ended : goal.returns-clause-ended
returns-clause-ended g c =
    let made = c.in_ok-ended in λ k d within.
    (made.ensures.each k d
    (omega (arith, within, made.ensures.len, made.ended.ok.0, c.args.editors.ok.0))).1.call.met.0

pub returns-clause-each : goal.returns-clause-each
returns-clause-each g c =
    let made = c.in_ok-ended in λ number within.
    any-at number made.ended.items number
    (omega (arith, within, made.ensures.len, made.ended.ok.0))
    (λ d.
    let job = (made.ensures.each number d (omega (arith, within, c.args.editors.ok.0))).1 in
    job.call.met.1 ∙ ap (λ (e : Editor). e.number) (sym (job.job_is job.job))
    ∙ c.requires.numbers number job.job (omega (arith, within, c.args.editors.ok.0)))
