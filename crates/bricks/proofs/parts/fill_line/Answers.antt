-- Where all lines are one, that line has the samples of each; else the line is read.
use Rattle.std.proofs.Common.{arith, subst}
use Rattle.bricks.specs.Parts.{AreLines, page_samples}
use Rattle.bricks.proofs.PageRowLemmas.{one-line}
use Rattle.bricks.proofs.parts.fill_line.Goals as goal

pub read_line-requires-in-Stepped-clause-steps : goal.read_line-requires-in-Stepped-clause-steps
read_line-requires-in-Stepped-clause-steps c = λ by_steps.
    subst (λ l. AreLines l c.args.stride c.args.side c.args.pages.now) c.in-Stepped.is
    c.requires.lines

pub returns-in-Same : goal.returns-in-Same
returns-in-Same c = λ s n have.
    let lines = subst (λ l. AreLines l c.args.stride c.args.side c.args.pages.now) c.in-Same.is
    c.requires.lines in
    c.put_line.ensures s n (one-line s n c.args.stride c.args.side c.args.z c.args.y
    (page_samples c.args.pages.now) c.args.from _ c.requires.stride (omega (arith, c.requires.two))
    c.requires.pages lines.0 lines.1 c.requires.from c.requires.rows have)
