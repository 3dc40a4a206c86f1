-- Those less than a row apart are in one row.
use Rattle.std.proofs.Common.{◌≡◌, ℕ, ◌+◌, ◌-◌, ◌*◌, ◌%◌, pos, get_or, ap, ◌∙◌, arith}
use Rattle.field_pages.specs.PageRows.{lent_samples}
use Rattle.bricks.proofs.PageRowLemmas.{row-of}
use Rattle.bricks.proofs.line.fill_run.Goals as goal

pub fill_from_row-requires-clause-range : goal.fill_from_row-requires-clause-range
fill_from_row-requires-clause-range c =
    let from = c.args.from in
    let is = row-of (lent_samples c.args.page.now) c.row.result.now (from - from % 16)
    c.args.page.now.long c.requires.range c.row.ensures.len
    (omega (arith, c.requires.from)) c.row.ensures.samples in
    is.range

pub returns-clause-each : goal.returns-clause-each
returns-clause-each c = λ k k_in.
    let page = lent_samples c.args.page.now in
    let from = c.args.from in
    let step = c.args.step in
    let first : ℕ = from % 16 in
    let is = row-of page c.row.result.now (from - first)
    c.args.page.now.long c.requires.range c.row.ensures.len
    (omega (arith, c.requires.from)) c.row.ensures.samples in
    let fits = c.requires.row c.if-step.false k k_in in
    let at : from - first + (first + step * k) ≡ from + step * k = omega arith in
    c.fill_from_row.ensures.each k k_in
    ∙ is.same (first + step * k) fits
    ∙ ap (λ m. get_or page m (pos 0)) at
