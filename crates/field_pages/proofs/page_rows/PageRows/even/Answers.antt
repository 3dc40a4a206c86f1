-- Where all rows are the first one, the table lends that one; else there are as many samples as a page has.
use Rattle.std.proofs.Common.{◌+◌, ◌≡◌, ap, ◌∙◌, arith}
use Rattle.field_pages.specs.Even.{even_at}
use Rattle.field_pages.proofs.EvenLemmas.{length-even}
use Rattle.field_pages.proofs.StepLemmas.{length-stepped, stepped-even, whole-extent}
use Rattle.field_pages.proofs.page_rows.PageRows.even.Goals as goal

pub invariant_of-result : goal.invariant_of-result
invariant_of-result c = record {
  extent = whole-extent;
  steps = record { one = omega arith; room = omega (arith, c.row.ensures.len) };
  long = length-stepped c.row.result.now 0;
}

pub returns-then-has_equal_rows : goal.returns-then-has_equal_rows
returns-then-has_equal_rows c =
    let page = c.args.page in
    stepped-even page c.row.result.now (c.has_equal_rows.ensures c.if-has_equal_rows.true)
    (λ t t_in.
    let here : 0 + t ≡ t = omega arith in
    c.row.ensures.samples t t_in ∙ ap (even_at page.extent page.sample) here)

pub invariant_of-result-2 : goal.invariant_of-result-2
invariant_of-result-2 c =
    let long = length-even c.args.page in
    record {
      extent = c.requires;
      steps = record { one = omega arith; room = omega (arith, long) };
      long = long;
    }
