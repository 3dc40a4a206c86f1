-- The samples lie as they do in the page.
use Rattle.std.proofs.Common.{arith}
use Rattle.field_pages.proofs.StepLemmas.{length-stepped, stepped-own, whole-extent}
use Rattle.field_pages.proofs.page_rows.PageRows.full.Goals as goal

pub invariant_of-result : goal.invariant_of-result
invariant_of-result c = record {
  extent = whole-extent;
  steps = record { one = omega arith; room = omega (arith, c.requires) };
  long = length-stepped c.args.samples.now 1;
}

pub returns : goal.returns
returns c = stepped-own c.args.samples.now c.requires
