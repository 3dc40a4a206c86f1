-- The parts are the patch's.
use Rattle.std.proofs.Common.{sym, ap, ◌∙◌}
use Rattle.std.proofs.lemmas.Bool.{false≢true}
use Rattle.field_pages.specs.Pages.{Pages}
use Rattle.patch_wire.proofs.FitLemmas.{all_from, few_from, taken_from}
use Rattle.patch_wire.proofs.taking.can_be_put.Goals as goal

pub returns-then-are_few : goal.returns-then-are_few
returns-then-are_few c =
    let at = c.depth-depth.ensures.value ∙ ap (λ (v : Pages). v.depth) c.deref.ensures in (
      λ true. taken_from c.args.patch.now c.depth-depth.result c.deref-events.result.now
          c.deref-gone.result.now c.deref-blocks.result.now at c.deref-events.ensures.value
          c.deref-gone.ensures.value c.deref-blocks.ensures.value
          (c.are_few.ensures.0 c.if-are_few.true) (c.are_taken.ensures.0 true),
      λ taken. c.are_taken.ensures.1 (all_from c.args.patch.now c.depth-depth.result
          c.deref-events.result.now c.deref-gone.result.now c.deref-blocks.result.now at
          c.deref-events.ensures.value c.deref-gone.ensures.value c.deref-blocks.ensures.value
          taken),
    )

pub returns-else-are_few : goal.returns-else-are_few
returns-else-are_few c =
    let at = c.depth-depth.ensures.value ∙ ap (λ (v : Pages). v.depth) c.deref.ensures in (
      λ true. absurd (false≢true (sym c.if-are_few.false ∙ true)),
      λ taken. c.are_few.ensures.1 (few_from c.args.patch.now c.depth-depth.result
          c.deref-events.result.now c.deref-gone.result.now c.deref-blocks.result.now at
          c.deref-events.ensures.value c.deref-gone.ensures.value c.deref-blocks.ensures.value
          taken),
    )
