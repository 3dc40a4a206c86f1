-- The pages so far and those of the other layers are all.
use Rattle.std.proofs.Common.{◌≡◌, ◌+◌, drop}
use Rattle.field_pages.specs.Kept.{page_count}
use Rattle.field_pages.proofs.kept.Kept.pages.Given as goal

abbrev pub invariant-loop-layer : goal.invariant-loop-layer
invariant-loop-layer l =
    l.count + page_count (drop l.layer-index l.layer-items) ≡ page_count l.layer-items
