-- The pages are counted of what is left, which is a first part of all; there is less of it each time.
use Rattle.std.proofs.Common.{◌≡◌}
use Rattle.terra_events.specs.KeptEdits.{IsFront, all_pages}
use Rattle.terra_events.proofs.kept_edits.forget_oldest.Given as goal

abbrev pub invariant-loop-pages : goal.invariant-loop-pages
invariant-loop-pages l = record {
  count : l.pages ≡ all_pages l.list.items;
  front : IsFront l.list.items l.initial.list.items;
}

abbrev pub decreases-loop-pages : goal.decreases-loop-pages
decreases-loop-pages l = l.list.len
