-- The oldest goes with its pages, and one is there as long as there are pages.
use Rattle.std.proofs.Common.{◌<◌, [], length, refl, ap, arith}
use Rattle.field_pages.specs.Kept.{OldPages}
use Rattle.terra_events.specs.KeptEdits.{all_pages}
use Rattle.terra_events.proofs.EditedLemmas.{IsFront-all, IsFront-less, all_pages-push, some_pages}
use Rattle.terra_events.proofs.kept_edits.forget_oldest.Goals as goal
use Rattle.terra_events.proofs.kept_edits.forget_oldest.Goals.{In_default}

pub loop-pages-init : goal.loop-pages-init
loop-pages-init c = record {
  count = c.requires;
  front = IsFront-all c.args.list.now.items c.args.list.now.items refl;
}

pub overflow_sub-pages : goal.overflow_sub-pages
overflow_sub-pages c = omega (
  arith,
  ap all_pages c.in-Some.ensures.items,
  all_pages-push c.pop_back.new.self.items c.in-Some.oldest,
  c.pages-pages.ensures.count,
  c.loop-pages.invariant.count,
)

pub loop-pages-smaller-in-Some : goal.loop-pages-smaller-in-Some
loop-pages-smaller-in-Some c = omega (arith, c.in-Some.ensures.cases)

pub loop-pages-preserved-in-Some : goal.loop-pages-preserved-in-Some
loop-pages-preserved-in-Some c = record {
  count = omega (
    arith,
    ap all_pages c.in-Some.ensures.items,
    all_pages-push c.pop_back.new.self.items c.in-Some.oldest,
    c.pages-pages.ensures.count,
    c.loop-pages.invariant.count,
  );
  front = IsFront-less c.loop-pages.list.items c.args.list.now.items c.pop_back.new.self.items
      c.in-Some.oldest c.in-Some.ensures.items c.loop-pages.invariant.front;
}

-- as long as there are pages there is an oldest edit
there_is_one : In_default → ⊥
there_is_one c =
    let none : OldPages = record { depth = 0; layers = [] } in
    let some : 0 < length c.loop-pages.list.items =
    some_pages c.loop-pages.list.items
    (omega (arith, c.loop-pages.invariant.count, c.loop-pages-test.true)) in
    c.in_default.not-Some _ (c.pop_back.ensures.value none
    (omega (arith, some, c.loop-pages.list.ok)))

pub loop-pages-smaller : goal.loop-pages-smaller
loop-pages-smaller c = absurd (there_is_one c)

pub loop-pages-preserved : goal.loop-pages-preserved
loop-pages-preserved c = absurd (there_is_one c)

pub returns-clause-count : goal.returns-clause-count
returns-clause-count c = c.loop-pages.invariant.count

pub returns-clause-front : goal.returns-clause-front
returns-clause-front c = c.loop-pages.invariant.front
