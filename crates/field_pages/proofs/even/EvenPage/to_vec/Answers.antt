-- One row more is filled, and in the end all are. A page of one sample is filled at once.
use Rattle.std.proofs.Common.{◌≡◌, ◌+◌, SFits, w8, ap, drop, length, replicate, rules, sym, ◌∙◌, subst, arith}
use Rattle.std.proofs.lemmas.Int.{to_z-of_z}
use Rattle.std.proofs.lemmas.List.{take_at}
use Rattle.std.proofs.lemmas.Result.{IfOk-weaker}
use Rattle.field_pages.specs.Even.{even_list}
use Rattle.field_pages.specs.declared.page.TheConstants.{COUNT}
use Rattle.field_pages.proofs.EvenLemmas.{even-filled, AreRowsFilled, AreRowsFilled-all, AreRowsFilled-more, AreRowsFilled-start}
use Rattle.field_pages.proofs.even.EvenPage.to_vec.Goals as goal

pub returns-then-is_even-clause-value : goal.returns-then-is_even-clause-value
returns-then-is_even-clause-value c =
    let page = c.args.self.now in
    let fits : SFits w8 page.sample = search rules in
    IfOk-weaker c.vec.result _ (λ samples. samples.items ≡ even_list page)
    (λ samples is. is (λ y same. same) ∙ ap (replicate COUNT) (to_z-of_z w8 page.sample fits)
    ∙ even-filled page c.requires (c.is_even.ensures.0 c.if-is_even.true))
    c.vec.ensures.items_if_clones_equal

pub loop-row-init : goal.loop-row-init
loop-row-init c =
    AreRowsFilled-start c.args.self.now c.in_ok-samples.samples.items
    (c.in_ok-samples.ensures.items_if_clones_equal (λ y same. same))

pub loop-row-preserved : goal.loop-row-preserved
loop-row-preserved c =
    let page = c.args.self.now in
    let row = c.loop-row.row in
    let items = c.deref_mut.result.now in
    let new = c.fill_row.new.samples in
    let fits : SFits w8 page.sample = search rules in
    let same_length : length new ≡ length items = omega arith in
    let items_is : items ≡ c.loop-row.samples.items = c.deref_mut.ensures.value in
    let more = AreRowsFilled-more page row c.row_count.result items new c.requires
    (omega (arith, c.loop-row-test.true)) c.row_count.ensures.value same_length
    (λ t d t_in. c.fill_row.ensures.filled t d t_in ∙ to_z-of_z w8 page.sample fits)
    c.fill_row.ensures.others
    (subst (AreRowsFilled page row) (sym items_is) c.loop-row.invariant) in
    let whole = take_at new (drop (length new) c.loop-row.samples.items) c.loop-row.samples.len
    (same_length ∙ c.deref_mut.ensures.len) in
    subst (AreRowsFilled page (row + 1)) (sym whole) more

pub returns-clause-len : goal.returns-clause-len
returns-clause-len c = let filled = c.loop-row.invariant in filled.long

pub returns-clause-value : goal.returns-clause-value
returns-clause-value c =
    AreRowsFilled-all c.args.self.now c.loop-row.row c.loop-row.samples.items
    (omega (arith, c.loop-row-test.false)) c.loop-row.invariant
