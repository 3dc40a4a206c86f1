-- The pages of a layer more are counted, and in the end all are. They are no more than those of the largest world.
use Rattle.std.proofs.Common.{◌≡◌, ◌+◌, ◌*◌, ◌≤◌, ◌∷◌, ap, sym, ◌∙◌, subst, drop, length, arith}
use Rattle.std.proofs.lemmas.List.{at_drop_all, at_drop_more}
use Rattle.field_pages.specs.declared.page.TheConstants.{MAX_ACROSS}
use Rattle.field_pages.specs.Kept.{OldLayer, OldPages, page_count}
use Rattle.field_pages.proofs.RestoredLemmas.{few_pages}
use Rattle.field_pages.proofs.kept.Kept.pages.Goals as goal
use Rattle.field_pages.proofs.kept.Kept.pages.Goals.{After-pages}

-- the pages of a layer more
more : (c : After-pages)
    → length c.pages.result.now
    + page_count (drop (c.loop-layer.layer-index + 1) c.deref-layer-items.result.now)
    ≡ page_count (drop c.loop-layer.layer-index c.deref-layer-items.result.now)
more c =
    let items = c.deref-layer-items.result.now in
    let k = c.loop-layer.layer-index in
    let layer = c.layer-item.result in
    ap (λ ps. length ps + page_count (drop (k + 1) items)) c.pages.ensures
    ∙ ap (λ (o : OldLayer). page_count (o ∷ drop (k + 1) items)) c.layer-item.is
    ∙ sym (at_drop_more page_count items k layer c.loop-layer-test.true)

-- all are few
few : (c : After-pages)
    → page_count c.deref-layer-items.result.now ≤ MAX_ACROSS * MAX_ACROSS * MAX_ACROSS
few c =
    subst (λ layers. page_count layers ≤ MAX_ACROSS * MAX_ACROSS * MAX_ACROSS)
    (sym c.deref-layer-items.ensures.value)
    (few_pages (record { depth = c.self.inside.depth; layers = c.self.inside.layers.items })
    c.self.invariant c.sizes_of_worlds.ensures.power)

pub overflow_cast-count : goal.overflow_cast-count
overflow_cast-count c = omega (arith, more c, few c, c.loop-layer.invariant)

pub overflow_add-count : goal.overflow_add-count
overflow_add-count c = omega (arith, more c, few c, c.loop-layer.invariant)

pub loop-layer-preserved : goal.loop-layer-preserved
loop-layer-preserved c = omega (arith, more c, c.loop-layer.invariant)

pub returns-clause-count : goal.returns-clause-count
returns-clause-count c =
    let items = c.deref-layer-items.result.now in
    let none : page_count (drop c.loop-layer.layer-index items) ≡ 0 =
    at_drop_all page_count items c.loop-layer.layer-index c.loop-layer-test.false in
    let all : c.loop-layer.count ≡ page_count items =
    omega (arith, none, c.loop-layer.invariant) in
    all ∙ ap page_count c.deref-layer-items.ensures.value
    ∙ ap (λ (k : OldPages). page_count k.layers) c.self.view_is

pub returns-clause-few : goal.returns-clause-few
returns-clause-few c =
    let count = returns-clause-count c in
    subst (λ n. n ≤ MAX_ACROSS * MAX_ACROSS * MAX_ACROSS) (sym count)
    (subst (λ (k : OldPages). page_count k.layers ≤ MAX_ACROSS * MAX_ACROSS * MAX_ACROSS)
    c.self.view_is
    (few_pages (record { depth = c.self.inside.depth; layers = c.self.inside.layers.items })
    c.self.invariant c.sizes_of_worlds.ensures.power))
