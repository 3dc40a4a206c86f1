-- A page more is put back, and in the end all are.
use Rattle.std.proofs.Common.{◌≡◌, ◌+◌, ◌<◌, ap, sym, ◌∙◌, subst, drop, length, set, arith}
use Rattle.std.proofs.lemmas.List.{at_drop_all, at_drop_more, length-set}
use Rattle.field_pages.specs.Kept.{OldPage, layer_restored}
use Rattle.field_pages.proofs.layer.Layer.restore.Goals as goal

pub loop-page-init : goal.loop-page-init
loop-page-init c = record {
  rest = ap (layer_restored c.args.pages.now) c.in_ok-layer.ensures;
  long = ap length c.in_ok-layer.ensures;
}

pub put_back-requires : goal.put_back-requires
put_back-requires c =
    let page = c.page-item.result in
    let number : page.number < length c.args.self.now =
    subst (λ (p : OldPage). p.number < length c.args.self.now) (sym c.page-item.is)
    (c.requires c.loop-page.page-index page c.loop-page-test.true) in
    omega (arith, number, c.loop-page.invariant.long)

pub loop-page-preserved : goal.loop-page-preserved
loop-page-preserved c =
    let pages = c.args.pages.now in
    let k = c.loop-page.page-index in
    let page = c.page-item.result in
    let layer = c.loop-page.layer in
    let next : c.put_back.new.self ≡ set layer page.number page.samples =
    c.in_ok-put_back.ensures in
    record {
      rest =
          ap (layer_restored (drop (k + 1) pages)) next
          ∙ ap (λ (p : OldPage). layer_restored (drop (k + 1) pages)
          (set layer p.number p.samples)) c.page-item.is
          ∙ sym (at_drop_more (λ ps. layer_restored ps layer) pages k page c.loop-page-test.true)
          ∙ c.loop-page.invariant.rest;
      long = ap length next ∙ length-set layer page.number page.samples
          ∙ c.loop-page.invariant.long;
    }

pub returns : goal.returns
returns c =
    sym (at_drop_all (λ ps. layer_restored ps c.loop-page.layer) c.args.pages.now
    c.loop-page.page-index c.loop-page-test.false)
    ∙ c.loop-page.invariant.rest
