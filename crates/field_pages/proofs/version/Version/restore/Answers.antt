-- The pages of a layer more are put back, and in the end all are.
use Rattle.std.proofs.Common.{◌≡◌, ◌+◌, ◌<◌, [], ap, sym, ◌∙◌, subst, drop, get_or, length, set, All, arith}
use Rattle.std.proofs.lemmas.List.{at_drop_all, at_drop_more, length-set}
use Rattle.field_pages.specs.Kept.{OldLayer, OldPage, layer_restored, layers_restored}
use Rattle.field_pages.specs.Pages.{IsVersion, Pages}
use Rattle.field_pages.proofs.RestoredLemmas.{IsVersion-restored, layer_place, page_places, rows-restored}
use Rattle.field_pages.proofs.version.Version.restore.Goals as goal
use Rattle.field_pages.proofs.version.Version.restore.Goals.{After-loop-old}

pub loop-old-init : goal.loop-old-init
loop-old-init c =
    let layers_is : c.in_ok-layers.layers ≡ c.args.self.now.layers =
    c.in_ok-layers.ensures ∙ ap (λ (v : Pages). v.layers) c.self.view_is in
    record {
      rest = ap (layers_restored c.layers-olds.result.now) layers_is;
      long = ap length layers_is;
      rows = λ n. ap (λ layers. length (get_or layers n [])) layers_is;
    }

pub part-requires : goal.part-requires
part-requires c =
    let within = layer_place c.args.kept.now c.args.self.now c.layers-olds.result.now
    c.loop-old.old-index c.old-item.result c.layers-olds.ensures.sound c.layers-olds.ensures.value
    c.requires (subst IsVersion c.self.view_is c.self.invariant) c.loop-old-test.true
    c.old-item.is in
    omega (arith, within, c.number.ensures, c.loop-old.invariant.long)

pub restore-requires : goal.restore-requires
restore-requires c =
    let old = c.old-item.result in
    let places = page_places c.args.kept.now c.args.self.now c.layers-olds.result.now
    c.loop-old.old-index old c.layers-olds.ensures.sound c.layers-olds.ensures.value
    c.requires (subst IsVersion c.self.view_is c.self.invariant) c.loop-old-test.true
    c.old-item.is in
    let long : length (get_or c.args.self.now.layers old.number []) ≡ length c.part.result.now =
    sym (c.loop-old.invariant.rows old.number)
    ∙ ap (λ n. length (get_or c.loop-old.layers n [])) (sym c.number.ensures)
    ∙ ap length (c.part.ensures []) in
    subst (All (λ (p : OldPage). p.number < length c.part.result.now)) (sym c.pages.ensures)
    (subst (λ n. All (λ (p : OldPage). p.number < n) old.pages) long places)

pub replace-requires : goal.replace-requires
replace-requires c =
    let within = layer_place c.args.kept.now c.args.self.now c.layers-olds.result.now
    c.loop-old.old-index c.old-item.result c.layers-olds.ensures.sound c.layers-olds.ensures.value
    c.requires (subst IsVersion c.self.view_is c.self.invariant) c.loop-old-test.true
    c.old-item.is in
    omega (arith, within, c.number-in-loop-old.ensures, c.loop-old.invariant.long)

pub loop-old-preserved : goal.loop-old-preserved
loop-old-preserved c =
    let items = c.layers-olds.result.now in
    let k = c.loop-old.old-index in
    let old = c.old-item.result in
    let layers = c.loop-old.layers in
    let part_is : c.part.result.now ≡ get_or layers old.number [] =
    sym (c.part.ensures []) ∙ ap (λ n. get_or layers n []) c.number.ensures in
    let made : c.in_ok-layer.layer ≡ layer_restored old.pages (get_or layers old.number []) =
    c.in_ok-layer.ensures ∙ (λ i. layer_restored (c.pages.ensures i) (part_is i)) in
    let next : c.replace.new.self
    ≡ set layers old.number (layer_restored old.pages (get_or layers old.number [])) =
    c.in_ok-replace.ensures.replaced
    ∙ (λ i. set layers (c.number-in-loop-old.ensures i) (made i)) in
    record {
      rest =
          ap (layers_restored (drop (k + 1) items)) next
          ∙ ap (λ (o : OldLayer). layers_restored (drop (k + 1) items)
          (set layers o.number (layer_restored o.pages (get_or layers o.number []))))
          c.old-item.is
          ∙ sym (at_drop_more (λ os. layers_restored os layers) items k old
          c.loop-old-test.true)
          ∙ c.loop-old.invariant.rest;
      long = ap length next
          ∙ length-set layers old.number (layer_restored old.pages (get_or layers old.number []))
          ∙ c.loop-old.invariant.long;
      rows = λ n. ap (λ ls. length (get_or ls n [])) next ∙ rows-restored layers old n
          ∙ c.loop-old.invariant.rows n;
    }

-- in the end all are put back
whole : (c : After-loop-old)
    → c.loop-old.layers ≡ layers_restored c.args.kept.now.layers c.args.self.now.layers
whole c =
    sym (at_drop_all (λ os. layers_restored os c.loop-old.layers) c.layers-olds.result.now
    c.loop-old.old-index c.loop-old-test.false)
    ∙ c.loop-old.invariant.rest
    ∙ ap (λ os. layers_restored os c.args.self.now.layers) c.layers-olds.ensures.value

pub invariant_of-result : goal.invariant_of-result
invariant_of-result c =
    let kept = c.args.kept.now in
    let old = c.args.self.now in
    let layers = c.loop-old.layers in
    let sound = IsVersion-restored kept old c.layers-olds.ensures.sound c.requires
    (subst IsVersion c.self.view_is c.self.invariant) in
    subst (λ (v : Pages). IsVersion (record { depth = v.depth; layers = layers }))
    (sym c.self.view_is)
    (subst (λ ls. IsVersion (record { depth = old.depth; layers = ls })) (sym (whole c)) sound)

pub returns : goal.returns
returns c = λ i. record { depth = (c.self.view_is i).depth; layers = whole c i }
