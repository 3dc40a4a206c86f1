-- A layer more is revised or left, and in the end all layers are.
use Rattle.std.proofs.Common.{arith, ◌≡◌, ◌+◌, ◌*◌, ◌/◌, ◌<◌, [], ◌∷◌, ◌++◌, ap, ◌∙◌, sym, subst, refl, length, get_or, set, unwrap_or}
use Rattle.terrain.specs.Samples.{IsSample}
use Rattle.lattice.specs.Point.{IsInWorld}
use Rattle.field_pages.specs.declared.page.TheConstants.{SIDE}
use Rattle.field_pages.specs.Places.{IsInLayer, IsInPages, IsPoint, layer_at, pages_across}
use Rattle.field_pages.specs.Kept.{AreChanged, AreChangedPages}
use Rattle.field_pages.specs.Pages.{IsVersion, Pages, sample_at}
use Rattle.field_pages.specs.Changes.{Changes, Makes}
use Rattle.field_pages.proofs.ArePartsRevised.{ArePartsRevised, ArePartsRevised-left, ArePartsRevised-set, ArePartsRevised-start}
use Rattle.field_pages.proofs.ChangesLemmas.{Changes-given, Changes-same}
use Rattle.field_pages.proofs.KeptLemmas.{AreChanged-from, AreLayersKept, AreLayersKept-left, AreLayersKept-push, AreLayersKept-start, AreVersionPages-from}
use Rattle.field_pages.proofs.IsVersionLemmas.{IsVersion-after, in_pages, layer_of_pages, to_point}
use Rattle.field_pages.proofs.OptionLemmas.{unwrap_or-none}
use Rattle.field_pages.proofs.SampleAtLemmas.{Changes-version, IsRevisedLayer, IsRevisedLayer-all, IsRevisedLayer-none, layers_at, sample_at-layer}
use Rattle.field_pages.proofs.version.Version.revise_kept.Goals as goal
use Rattle.field_pages.proofs.version.Version.revise_kept.Goals.{in-Some+in_ok-push+in_ok-replace, in_default}

pub revise-requires-clause-pages : goal.revise-requires-clause-pages
revise-requires-clause-pages g c =
    let k = c.loop-number.number in
    let k_in = layer_of_pages c.args.self.now.depth k c.args.region c.requires.region
    c.loop-number-test.true in
    let depth_is = ap (λ (v : Pages). pages_across v.depth) c.self.view_is in
    ap length (sym (c.part-layer.ensures []))
    ∙ c.self.invariant.rows k (omega (arith, k_in, depth_is))
    ∙ ap (λ a. a * a) (sym c.pages_across-across.ensures.value)

pub revise-requires-clause-samples : goal.revise-requires-clause-samples
revise-requires-clause-samples g c p p_in =
    let old : Pages = record { depth = c.self.inside.depth; layers = c.self.inside.layers } in
    let k = c.loop-number.number in
    let k_in = layer_of_pages c.args.self.now.depth k c.args.region c.requires.region
    c.loop-number-test.true in
    let depth_is = ap (λ (v : Pages). pages_across v.depth) c.self.view_is in
    let z_is : p.z / SIDE ≡ k = omega (arith, p_in.z, p_in.z_end) in
    let across_is = c.pages_across-across.ensures.value in
    let p_pages : IsInPages (pages_across old.depth) p = record {
      z_end = omega (arith, z_is, k_in, depth_is);
      y_end = omega (arith, p_in.y_end, across_is);
      x_end = omega (arith, p_in.x_end, across_is);
    } in
    subst IsSample
    (sym (sample_at-layer old c.pages_across-across.result k c.part-layer.result.now p
    across_is (c.part-layer.ensures []) z_is)) (c.self.invariant.range p p_pages)

pub revise-requires-clause-padding : goal.revise-requires-clause-padding
revise-requires-clause-padding g c p p_in past =
    let old : Pages = record { depth = c.self.inside.depth; layers = c.self.inside.layers } in
    let k = c.loop-number.number in
    let k_in = layer_of_pages c.args.self.now.depth k c.args.region c.requires.region
    c.loop-number-test.true in
    let depth_is = ap (λ (v : Pages). pages_across v.depth) c.self.view_is in
    let z_is : p.z / SIDE ≡ k = omega (arith, p_in.z, p_in.z_end) in
    let across_is = c.pages_across-across.ensures.value in
    let p_pages : IsInPages (pages_across old.depth) p = record {
      z_end = omega (arith, z_is, k_in, depth_is);
      y_end = omega (arith, p_in.y_end, across_is);
      x_end = omega (arith, p_in.x_end, across_is);
    } in
    sample_at-layer old c.pages_across-across.result k c.part-layer.result.now p
    across_is (c.part-layer.ensures []) z_is
    ∙ c.self.invariant.padding p p_pages (λ p_world.
    past (subst (λ a. IsPoint a p) (sym across_is) (to_point old.depth p p_world)))

pub loop-number-init : goal.loop-number-init
loop-number-init g c =
    let old = c.args.self.now in
    let across_is = c.pages_across-across.ensures.value
    ∙ ap (λ (v : Pages). pages_across v.depth) c.self.view_is in
    let layers_is = c.in_ok-layers.ensures ∙ ap (λ (v : Pages). v.layers) c.self.view_is in
    record {
      parts = ArePartsRevised-start
          (IsRevisedLayer c.args.region (Makes (g.R.Rule.gives c.args.rule.now))
          c.pages_across-across.result old.layers) [] (c.args.region.lo.z / SIDE) old.layers
          c.in_ok-layers.layers layers_is
          (λ n before. IsRevisedLayer-none c.args.region (Makes (g.R.Rule.gives c.args.rule.now))
          old c.pages_across-across.result n (subst IsVersion c.self.view_is c.self.invariant)
          across_is (λ p p_in within. omega (arith, p_in.z_end, within.z, before)));
      kept = AreLayersKept-start (c.args.region.lo.z / SIDE) old.layers c.in_ok-layers.layers
          c.new-olds.result.items layers_is c.new-olds.ensures.items;
    }

pub loop-number-preserved : goal.loop-number-preserved
loop-number-preserved g c =
    let gives = Makes (g.R.Rule.gives c.args.rule.now) in
    let old = c.args.self.now.layers in
    let across = c.pages_across-across.result in
    let k = c.loop-number.number in
    let IsRevised = IsRevisedLayer c.args.region gives across old in
    let before_is : get_or old k [] ≡ c.part-layer.result.now =
    ap (λ (v : Pages). get_or v.layers k []) (sym c.self.view_is) ∙ c.part-layer.ensures [] in
    let here : IsRevised k (unwrap_or c.in_ok-layer.field-0 c.part-layer.result.now) = λ k_in. (
      c.in_ok-layer.ensures.len,
      subst (λ l. Changes c.args.region gives (IsInLayer across (k * SIDE)) (layer_at across l)
          (layer_at across (unwrap_or c.in_ok-layer.field-0 c.part-layer.result.now)))
          (sym before_is) c.in_ok-layer.ensures.changes,
    ) in
    let so_far = c.loop-number.invariant in
    elim c.match-branch-4.branch [
      | in-Some+in_ok-push+in_ok-replace w ↦
          let sound : IsVersion c.args.self.now = subst IsVersion c.self.view_is c.self.invariant in
          let k_in = layer_of_pages c.args.self.now.depth k c.args.region c.requires.region
          c.loop-number-test.true in
          let within : k < length old = omega (arith, sound.layers, k_in) in
          let layer_is = ap (λ o. unwrap_or o c.part-layer.result.now) w.in-Some.is in
          let layers_is : c.match-branch-4.layers ≡ set c.loop-number.layers k w.in-Some.layer =
          w.layers-is ∙ w.in_ok-replace.ensures.replaced in
          let olds_is : c.match-branch-4.olds.items
          ≡ c.loop-number.olds.items ++ w.new.result ∷ [] =
          ap (λ v. v.items) w.olds-is ∙ w.in_ok-push.ensures.items in
          let changed : AreChangedPages (get_or old k []) w.in-Some.layer w.new.result.pages =
          subst (λ l. AreChangedPages l w.in-Some.layer w.new.result.pages) (sym before_is)
          (subst (λ l. AreChangedPages c.part-layer.result.now l w.new.result.pages) layer_is
          (subst (AreChangedPages c.part-layer.result.now
          (unwrap_or c.in_ok-layer.field-0 c.part-layer.result.now))
          (sym (ap (λ o. o.pages) w.new.ensures)) c.in_ok-layer.ensures.kept)) in
          record {
            parts = subst (ArePartsRevised IsRevised [] (k + 1) old) (sym layers_is)
                (ArePartsRevised-set IsRevised [] k old c.loop-number.layers w.in-Some.layer within
                (subst (IsRevised k) layer_is here) so_far.parts);
            kept = subst (λ l. AreLayersKept (k + 1) old l c.match-branch-4.olds.items)
                (sym layers_is)
                (subst (AreLayersKept (k + 1) old (set c.loop-number.layers k w.in-Some.layer))
                (sym olds_is)
                (AreLayersKept-push k old c.loop-number.layers c.loop-number.olds.items
                w.new.result w.in-Some.layer within so_far.parts.long
                (ap (λ o. o.number) w.new.ensures) changed so_far.kept));
          }
      | in_default w ↦
          let none =
          unwrap_or-none c.in_ok-layer.field-0 c.part-layer.result.now w.in_default.not-Some in
          record {
            parts = subst (ArePartsRevised IsRevised [] (k + 1) old) (sym w.layers-is)
                (ArePartsRevised-left IsRevised [] k old c.loop-number.layers
                (subst (IsRevised k) (none ∙ sym before_is) here) so_far.parts);
            kept = subst (λ l. AreLayersKept (k + 1) old l c.match-branch-4.olds.items)
                (sym w.layers-is)
                (subst (λ v. AreLayersKept (k + 1) old c.loop-number.layers v.items)
                (sym w.olds-is)
                (AreLayersKept-left k old c.loop-number.layers c.loop-number.olds.items
                so_far.kept));
          }
    ]

pub invariant_of-version : goal.invariant_of-version
invariant_of-version g c =
    let gives = Makes (g.R.Rule.gives c.args.rule.now) in
    let old = c.args.self.now in
    let new = c.loop-number.layers in
    let sound : IsVersion old = subst IsVersion c.self.view_is c.self.invariant in
    let across_is = c.pages_across-across.ensures.value
    ∙ ap (λ (v : Pages). pages_across v.depth) c.self.view_is in
    let all = IsRevisedLayer-all c.args.region gives old c.pages_across-across.result
    c.loop-number.number new sound across_is c.loop-number-test.false
    c.loop-number.invariant.parts in
    let changes = subst
    (λ a. Changes c.args.region gives (IsInPages a) (layers_at a old.layers) (layers_at a new))
    across_is (Changes-version c.args.region gives c.pages_across-across.result old.layers new all)
    in
    subst (λ (v : Pages). IsVersion (record { depth = v.depth; layers = new })) (sym c.self.view_is)
    (IsVersion-after c.args.region gives old new (c.points_of_regions.ensures.test c.args.region)
    (λ p within.
    c.points_of_regions.ensures.world old.depth c.args.region p c.requires.region within)
    sound (λ p s r made. made.is_sample)
    (c.loop-number.invariant.parts.long ∙ sound.layers)
    (λ k k_in. (all k (omega (arith, k_in, across_is))).0 ∙ ap (λ a. a * a) across_is) changes)

pub returns-clause-changes : goal.returns-clause-changes
returns-clause-changes g c =
    let gives = Makes (g.R.Rule.gives c.args.rule.now) in
    let old = c.args.self.now in
    let new = c.loop-number.layers in
    let sound : IsVersion old = subst IsVersion c.self.view_is c.self.invariant in
    let across_is = c.pages_across-across.ensures.value
    ∙ ap (λ (v : Pages). pages_across v.depth) c.self.view_is in
    let all = IsRevisedLayer-all c.args.region gives old c.pages_across-across.result
    c.loop-number.number new sound across_is c.loop-number-test.false
    c.loop-number.invariant.parts in
    let changes = subst
    (λ a. Changes c.args.region gives (IsInPages a) (layers_at a old.layers) (layers_at a new))
    across_is (Changes-version c.args.region gives c.pages_across-across.result old.layers new all)
    in
    subst (λ (v : Pages). Changes c.args.region (g.R.Rule.gives c.args.rule.now)
    (IsInWorld old.depth) (sample_at old) (sample_at (record { depth = v.depth; layers = new })))
    (sym c.self.view_is)
    (Changes-given c.args.region (g.R.Rule.gives c.args.rule.now) (IsInWorld old.depth)
    (sample_at old) (sample_at (record { depth = old.depth; layers = new }))
    (Changes-same c.args.region gives (IsInPages (pages_across old.depth)) (IsInWorld old.depth)
    (sample_at old) (sample_at (record { depth = old.depth; layers = new }))
    (sample_at old) (sample_at (record { depth = old.depth; layers = new }))
    (in_pages old.depth) (λ p p_in. refl) (λ p p_in. refl) changes))

pub new-kept-requires : goal.new-kept-requires
new-kept-requires g c =
    let inside : Pages = record { depth = c.self.inside.depth; layers = c.self.inside.layers } in
    AreVersionPages-from c.loop-number.number inside c.loop-number.layers c.loop-number.olds.items
    c.self.invariant
    (subst (λ (v : Pages). AreLayersKept c.loop-number.number v.layers c.loop-number.layers
    c.loop-number.olds.items) (sym c.self.view_is) c.loop-number.invariant.kept)

pub returns-clause-kept : goal.returns-clause-kept
returns-clause-kept g c =
    let inside : Pages = record { depth = c.self.inside.depth; layers = c.self.inside.layers } in
    let new : Pages = record { depth = c.self.inside.depth; layers = c.loop-number.layers } in
    subst (AreChanged c.args.self.now new) (sym c.new-kept.ensures)
    (subst (λ (v : Pages). AreChanged v new
    (record { depth = c.self.inside.depth; layers = c.loop-number.olds.items })) c.self.view_is
    (AreChanged-from c.loop-number.number inside c.loop-number.layers c.loop-number.olds.items
    (subst (λ (v : Pages). AreLayersKept c.loop-number.number v.layers c.loop-number.layers
    c.loop-number.olds.items) (sym c.self.view_is) c.loop-number.invariant.kept)))
