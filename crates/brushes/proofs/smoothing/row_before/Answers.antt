-- One more sample is that of the point before.
use Rattle.std.proofs.Common.{◌≡◌, ◌+◌, ◌-◌, ◌*◌, ◌/◌, ◌<◌, ℕ, ℤ, pos, get_or, length-set, replicate, ap, subst, sym, ◌∙◌, arith, w8, to_z, of_z}
use Rattle.std.proofs.lemmas.List.{get_or-replicate, length-replicate}
use Rattle.terrain.specs.Samples.{IsSample}
use Rattle.field_pages.specs.Pages.{sample_at}
use Rattle.field_pages.specs.declared.page.TheConstants.{SIDE}
use Rattle.brushes.proofs.RowLemmas.{made_more_of}
use Rattle.brushes.proofs.ShapeLemmas.{sample_is}
use Rattle.brushes.proofs.smoothing.row_before.Goals as goal

pub loop-t-init : goal.loop-t-init
loop-t-init c =
    let pages = c.args.version.now in
    let p = c.args.p in
    let x : ℕ → ℕ = λ t. SIDE * (p.x / SIDE) + t - 1 in
    let IsMade : ℕ → ℤ → Type 0 =
    λ t v. (v ≡ sample_at pages (record p { x = x t })) × IsSample v in
    let v = to_z w8 (of_z w8 c.sample-first.result) in
    let v_is : v ≡ c.sample-first.result =
    sample_is c.sample-first.result c.sample-first.ensures.range in
    let there : c.saturating_sub.result ≡ x 0 = omega (arith, c.saturating_sub.ensures) in
    let made : IsMade 0 v = (
      v_is ∙ c.sample-first.ensures.value ∙ ap (λ n. sample_at pages (record p { x = n })) there,
      subst IsSample (sym v_is) c.sample-first.ensures.range,
    ) in
    record {
      whole = length-replicate SIDE v;
      made = λ t t_in.
          let here : 0 ≡ t = omega (arith, t_in) in
          subst (λ t. IsMade t (get_or (replicate SIDE v) t (pos 0))) here
          (subst (IsMade 0) (sym (get_or-replicate SIDE 0 v (pos 0) (omega arith))) made);
    }

pub loop-t-preserved : goal.loop-t-preserved
loop-t-preserved c =
    let pages = c.args.version.now in
    let p = c.args.p in
    let t = c.loop-t.t in
    let row = c.args.row.now in
    let x : ℕ → ℕ = λ t. SIDE * (p.x / SIDE) + t - 1 in
    let IsMade : ℕ → ℤ → Type 0 =
    λ t v. (v ≡ sample_at pages (record p { x = x t })) × IsSample v in
    let item = get_or row (t - 1) (pos 0) in
    let within : t - 1 < SIDE = omega arith in
    let range = c.requires.row.range (t - 1) (pos 0) within in
    let v = to_z w8 (of_z w8 item) in
    let v_is : v ≡ item = sample_is item range in
    let there : SIDE * (p.x / SIDE) + (t - 1) ≡ x t = omega arith in
    let made : IsMade t v = (
      v_is ∙ c.requires.row.samples (t - 1) (pos 0) within
          ∙ ap (λ n. sample_at pages (record p { x = n })) there,
      subst IsSample (sym v_is) range,
    ) in
    let long = c.loop-t.invariant.whole in
    record {
      whole = length-set c.loop-t.before t v ∙ long;
      made = made_more_of (pos 0) IsMade c.loop-t.before t v (omega (arith, long)) made
          c.loop-t.invariant.made;
    }

pub returns-clause-samples : goal.returns-clause-samples
returns-clause-samples c t t_in = (c.loop-t.invariant.made t (omega (arith, t_in))).0

pub returns-clause-range : goal.returns-clause-range
returns-clause-range c t t_in = (c.loop-t.invariant.made t (omega (arith, t_in))).1
