-- One more sample is that of the point behind.
use Rattle.std.proofs.Common.{◌≡◌, ◌+◌, ◌-◌, ◌*◌, ◌/◌, ◌≤◌, ◌<◌, ℕ, ℤ, min, pos, get_or, length, length-set, set, List, ◌≢◌, get_or-set_same, get_or-set_other, inl, inr, ap, subst, sym, ◌∙◌, arith, w8, to_z, of_z}
use Rattle.std.proofs.lemmas.Bool.{cases_lt}
use Rattle.lattice.specs.Settings.{world_side}
use Rattle.terrain.specs.Samples.{IsSample}
use Rattle.field_pages.specs.Pages.{sample_at}
use Rattle.field_pages.specs.declared.page.TheConstants.{SIDE}
use Rattle.brushes.proofs.RowLemmas.{made_more_of}
use Rattle.brushes.proofs.ShapeLemmas.{sample_is}
use Rattle.brushes.proofs.smoothing.row_after.Goals as goal
use Rattle.brushes.proofs.smoothing.row_after.Goals.{After-sample, Then-x-side}

pub loop-t-preserved : goal.loop-t-preserved
loop-t-preserved c =
    let pages = c.args.version.now in
    let p = c.args.p in
    let t = c.loop-t.t in
    let row = c.args.row.now in
    let x : ℕ → ℕ = λ t. SIDE * (p.x / SIDE) + t + 1 in
    let IsMade : ℕ → ℤ → Type 0 =
    λ t v. (v ≡ sample_at pages (record p { x = x t })) × IsSample v in
    let item = get_or row t (pos 0) in
    let within : t < SIDE = omega arith in
    let range = c.requires.row.range t (pos 0) within in
    let v = to_z w8 (of_z w8 item) in
    let v_is : v ≡ item = sample_is item range in
    let there : SIDE * (p.x / SIDE) + t ≡ x (t - 1) = omega arith in
    let made : IsMade (t - 1) v = (
      v_is ∙ c.requires.row.samples t (pos 0) within
          ∙ ap (λ n. sample_at pages (record p { x = n })) there,
      subst IsSample (sym v_is) range,
    ) in
    let long = c.loop-t.invariant.whole in
    record {
      whole = length-set c.loop-t.after (t - 1) v ∙ long;
      made = λ k k_in. made_more_of (pos 0) IsMade c.loop-t.after (t - 1) v (omega (arith, long))
          made (λ j before. c.loop-t.invariant.made j (omega (arith, before))) k
          (omega (arith, k_in));
    }

-- the samples but for the first, where that is the last of the world
after_is : (c : After-sample) → (t : ℕ) → t < SIDE
    → (SIDE * (c.args.p.x / SIDE) + t + 1 ≤ world_side c.args.version.now.depth
    → get_or (set c.loop-t.after 15 (to_z w8 (of_z w8 c.sample.result))) t (pos 0)
    ≡ sample_at c.args.version.now (record c.args.p { x = SIDE * (c.args.p.x / SIDE) + t + 1 }))
    × IsSample (get_or (set c.loop-t.after 15 (to_z w8 (of_z w8 c.sample.result))) t (pos 0))
after_is c t t_in =
    let pages = c.args.version.now in
    let p = c.args.p in
    let x : ℕ → ℕ = λ t. SIDE * (p.x / SIDE) + t + 1 in
    let IsMade : ℕ → ℤ → Type 0 =
    λ t v. (x t ≤ world_side pages.depth → v ≡ sample_at pages (record p { x = x t }))
    × IsSample v in
    let v = to_z w8 (of_z w8 c.sample.result) in
    let v_is : v ≡ c.sample.result = sample_is c.sample.result c.sample.ensures.range in
    let made : IsMade 15 v = (
      λ in_world.
          let there : c.min.result ≡ x 15 =
          omega (arith, c.min.ensures, c.requires.side, in_world) in
          v_is ∙ c.sample.ensures.value ∙ ap (λ n. sample_at pages (record p { x = n })) there,
      subst IsSample (sym v_is) c.sample.ensures.range,
    ) in
    made_more_of (pos 0) IsMade c.loop-t.after 15 v (omega (arith, c.loop-t.invariant.whole)) made
    (λ k before.
    let so_far = c.loop-t.invariant.made k (omega (arith, before, c.loop-t-test.false)) in
    (λ in_world. so_far.0, so_far.1)) t (omega (arith, t_in))

-- the first sample there
first_is : (c : Then-x-side) → (to_z w8 (of_z w8 (get_or c.args.row.now 0 (pos 0)))
    ≡ sample_at c.args.version.now (record c.args.p { x = SIDE * (c.args.p.x / SIDE) + 0 }))
    × IsSample (to_z w8 (of_z w8 (get_or c.args.row.now 0 (pos 0))))
first_is c =
    let item = get_or c.args.row.now 0 (pos 0) in
    let range = c.requires.row.range 0 (pos 0) (omega arith) in
    let v_is = sample_is item range in
    (v_is ∙ c.requires.row.samples 0 (pos 0) (omega arith), subst IsSample (sym v_is) range)

pub returns-then-x-side-clause-samples : goal.returns-then-x-side-clause-samples
returns-then-x-side-clause-samples c t t_in in_world =
    let d = (goal.at.returns-then-x-side-clause-samples c).Then-x-side in
    let pages = c.args.version.now in
    let p = c.args.p in
    let side : ℕ = world_side pages.depth in
    let x : ℕ = SIDE * (p.x / SIDE) in
    let row : List ℤ = set c.loop-t.after 15 (to_z w8 (of_z w8 c.sample.result)) in
    let v = to_z w8 (of_z w8 (get_or c.args.row.now 0 (pos 0))) in
    let within : 0 < length row =
    omega (
      arith,
      length-set c.loop-t.after 15 (to_z w8 (of_z w8 c.sample.result)),
      c.loop-t.invariant.whole,
    ) in
    let is_end : x ≡ side = c.if-x-side.true ∙ c.requires.side in
    let first : 0 ≡ t = omega (arith, is_end, in_world) in
    let own : x + 0 ≡ min (x + 0 + 1) side = omega (arith, is_end) in
    subst (λ t. get_or (set row 0 v) t (pos 0)
    ≡ sample_at pages (record p { x = min (x + t + 1) side })) first
    (get_or-set_same row 0 v (pos 0) within ∙ (first_is d).0
    ∙ ap (λ n. sample_at pages (record p { x = n })) own)

pub returns-then-x-side-clause-range : goal.returns-then-x-side-clause-range
returns-then-x-side-clause-range c t t_in =
    let d = (goal.at.returns-then-x-side-clause-range c).Then-x-side in
    let e = (goal.at.returns-then-x-side-clause-range c).After-sample in
    let row : List ℤ = set c.loop-t.after 15 (to_z w8 (of_z w8 c.sample.result)) in
    let v = to_z w8 (of_z w8 (get_or c.args.row.now 0 (pos 0))) in
    let within : 0 < length row =
    omega (
      arith,
      length-set c.loop-t.after 15 (to_z w8 (of_z w8 c.sample.result)),
      c.loop-t.invariant.whole,
    ) in
    elim (cases_lt 0 t) [
      | inl later ↦
          let other : t ≢ 0 = omega (arith, later) in
          subst IsSample (sym (get_or-set_other row 0 t v (pos 0) other)) (after_is e t t_in).1
      | inr none ↦
          let first : 0 ≡ t = omega (arith, none) in
          subst (λ t. IsSample (get_or (set row 0 v) t (pos 0))) first
          (subst IsSample (sym (get_or-set_same row 0 v (pos 0) within)) (first_is d).1)
    ]

pub returns-else-x-side-clause-samples : goal.returns-else-x-side-clause-samples
returns-else-x-side-clause-samples c t t_in in_world =
    let d = (goal.at.returns-else-x-side-clause-samples c).After-sample in
    let pages = c.args.version.now in
    let p = c.args.p in
    let side : ℕ = world_side pages.depth in
    let x : ℕ = SIDE * (p.x / SIDE) in
    let inside : x + t + 1 ≤ side =
    omega (arith, c.if-x-side.false, c.requires.side, in_world, t_in) in
    let next : x + t + 1 ≡ min (x + t + 1) side = omega (arith, inside) in
    (after_is d t t_in).0 inside ∙ ap (λ n. sample_at pages (record p { x = n })) next

pub returns-else-x-side-clause-range : goal.returns-else-x-side-clause-range
returns-else-x-side-clause-range c t t_in =
    (after_is (goal.at.returns-else-x-side-clause-range c).After-sample t t_in).1
