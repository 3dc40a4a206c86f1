-- The items of the rows round a point are the samples of its neighbours, so one more sample is smoothed.
use Rattle.std.proofs.Common.{◌≡◌, ◌+◌, ◌-◌, ◌*◌, ◌/◌, ◌≤◌, ℕ, ℤ, pos, length-set, min, subst, sym, ◌∙◌, arith, w8, to_z, of_z}
use Rattle.lattice.specs.declared.point.Point.{Point}
use Rattle.lattice.specs.Settings.{world_side}
use Rattle.terrain.specs.Samples.{IsSample}
use Rattle.field_pages.specs.declared.page.TheConstants.{SIDE}
use Rattle.brushes.specs.Around.{IsSmoothed}
use Rattle.brushes.proofs.AroundLemmas.{AreRowsAround-at, item_of}
use Rattle.brushes.proofs.RowLemmas.{made_more_of}
use Rattle.brushes.proofs.ShapeLemmas.{sample_is}
use Rattle.brushes.proofs.SmoothingLemmas.{both, same_eighth}
use Rattle.brushes.proofs.smoothing.Around.smoothed_row.Goals as goal

pub loop-t-preserved : goal.loop-t-preserved
loop-t-preserved c =
    let pages = c.args.version.now in
    let p = c.args.p in
    let t = c.loop-t.t in
    let x : ℕ → ℕ = λ t. SIDE * (p.x / SIDE) + t in
    let q : Point = record p { x = x t } in
    let IsMade : ℕ → ℤ → Type 0 = λ t v. x t ≤ world_side pages.depth
    → IsSmoothed pages (record p { x = x t }) v in
    let t_in = c.loop-t-test.true in
    let v = to_z w8 (of_z w8 c.eighth.result) in
    let v_is : v ≡ c.eighth.result = sample_is c.eighth.result c.eighth.ensures.range in
    let up = λ (n : ℕ). min (n + 1) (world_side pages.depth) in
    let made : IsMade t v = λ in_world.
    let same : p.x / SIDE ≡ x t / SIDE = omega arith in
    let rows = AreRowsAround-at pages p (x t) c.args.self.now same c.requires.rows in
    let here = item_of pages q c.args.self.now.here.now t (omega arith) rows.here in
    let y_low = item_of pages (record q { y = p.y - 1 }) c.args.self.now.y_low.now t
    (omega arith) rows.y_low in
    let y_high = item_of pages (record q { y = up p.y }) c.args.self.now.y_high.now t
    (omega arith) rows.y_high in
    let z_low = item_of pages (record q { z = p.z - 1 }) c.args.self.now.z_low.now t
    (omega arith) rows.z_low in
    let z_high = item_of pages (record q { z = up p.z }) c.args.self.now.z_high.now t
    (omega arith) rows.z_high in
    let x_low = sample_is _ (c.row_before-x_low.ensures.range t (omega arith))
    ∙ c.row_before-x_low.ensures.samples t (omega arith) in
    let x_high = sample_is _ (c.row_after-x_high.ensures.range t (omega arith))
    ∙ c.row_after-x_high.ensures.samples t (omega arith) in_world in
    record {
      rule = v_is ∙ c.eighth.ensures.value
          ∙ same_eighth _ _ _ _ _ _ _ _ here (both x_low x_high) (both y_low y_high)
          (both z_low z_high);
      is_sample = subst IsSample (sym v_is) c.eighth.ensures.range;
    } in
    let long = c.loop-t.invariant.whole in
    record {
      whole = length-set c.loop-t.sample-items t v ∙ long;
      made = made_more_of (pos 0) IsMade c.loop-t.sample-items t v (omega (arith, long)) made
          c.loop-t.invariant.made;
    }
