-- The samples of the page's row are smoothed, and those of the part go into the row.
use Rattle.std.proofs.Common.{arith, ◌≡◌, ◌+◌, ◌*◌, ◌/◌, ◌%◌, ℕ, ℤ, pos, get_or, subst, sym, ◌∙◌, w8, to_z, of_z}
use Rattle.lattice.specs.declared.point.Axis.TheVariants.{X}
use Rattle.terrain.specs.Samples.{IsSample}
use Rattle.terrain.specs.declared.brush.TheConstants.{MAX_SAMPLE}
use Rattle.terrain.specs.Brushes.{smoothed}
use Rattle.lattice.specs.Point.{moved}
use Rattle.field_pages.specs.Changes.{Makes}
use Rattle.field_pages.specs.Pages.{sample_at}
use Rattle.field_pages.specs.declared.page.TheConstants.{SIDE}
use Rattle.brushes.specs.Around.{IsSmoothed}
use Rattle.brushes.proofs.ShapeLemmas.{sample_is}
use Rattle.brushes.proofs.RowLemmas.{made_more}
use Rattle.brushes.proofs.smoothing.SmoothingRule.apply.Goals as goal

pub loop-t-preserved : goal.loop-t-preserved
loop-t-preserved c =
    let pages = c.args.self.now.version.now in
    let from = c.args.from in
    let initial = c.args.row.now in
    let IsMade : ℕ → ℤ → Type 0 =
    λ t r. Makes (λ p old new. new ≡ smoothed pages.depth (sample_at pages) p)
    (moved X t from) (get_or initial t MAX_SAMPLE) r in
    let t = c.loop-t.t in
    let place : ℕ = from.x % SIDE + t in
    let item = get_or c.smoothed_row-smoothed.result place (pos 0) in
    let there : SIDE * (from.x / SIDE) + place ≡ from.x + t = omega arith in
    let takes = c.requires.points t (omega arith) in
    let is_smoothed : IsSmoothed pages (moved X t from) item =
    subst (λ x. IsSmoothed pages (record from { x = x }) item) there
    (c.smoothed_row-smoothed.ensures place (omega arith) (omega (arith, takes))) in
    let v = to_z w8 (of_z w8 item) in
    let v_is : v ≡ item = sample_is item is_smoothed.is_sample in
    let made : IsMade t v = record {
      given = v_is ∙ is_smoothed.rule;
      is_sample = subst IsSample (sym v_is) is_smoothed.is_sample;
    } in
    made_more IsMade c.loop-t.row t v (omega arith) made c.loop-t.invariant

pub returns : goal.returns
returns c t t_in = c.loop-t.invariant t (omega arith)
