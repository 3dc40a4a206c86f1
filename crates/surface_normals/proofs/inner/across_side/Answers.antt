-- Each slope has the weight of the other end.
use Rattle.std.proofs.Common.{◌*ℤ◌, ◌+ℤ◌, ◌∙◌, ◌^◌, arith, pos, rules, slice_index_or, subst, sym, unsigned_abs, w32}
use Rattle.std.proofs.lemmas.Int.{to_z-of_z}
use Rattle.field_pages.specs.Pages.{sample_at}
use Rattle.lattice.specs.Key.{far_end}
use Rattle.surface_normals.specs.Inner.{IsLeafPoint}
use Rattle.surface_normals.specs.Normals.{slope}
use Rattle.surface_normals.proofs.InnerLemmas.{far-point, near-point, range-far, range-near, sample-far, sample-near}
use Rattle.surface_normals.proofs.SlopeLemmas.{kept-sample, same, same-sample}
use Rattle.surface_normals.proofs.inner.across_side.Goals as goal

pub slope_on_side-near-requires-clause-point : goal.slope_on_side-near-requires-clause-point
slope_on_side-near-requires-clause-point c =
    subst (IsLeafPoint c.args.brick.now.node c.args.axis c.args.key.now.at c.args.slots.near)
    (sym c.coordinate-on.ensures)
    (near-point c.args.version.now.depth (sample_at c.args.version.now) c.args.brick.now.node
    c.args.brick.now.samples c.requires.brick.node c.requires.brick.samples c.args.key.now
    c.args.slots c.requires.slots c.args.axis)

pub slope_on_side-far-requires-clause-point : goal.slope_on_side-far-requires-clause-point
slope_on_side-far-requires-clause-point c =
    let point = far-point c.args.version.now.depth (sample_at c.args.version.now)
    c.args.brick.now.node c.args.brick.now.samples c.requires.brick.node c.requires.brick.samples
    c.args.key.now c.args.slots c.requires.slots c.args.axis c.requires.across in
    let end = sym c.far_end.ensures in
    let on = sym c.coordinate-on.ensures in
    subst (λ p. IsLeafPoint c.args.brick.now.node c.args.axis p c.args.slots.far
    c.coordinate-on.result) end
    (subst (IsLeafPoint c.args.brick.now.node c.args.axis (far_end c.args.key.now)
    c.args.slots.far) on point)

pub weighed_sum-requires-clause-b : goal.weighed_sum-requires-clause-b
weighed_sum-requires-clause-b c =
    kept-sample _ (range-far c.args.brick.now.node c.args.key.now c.args.slots c.requires.slots
    c.samples-samples.result.now c.samples-samples.ensures.count c.samples-samples.ensures.range)

pub weighed_sum-requires-clause-a : goal.weighed_sum-requires-clause-a
weighed_sum-requires-clause-a c =
    kept-sample _ (range-near c.args.brick.now.node c.args.key.now c.args.slots c.requires.slots
    c.samples-samples.result.now c.samples-samples.ensures.count c.samples-samples.ensures.range)

pub returns : goal.returns
returns c =
    let depth = c.args.version.now.depth in
    let s = sample_at c.args.version.now in
    let key = c.args.key.now in
    let brick = c.args.brick.now in
    let slots = c.args.slots in
    let inside = c.requires.slots in
    let axis = c.args.axis in
    let samples = c.samples-samples in
    let level = sym inside.level in
    let b = same-sample _ (range-far brick.node key slots inside samples.result.now
    samples.ensures.count samples.ensures.range)
    ∙ (λ i. slice_index_or (samples.ensures.value i) slots.far (pos 0))
    ∙ sample-far depth s brick.node brick.samples c.requires.brick.node c.requires.brick.samples
    key slots inside in
    let a = same-sample _ (range-near brick.node key slots inside samples.result.now
    samples.ensures.count samples.ensures.range)
    ∙ (λ i. slice_index_or (samples.ensures.value i) slots.near (pos 0))
    ∙ sample-near depth s brick.node brick.samples c.requires.brick.node c.requires.brick.samples
    key slots inside in
    let near = same c.slope_on_side-near.result
    (omega (arith, c.slope_on_side-near.ensures.small))
    ∙ c.slope_on_side-near.ensures.value ∙ (λ i. slope depth s key.at (2 ^ level i) axis) in
    let far = same c.slope_on_side-far.result
    (omega (arith, c.slope_on_side-far.ensures.small))
    ∙ c.slope_on_side-far.ensures.value
    ∙ (λ i. slope depth s (c.far_end.ensures i) (2 ^ level i) axis) in
    to_z-of_z w32 c.weighed_sum.result (search rules) ∙ c.weighed_sum.ensures
    ∙ (λ i. (pos (unsigned_abs (b i)) *ℤ near i) +ℤ (pos (unsigned_abs (a i)) *ℤ far i))
