-- Each end is a step from the other, so it is where the other's slope is taken from.
use Rattle.std.proofs.Common.{◌*ℤ◌, ◌+ℤ◌, ◌-ℤ◌, ◌∙◌, arith, pos, refl, rules, slice_index_or, unsigned_abs, w32}
use Rattle.std.proofs.lemmas.Int.{to_z-of_z}
use Rattle.field_pages.specs.Pages.{sample_at}
use Rattle.vertex_places.proofs.PlaceLemmas.{near_inside}
use Rattle.surface_normals.proofs.InnerLemmas.{range-far, range-near, sample-far, sample-near}
use Rattle.surface_normals.proofs.SlopeLemmas.{far-slope, kept-sample, near-slope, same, same-sample}
use Rattle.surface_normals.proofs.inner.along_key.Goals as goal

pub difference-requires-clause-further : goal.difference-requires-clause-further
difference-requires-clause-further c =
    kept-sample _ (range-far c.args.brick.now.node c.args.key.now c.args.slots c.requires.slots
    c.samples-samples.result.now c.samples-samples.ensures.count c.samples-samples.ensures.range)

pub weighed_sum-requires-clause-b : goal.weighed_sum-requires-clause-b
weighed_sum-requires-clause-b c =
    kept-sample _ (range-far c.args.brick.now.node c.args.key.now c.args.slots c.requires.slots
    c.samples-samples.result.now c.samples-samples.ensures.count c.samples-samples.ensures.range)

pub difference-requires-2-clause-before : goal.difference-requires-2-clause-before
difference-requires-2-clause-before c =
    kept-sample _ (range-near c.args.brick.now.node c.args.key.now c.args.slots c.requires.slots
    c.samples-samples.result.now c.samples-samples.ensures.count c.samples-samples.ensures.range)

pub weighed_sum-requires-clause-a : goal.weighed_sum-requires-clause-a
weighed_sum-requires-clause-a c =
    kept-sample _ (range-near c.args.brick.now.node c.args.key.now c.args.slots c.requires.slots
    c.samples-samples.result.now c.samples-samples.ensures.count c.samples-samples.ensures.range)

pub returns : goal.returns
returns c =
    let depth = c.args.version.now.depth in
    let s = sample_at c.args.version.now in
    let key = c.args.key.now in
    let brick = c.args.brick.now in
    let slots = c.args.slots in
    let samples = c.samples-samples in
    let b = same-sample _ (range-far brick.node key slots c.requires.slots samples.result.now
    samples.ensures.count samples.ensures.range)
    ∙ (λ i. slice_index_or (samples.ensures.value i) slots.far (pos 0))
    ∙ sample-far depth s brick.node brick.samples c.requires.brick.node c.requires.brick.samples
    key slots c.requires.slots in
    let a = same-sample _ (range-near brick.node key slots c.requires.slots samples.result.now
    samples.ensures.count samples.ensures.range)
    ∙ (λ i. slice_index_or (samples.ensures.value i) slots.near (pos 0))
    ∙ sample-near depth s brick.node brick.samples c.requires.brick.node c.requires.brick.samples
    key slots c.requires.slots in
    let before = same-sample c.sample_before-before.result c.sample_before-before.ensures.range
    ∙ c.sample_before-before.ensures.value in
    let further = same-sample c.sample_further-further.result
    c.sample_further-further.ensures.range
    ∙ c.sample_further-further.ensures.value in
    let near = same c.difference.result (omega (arith, c.difference.ensures.small))
    ∙ c.difference.ensures.value ∙ (λ i. b i -ℤ before i)
    ∙ near-slope depth s key c.requires.key.end _ refl in
    let far = same c.difference-2.result (omega (arith, c.difference-2.ensures.small))
    ∙ c.difference-2.ensures.value ∙ (λ i. further i -ℤ a i)
    ∙ far-slope depth s key c.requires.key.end (near_inside depth key c.requires.key) _ refl in
    to_z-of_z w32 c.weighed_sum.result (search rules) ∙ c.weighed_sum.ensures
    ∙ (λ i. (pos (unsigned_abs (b i)) *ℤ near i) +ℤ (pos (unsigned_abs (a i)) *ℤ far i))
