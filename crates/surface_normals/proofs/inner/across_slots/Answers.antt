-- The samples at the slots of the key's ends are the leaf's, and so are the slopes there.
use Rattle.std.proofs.Common.{◌*ℤ◌, ◌+ℤ◌, ◌∙◌, arith, pos, rules, unsigned_abs, w32}
use Rattle.std.proofs.lemmas.Int.{to_z-of_z}
use Rattle.std.proofs.lemmas.List.Elements.{All-get_or}
use Rattle.terrain.specs.Samples.{IsSample}
use Rattle.surface_normals.proofs.SlopeLemmas.{kept-sample, same, same-sample}
use Rattle.surface_normals.proofs.inner.across_slots.Goals as goal

pub bounds-samples-slots : goal.bounds-samples-slots
bounds-samples-slots c =
    let fits = c.requires.fits in omega (arith, fits.order, fits.further, c.requires.count)

pub bounds-samples-slots-2 : goal.bounds-samples-slots-2
bounds-samples-slots-2 c =
    let fits = c.requires.fits in omega (arith, fits.order, fits.further, c.requires.count)

pub weighed_sum-requires-clause-b : goal.weighed_sum-requires-clause-b
weighed_sum-requires-clause-b c =
    let fits = c.requires.fits in
    kept-sample _ (All-get_or IsSample c.args.samples.now c.args.slots.far (pos 0)
    (omega (arith, fits.further, c.requires.count)) c.requires.range)

pub weighed_sum-requires-clause-a : goal.weighed_sum-requires-clause-a
weighed_sum-requires-clause-a c =
    let fits = c.requires.fits in
    kept-sample _ (All-get_or IsSample c.args.samples.now c.args.slots.near (pos 0)
    (omega (arith, fits.order, fits.further, c.requires.count)) c.requires.range)

pub returns : goal.returns
returns c =
    let samples = c.args.samples.now in
    let slots = c.args.slots in
    let fits = c.requires.fits in
    let b = same-sample _ (All-get_or IsSample samples slots.far (pos 0)
    (omega (arith, fits.further, c.requires.count)) c.requires.range) in
    let a = same-sample _ (All-get_or IsSample samples slots.near (pos 0)
    (omega (arith, fits.order, fits.further, c.requires.count)) c.requires.range) in
    let near = same c.slope_at-near.result (omega (arith, c.slope_at-near.ensures.small))
    ∙ c.slope_at-near.ensures.value in
    let far = same c.slope_at-far.result (omega (arith, c.slope_at-far.ensures.small))
    ∙ c.slope_at-far.ensures.value in
    to_z-of_z w32 c.weighed_sum.result (search rules) ∙ c.weighed_sum.ensures
    ∙ (λ i. (pos (unsigned_abs (b i)) *ℤ near i) +ℤ (pos (unsigned_abs (a i)) *ℤ far i))
