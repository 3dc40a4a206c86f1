-- The sample is the leaf's, or the version's where the key begins on the leaf's side.
use Rattle.std.proofs.Common.{◌≡◌, ◌-◌, ◌≤◌, ◌∙◌, ap, arith, pos, slice_index_or, sym}
use Rattle.std.proofs.lemmas.List.Elements.{All-get_or}
use Rattle.std.proofs.lemmas.Nat.{one_shl}
use Rattle.bricks.specs.Slots.{point_step}
use Rattle.field_pages.specs.Pages.{sample_at}
use Rattle.lattice.specs.Point.{clamped}
use Rattle.terrain.specs.Samples.{IsSample}
use Rattle.vertex_places.proofs.PlaceLemmas.{near_inside}
use Rattle.surface_normals.specs.Normals.{moved_back}
use Rattle.surface_normals.proofs.InnerLemmas.{before-in, fits-along}
use Rattle.surface_normals.proofs.SlopeLemmas.{kept-sample, same-sample}
use Rattle.surface_normals.proofs.inner.sample_before.Goals as goal

pub returns-then-slots-eq0-clause-value : goal.returns-then-slots-eq0-clause-value
returns-then-slots-eq0-clause-value c =
    let key = c.args.key.now in
    let depth = c.args.version.now.depth in
    let s = sample_at c.args.version.now in
    let world = c.before-then-slots-eq0.ensures.world depth
    (near_inside depth key c.requires.key) in
    let step = one_shl key.level 32
    (omega (
      arith,
      c.requires.key.level,
      c.depth-depth.ensures.lawful,
      c.depth-depth.ensures.value,
    )) in
    same-sample c.sample.result c.sample.ensures.range
    ∙ c.sample.ensures.value
    ∙ ap s (sym world.1
    ∙ ap (clamped depth) (c.before-then-slots-eq0.ensures.value
    ∙ ap (λ k. moved_back key.axis k key.at) step))

pub overflow_sub-result : goal.overflow_sub-result
overflow_sub-result c =
    let slots = c.args.slots in
    let fits = fits-along c.args.brick.now.node c.args.key.now slots c.requires.slots in
    omega (arith, fits.ends)

pub overflow_sub-result-2 : goal.overflow_sub-result-2
overflow_sub-result-2 c =
    let slots = c.args.slots in
    let fits = fits-along c.args.brick.now.node c.args.key.now slots c.requires.slots in
    omega (arith, fits.ends, fits.before (omega (arith, c.if-slots-eq0.false)))

pub bounds-samples-slots : goal.bounds-samples-slots
bounds-samples-slots c =
    let slots = c.args.slots in
    let fits = fits-along c.args.brick.now.node c.args.key.now slots c.requires.slots in
    omega (arith, fits.ends, fits.last, c.samples.ensures.count)

pub returns-clause-range : goal.returns-clause-range
returns-clause-range c =
    let slots = c.args.slots in
    let fits = fits-along c.args.brick.now.node c.args.key.now slots c.requires.slots in
    let few : slots.near - (slots.far - slots.near) ≤ slots.near = omega arith in
    kept-sample _ (All-get_or IsSample c.samples.result.now
    (slots.near - (slots.far - slots.near)) (pos 0)
    (omega (arith, few, fits.ends, fits.last, c.samples.ensures.count))
    c.samples.ensures.range)

pub returns-clause-value : goal.returns-clause-value
returns-clause-value c =
    let version = c.args.version.now in
    let key = c.args.key.now in
    let brick = c.args.brick.now in
    let slots = c.args.slots in
    let inside = c.requires.slots in
    let fits = fits-along brick.node key slots inside in
    let at : slots.near - (slots.far - slots.near) ≡ slots.near - point_step key.axis =
    omega (arith, fits.ends) in
    let few : slots.near - (slots.far - slots.near) ≤ slots.near = omega arith in
    same-sample _ (All-get_or IsSample c.samples.result.now
    (slots.near - (slots.far - slots.near)) (pos 0)
    (omega (arith, few, fits.ends, fits.last, c.samples.ensures.count))
    c.samples.ensures.range)
    ∙ (λ i. slice_index_or (c.samples.ensures.value i) (at i) (pos 0))
    ∙ before-in version.depth (sample_at version) brick.node brick.samples
    c.requires.brick.node c.requires.brick.samples key slots inside
    (omega (arith, c.if-slots-eq0.false))
