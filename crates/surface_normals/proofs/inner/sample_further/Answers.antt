-- The sample is the leaf's, or the version's where the key ends on the leaf's side.
use Rattle.std.proofs.Common.{◌≡◌, ◌+◌, ◌-◌, ◌<◌, ◌∙◌, ap, arith, pos, slice_index_or}
use Rattle.std.proofs.lemmas.List.Elements.{All-get_or}
use Rattle.std.proofs.lemmas.Nat.{one_shl}
use Rattle.bricks.specs.Slots.{point_step}
use Rattle.field_pages.specs.Pages.{sample_at}
use Rattle.lattice.specs.Point.{clamped, moved}
use Rattle.lattice.specs.Settings.{world_side}
use Rattle.terrain.specs.Samples.{IsSample}
use Rattle.surface_normals.proofs.InnerLemmas.{along-most, fits-along, further-in}
use Rattle.surface_normals.proofs.SlopeLemmas.{kept-sample, same-sample}
use Rattle.surface_normals.proofs.inner.sample_further.Goals as goal

pub returns-then-slots-eq-CELLS-clause-value : goal.returns-then-slots-eq-CELLS-clause-value
returns-then-slots-eq-CELLS-clause-value c =
    let key = c.args.key.now in
    let depth = c.args.version.now.depth in
    let s = sample_at c.args.version.now in
    let side = c.node_side-side.ensures.value ∙ ap world_side c.depth.ensures.value in
    let step = one_shl key.level 32
    (omega (
      arith,
      c.requires.key.level,
      c.depth.ensures.lawful,
      c.depth.ensures.value,
    )) in
    let is = c.further.ensures depth side
    ∙ (λ i. clamped depth (moved key.axis (step i) (c.far_end.ensures i))) in
    same-sample c.sample.result c.sample.ensures.range
    ∙ c.sample.ensures.value
    ∙ ap s is

pub overflow_add-slots : goal.overflow_add-slots
overflow_add-slots c =
    omega (arith, along-most c.args.brick.now.node c.args.key.now c.args.slots c.requires.slots)

pub overflow_sub-result : goal.overflow_sub-result
overflow_sub-result c =
    let slots = c.args.slots in
    let fits = fits-along c.args.brick.now.node c.args.key.now slots c.requires.slots in
    omega (arith, fits.ends)

pub overflow_add-result : goal.overflow_add-result
overflow_add-result c =
    let slots = c.args.slots in
    let fits = fits-along c.args.brick.now.node c.args.key.now slots c.requires.slots in
    let few : slots.along + 1 < 16 =
    omega (
      arith,
      c.if-slots-eq-CELLS.false,
      along-most c.args.brick.now.node c.args.key.now slots
          c.requires.slots,
    ) in
    omega (arith, fits.ends, fits.further few)

pub bounds-samples-slots : goal.bounds-samples-slots
bounds-samples-slots c =
    let slots = c.args.slots in
    let fits = fits-along c.args.brick.now.node c.args.key.now slots c.requires.slots in
    let few : slots.along + 1 < 16 =
    omega (
      arith,
      c.if-slots-eq-CELLS.false,
      along-most c.args.brick.now.node c.args.key.now slots
          c.requires.slots,
    ) in
    omega (arith, fits.ends, fits.further few, c.samples.ensures.count)

pub returns-clause-range : goal.returns-clause-range
returns-clause-range c =
    let slots = c.args.slots in
    let fits = fits-along c.args.brick.now.node c.args.key.now slots c.requires.slots in
    let few : slots.along + 1 < 16 =
    omega (
      arith,
      c.if-slots-eq-CELLS.false,
      along-most c.args.brick.now.node c.args.key.now slots
          c.requires.slots,
    ) in
    kept-sample _ (All-get_or IsSample c.samples.result.now
    (slots.far + (slots.far - slots.near)) (pos 0)
    (omega (arith, fits.ends, fits.further few, c.samples.ensures.count))
    c.samples.ensures.range)

pub returns-clause-value : goal.returns-clause-value
returns-clause-value c =
    let version = c.args.version.now in
    let key = c.args.key.now in
    let brick = c.args.brick.now in
    let slots = c.args.slots in
    let inside = c.requires.slots in
    let fits = fits-along brick.node key slots inside in
    let at : slots.far + (slots.far - slots.near) ≡ slots.far + point_step key.axis =
    omega (arith, fits.ends) in
    let few : slots.along + 1 < 16 =
    omega (arith, c.if-slots-eq-CELLS.false, along-most brick.node key slots inside) in
    same-sample _ (All-get_or IsSample c.samples.result.now
    (slots.far + (slots.far - slots.near)) (pos 0)
    (omega (arith, fits.ends, fits.further few, c.samples.ensures.count))
    c.samples.ensures.range)
    ∙ (λ i. slice_index_or (c.samples.ensures.value i) (at i) (pos 0))
    ∙ further-in version.depth (sample_at version) brick.node brick.samples
    c.requires.brick.node c.requires.brick.samples key slots inside few
