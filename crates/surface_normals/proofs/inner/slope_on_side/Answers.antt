-- A step behind a point on the low side is the leaf's, and a step before any other.
use Rattle.std.proofs.Common.{◌+◌, ◌-◌, ◌^◌, ◌<◌, ◌≤◌, ◌-ℤ◌, ◌∙◌, ap, arith, pos, slice_index_or, sym}
use Rattle.std.proofs.lemmas.List.Elements.{All-get_or}
use Rattle.std.proofs.lemmas.Nat.{one_shl}
use Rattle.field_pages.specs.Pages.{sample_at}
use Rattle.lattice.specs.declared.node.Node.{Node}
use Rattle.lattice.specs.Point.{clamped, moved}
use Rattle.lattice.specs.Settings.{world_side}
use Rattle.terrain.specs.Samples.{IsSample}
use Rattle.surface_normals.specs.Normals.{moved_back}
use Rattle.surface_normals.proofs.InnerLemmas.{fits-beside, in-world, point-before-it, point-further}
use Rattle.surface_normals.proofs.SlopeLemmas.{kept-sample, same, same-sample}
use Rattle.surface_normals.proofs.inner.slope_on_side.Goals as goal

pub sample-before-requires : goal.sample-before-requires
sample-before-requires c =
    let world = c.before-then-on-eq0.ensures.world c.args.version.now.depth
    (in-world _ _ _ c.requires.brick _ _ _ _ c.requires.point) in
    world.0

pub difference-requires-clause-further : goal.difference-requires-clause-further
difference-requires-clause-further c =
    let samples = c.samples-samples in
    let fits = fits-beside c.args.brick.now.node c.args.axis c.args.p c.args.slot c.args.on
    c.requires.point in
    kept-sample _ (All-get_or IsSample samples.result.now (c.args.slot + c.step_on.result) (pos 0)
    (omega (
      arith,
      c.step_on.ensures,
      fits.further (omega (arith, c.if-on-eq0.true)),
      samples.ensures.count,
    )) samples.ensures.range)

pub overflow_add-slot : goal.overflow_add-slot
overflow_add-slot c =
    let fits = fits-beside c.args.brick.now.node c.args.axis c.args.p c.args.slot c.args.on
    c.requires.point in
    omega (arith, c.step_on.ensures, fits.further (omega (arith, c.if-on-eq0.true)))

pub bounds-samples-slot : goal.bounds-samples-slot
bounds-samples-slot c =
    let fits = fits-beside c.args.brick.now.node c.args.axis c.args.p c.args.slot c.args.on
    c.requires.point in
    omega (
      arith,
      c.step_on.ensures,
      fits.further (omega (arith, c.if-on-eq0.true)),
      c.samples-samples.ensures.count,
    )

pub overflow_sub-slot : goal.overflow_sub-slot
overflow_sub-slot c =
    let fits = fits-beside c.args.brick.now.node c.args.axis c.args.p c.args.slot c.args.on
    c.requires.point in
    omega (arith, c.step_on-2.ensures, fits.before (omega (arith, c.if-on-eq0.false)))

pub bounds-samples-slot-2 : goal.bounds-samples-slot-2
bounds-samples-slot-2 c =
    let fits = fits-beside c.args.brick.now.node c.args.axis c.args.p c.args.slot c.args.on
    c.requires.point in
    omega (arith, fits.last, c.samples-samples.ensures.count)

pub difference-requires-2-clause-before : goal.difference-requires-2-clause-before
difference-requires-2-clause-before c =
    let samples = c.samples-samples in
    let fits = fits-beside c.args.brick.now.node c.args.axis c.args.p c.args.slot c.args.on
    c.requires.point in
    kept-sample _ (All-get_or IsSample samples.result.now (c.args.slot - c.step_on-2.result) (pos 0)
    (omega (arith, fits.last, samples.ensures.count)) samples.ensures.range)

pub further-requires-clause-x : goal.further-requires-clause-x
further-requires-clause-x c =
    let inside = in-world _ _ _ c.requires.brick _ _ _ _ c.requires.point in
    let side = c.node_side-side.ensures.value ∙ ap world_side c.depth.ensures.value in
    omega (arith, inside.x, side)

pub further-requires-clause-y : goal.further-requires-clause-y
further-requires-clause-y c =
    let inside = in-world _ _ _ c.requires.brick _ _ _ _ c.requires.point in
    let side = c.node_side-side.ensures.value ∙ ap world_side c.depth.ensures.value in
    omega (arith, inside.y, side)

pub further-requires-clause-z : goal.further-requires-clause-z
further-requires-clause-z c =
    let inside = in-world _ _ _ c.requires.brick _ _ _ _ c.requires.point in
    let side = c.node_side-side.ensures.value ∙ ap world_side c.depth.ensures.value in
    omega (arith, inside.z, side)

pub returns-then-on-eq0-clause-value : goal.returns-then-on-eq0-clause-value
returns-then-on-eq0-clause-value c =
    let depth = c.args.version.now.depth in
    let s = sample_at c.args.version.now in
    let brick = c.args.brick.now in
    let has = c.requires.brick in
    let p = c.args.p in
    let slot = c.args.slot in
    let axis = c.args.axis in
    let point = c.requires.point in
    let samples = c.samples-samples in
    let level = ap (λ (n : Node). n.level) c.node.ensures.value in
    let low : c.node.result.level < 32 = omega (arith, c.node.ensures.most.level) in
    let cell = one_shl c.node.result.level 32 low ∙ ap (λ l. 2 ^ l) level in
    let fits = fits-beside brick.node axis p slot c.args.on point in
    let few : c.args.on < 16 = omega (arith, c.if-on-eq0.true) in
    let inside = in-world depth s brick has axis p slot c.args.on point in
    let back = c.before-then-on-eq0 in
    let world = back.ensures.world depth inside in
    let before = same-sample c.sample-before.result c.sample-before.ensures.range
    ∙ c.sample-before.ensures.value
    ∙ ap s (sym world.1
    ∙ ap (clamped depth) (back.ensures.value ∙ ap (λ k. moved_back axis k p) cell)) in
    let further = same-sample _ (All-get_or IsSample samples.result.now
    (slot + c.step_on.result) (pos 0)
    (omega (arith, c.step_on.ensures, fits.further few, samples.ensures.count))
    samples.ensures.range)
    ∙ (λ i. slice_index_or (samples.ensures.value i) (slot + c.step_on.ensures i) (pos 0))
    ∙ point-further depth s brick.node brick.samples has.node has.samples axis p slot c.args.on
    point few in
    same c.difference.result (omega (arith, c.difference.ensures.small))
    ∙ c.difference.ensures.value ∙ (λ i. further i -ℤ before i)

pub returns-clause-value : goal.returns-clause-value
returns-clause-value c =
    let depth = c.args.version.now.depth in
    let s = sample_at c.args.version.now in
    let brick = c.args.brick.now in
    let has = c.requires.brick in
    let p = c.args.p in
    let slot = c.args.slot in
    let axis = c.args.axis in
    let point = c.requires.point in
    let samples = c.samples-samples in
    let level = ap (λ (n : Node). n.level) c.node.ensures.value in
    let low : c.node.result.level < 32 = omega (arith, c.node.ensures.most.level) in
    let cell = one_shl c.node.result.level 32 low ∙ ap (λ l. 2 ^ l) level in
    let fits = fits-beside brick.node axis p slot c.args.on point in
    let some : 1 ≤ c.args.on = omega (arith, c.if-on-eq0.false) in
    let side = c.node_side-side.ensures.value ∙ ap world_side c.depth.ensures.value in
    let is = c.further.ensures depth side
    ∙ ap (λ k. clamped depth (moved axis k p)) cell in
    let further = same-sample c.sample-further.result c.sample-further.ensures.range
    ∙ c.sample-further.ensures.value ∙ ap s is in
    let before = same-sample _ (All-get_or IsSample samples.result.now
    (slot - c.step_on-2.result) (pos 0)
    (omega (arith, fits.last, samples.ensures.count))
    samples.ensures.range)
    ∙ (λ i. slice_index_or (samples.ensures.value i) (slot - c.step_on-2.ensures i) (pos 0))
    ∙ point-before-it depth s brick.node brick.samples has.node has.samples axis p slot c.args.on
    point some in
    same c.difference-2.result (omega (arith, c.difference-2.ensures.small))
    ∙ c.difference-2.ensures.value ∙ (λ i. further i -ℤ before i)
