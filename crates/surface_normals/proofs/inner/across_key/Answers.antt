-- Where the key is on no side on the axis, the normal is that of its slots.
use Rattle.std.proofs.Common.{◌∙◌, ap, rules, subst, sym, w32}
use Rattle.std.proofs.lemmas.Int.{to_z-of_z}
use Rattle.field_pages.specs.Pages.{sample_at}
use Rattle.surface_normals.specs.Inner.{FitsAcross, IsInner, normal_on_slots}
use Rattle.surface_normals.proofs.InnerLemmas.{across-is, fits-across}
use Rattle.surface_normals.proofs.inner.across_key.Goals as goal

pub across_slots-requires-clause-fits : goal.across_slots-requires-clause-fits
across_slots-requires-clause-fits c =
    let inner = subst IsInner c.coordinate.ensures (c.is_inner.ensures.0 c.if-is_inner.true) in
    subst (λ step. FitsAcross step c.args.slots) (sym c.step_on.ensures)
    (fits-across c.args.brick.now.node c.args.key.now c.args.slots c.requires.slots c.args.axis
    c.requires.across inner)

pub returns-then-is_inner : goal.returns-then-is_inner
returns-then-is_inner c =
    let version = c.args.version.now in
    let inner = subst IsInner c.coordinate.ensures (c.is_inner.ensures.0 c.if-is_inner.true) in
    to_z-of_z w32 c.across_slots.result (search rules) ∙ c.across_slots.ensures
    ∙ ap (normal_on_slots c.samples.result.now c.args.slots) c.step_on.ensures
    ∙ across-is version.depth (sample_at version) c.args.brick.now c.requires.brick c.args.key.now
    c.args.slots c.requires.slots c.args.axis c.requires.across inner c.samples.result.now
    c.samples.ensures.value
