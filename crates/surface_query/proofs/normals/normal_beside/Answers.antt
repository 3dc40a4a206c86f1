-- The version holds the frame's field, so it has the field's normals, and the brick has its samples.
use Rattle.std.proofs.Common.{◌∙◌, ap, subst, sym}
use Rattle.std.proofs.lemmas.Option.{IfSome_then}
use Rattle.field_pages.specs.Pages.{sample_at}
use Rattle.lattice.specs.Key.{IsKey}
use Rattle.terrain.specs.History.{sample}
use Rattle.surface_normals.specs.Inner.{HasLeafSamples}
use Rattle.surface_normals.specs.Normals.{normal_of}
use Rattle.surface_normals.proofs.InnerLemmas.{has-same}
use Rattle.surface_normals.proofs.SlopeLemmas.{normal-same}
use Rattle.surface_query.proofs.normals.normal_beside.Goals as goal

pub normal_beside-requires-clause-key : goal.normal_beside-requires-clause-key
normal_beside-requires-clause-key c =
    subst (λ depth. IsKey depth c.args.key) (sym c.version.ensures.depth) c.requires.key

pub normal_beside-requires-clause-brick : goal.normal_beside-requires-clause-brick
normal_beside-requires-clause-brick c =
    let frame = c.args.frame.now in
    let version = c.version.result.now in
    let field = sample frame.settings frame.events in
    IfSome_then c.args.brick c.requires.brick (λ lists has.
    has-same version.depth (sample_at version) field c.version.ensures.samples lists.now
    (subst (λ depth. HasLeafSamples depth field lists.now) (sym c.version.ensures.depth) has))

pub returns : goal.returns
returns c =
    let frame = c.args.frame.now in
    let version = c.version.result.now in
    let field = sample frame.settings frame.events in
    let key = c.args.key in
    let is = subst (λ depth. IsKey depth key) (sym c.version.ensures.depth) c.requires.key in
    c.normal_beside.ensures
    ∙ normal-same version.depth (sample_at version) field c.version.ensures.samples key is
    ∙ ap (λ depth. normal_of depth field key) c.version.ensures.depth
