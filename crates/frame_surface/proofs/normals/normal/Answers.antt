-- The version holds the frame's field, so it has the field's normals.
use Rattle.std.proofs.Common.{◌∙◌, ap, subst, sym}
use Rattle.field_pages.specs.Pages.{sample_at}
use Rattle.lattice.specs.Key.{IsKey}
use Rattle.terrain.specs.History.{sample}
use Rattle.surface_normals.specs.Normals.{normal_of}
use Rattle.surface_normals.proofs.SlopeLemmas.{normal-same}
use Rattle.frame_surface.proofs.normals.normal.Goals as goal

pub normal-requires : goal.normal-requires
normal-requires c =
    subst (λ depth. IsKey depth c.args.key) (sym c.version.ensures.depth) c.requires.key

pub returns : goal.returns
returns c =
    let frame = c.args.frame.now in
    let version = c.version.result.now in
    let field = sample frame.settings frame.events in
    let key = c.args.key in
    let is = subst (λ depth. IsKey depth key) (sym c.version.ensures.depth) c.requires.key in
    c.normal.ensures
    ∙ normal-same version.depth (sample_at version) field c.version.ensures.samples key is
    ∙ ap (λ depth. normal_of depth field key) c.version.ensures.depth
