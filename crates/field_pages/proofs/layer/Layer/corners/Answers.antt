-- The corners kept of a row of pages are the layer's samples there.
use Rattle.std.proofs.Common.{◌≡◌, ap, ◌∙◌, arith}
use Rattle.field_pages.specs.Places.{corner_samples}
use Rattle.field_pages.proofs.CornerLemmas.{corners-row}
use Rattle.field_pages.proofs.layer.Layer.corners.Goals as goal

pub returns-clause-samples : goal.returns-clause-samples
returns-clause-samples c q row column =
    let are : c.deref.result.now ≡ corner_samples c.args.self.now =
    c.deref.ensures.value ∙ c.self.invariant ∙ ap corner_samples c.self.view_is in
    corners-row c.args.across _ c.args.p.y c.args.self.now c.deref.result.now q are
    c.requires.pages c.requires.y (omega arith) row column
