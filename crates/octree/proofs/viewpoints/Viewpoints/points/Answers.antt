-- A viewpoint more adds its point, if it is anywhere.
use Rattle.std.proofs.Common.{◌≡◌, ◌++◌, sym, ap, ◌∙◌, arith}
use Rattle.std.specs.Prelude.{option_to_list}
use Rattle.lattice.specs.Lists.{joined}
use Rattle.lattice.proofs.JoinedLemmas.{joined-more}
use Rattle.terrain.specs.declared.event.TheConstants.{MAX_VIEWS}
use Rattle.octree.specs.Viewpoints.{place_of}
use Rattle.octree.proofs.viewpoints.Viewpoints.points.Goals as goal

pub loop-view-init : goal.loop-view-init
unfolding joined
loop-view-init c = c.new-points.ensures.items

pub loop-view-preserved : goal.loop-view-preserved
loop-view-preserved c =
    let views = c.args.self.now in
    let view = c.loop-view.view in
    c.in_ok-push_place.ensures
    ∙ ap (λ points. points ++ option_to_list (place_of views view)) c.loop-view.invariant
    ∙ sym (joined-more view (λ view. option_to_list (place_of views view)))

pub returns : goal.returns
returns c =
    let last : c.loop-view.view ≡ MAX_VIEWS = omega arith in
    c.loop-view.invariant
    ∙ ap (λ n. joined n (λ view. option_to_list (place_of c.args.self.now view))) last
