-- A leaf's lists show its triangles, and what isn't a leaf has none.
use Rattle.std.proofs.Common.{[], length, get_or, map, inl, inr, refl, ap, ◌∙◌, subst}
use Rattle.std.proofs.lemmas.Bool.{cases_Bool, false≢true}
use Rattle.std.proofs.lemmas.List.{get_or_past}
use Rattle.terrain.specs.MeshLists.{lists_of}
use Rattle.level_laws.proofs.LeafLemmas.{leaf_test}
use Rattle.terrain.specs.Levels.{levels, viewpoints}
use Rattle.frame_surface.proofs.ColumnLemmas.{node_passed}
use Rattle.frame_surface.proofs.ShownLemmas.{shows-surface}
use Rattle.frame_surface.proofs.SurfaceLemmas.{covers-none, is_one, surface-other}
use Rattle.frame_surface.specs.Heights.{Covers}
use Rattle.frame_surface.specs.Scan.{ShowsSurface, origin}
use Rattle.frame_surface.specs.Surface.{surface_after}
use Rattle.frame_surface.proofs.picking.scan_node.Goals as goal
use Rattle.frame_surface.proofs.picking.scan_node.Goals.{In-Some}

-- what the lists show
shown : (c : In-Some) → ShowsSurface
    (surface_after c.args.frame.now.settings c.args.frame.now.events) c.args.node
    (lists_of c.in-Some.view)
shown c =
    let frame = c.args.frame.now in
    shows-surface c.keys_are_told_apart.ensures c.fine_points_stay.ensures frame.settings
    frame.events c.args.node c.requires.sound.allowed.depth
    (c.maps_of_viewpoints_are_balanced.ensures frame.settings (viewpoints frame.events))
    (c.in-Some.ensures.leaf.0 refl) (lists_of c.in-Some.view) c.in-Some.ensures.mesh
    c.in-Some.ensures.lists

pub scan-requires-clause-near : goal.scan-requires-clause-near
scan-requires-clause-near c = (shown c).near

pub returns-in-None-clause-best : goal.returns-in-None-clause-best
returns-in-None-clause-best c =
    let frame = c.args.frame.now in
    let n = c.args.node in
    let at = c.args.at in
    let s = surface_after frame.settings frame.events in
    node_passed s at.x at.y n 0 c.args.best
    (λ i num den past covers.
    elim (cases_Bool (is_one frame.settings frame.events n)) [
      | inl is ↦
          absurd (false≢true (c.in-None.ensures.leaf.1
          ((leaf_test frame.settings.depth (levels frame.settings frame.events) n).0 is)))
      | inr not ↦
          covers-none at.x at.y num den
          (subst (λ t. Covers t at.x at.y num den)
          (surface-other frame.settings frame.events n not i) covers)
    ]) c.requires.best

pub returns-in-Some-clause-best : goal.returns-in-Some-clause-best
returns-in-Some-clause-best c =
    let frame = c.args.frame.now in
    let n = c.args.node in
    let at = c.args.at in
    let s = surface_after frame.settings frame.events in
    let shows = shown (goal.at.returns-in-Some-clause-best c).In-Some in
    let lists = lists_of c.in-Some.view in
    node_passed s at.x at.y n (length lists.triangles) c.scan.result
    (λ i num den past covers.
    covers-none at.x at.y num den
    (subst (λ t. Covers t at.x at.y num den)
    (shows.corners i
    ∙ ap (map (λ place. get_or lists.positions place origin))
    (get_or_past lists.triangles i [] past)) covers)) (c.scan.ensures.best s shows c.requires.best)
