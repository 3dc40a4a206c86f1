-- No layer behind the last one has a node.
use Rattle.std.proofs.Common.{◌≡◌, ap, subst, arith}
use Rattle.lattice.specs.Node.{nodes_across}
use Rattle.lattice.specs.declared.settings.Settings.{Settings}
use Rattle.frame_surface.proofs.ColumnLemmas.{level_ends, node_at}
use Rattle.frame_surface.specs.Scan.{IsBestBefore}
use Rattle.frame_surface.specs.Surface.{surface_after}
use Rattle.frame_surface.proofs.picking.scan_level.Goals as goal

pub returns-clause-best : goal.returns-clause-best
returns-clause-best c =
    let frame = c.args.frame.now in
    let level = c.args.level in
    let s = surface_after frame.settings frame.events in
    let depth = ap (λ (s : Settings). nodes_across s.depth level) c.settings.ensures.value in
    let all : c.loop-k.k ≡ nodes_across frame.settings.depth level =
    omega (arith, c.nodes_across-k-end.ensures, depth) in
    level_ends s c.args.at.x c.args.at.y frame.settings.depth
    (c.surfaces_stand_over_their_nodes.ensures frame.settings frame.events) level c.loop-k.best
    (subst (λ k. IsBestBefore s c.args.at.x c.args.at.y (node_at level k 0 0) 0 c.loop-k.best) all
    c.loop-k.invariant.1)
