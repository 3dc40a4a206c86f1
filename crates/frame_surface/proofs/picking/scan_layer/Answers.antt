-- No row before the layer's indices, or behind them, has anything over the place.
use Rattle.std.proofs.Common.{◌≡◌, subst, arith}
use Rattle.frame_surface.proofs.ColumnLemmas.{layer_begins, layer_ends, node_at}
use Rattle.frame_surface.specs.Scan.{IsBestBefore}
use Rattle.frame_surface.specs.Surface.{surface_after}
use Rattle.frame_surface.proofs.picking.scan_layer.Goals as goal

pub loop-j-init : goal.loop-j-init
loop-j-init c =
    let frame = c.args.frame.now in
    let column = c.args.column in
    let s = surface_after frame.settings frame.events in (
      c.requires.small,
      layer_begins s c.args.at.x c.args.at.y frame.settings.depth
          (c.surfaces_stand_over_their_nodes.ensures frame.settings frame.events) column.level
          c.args.k column.js c.requires.column.js c.args.best c.requires.best,
    )

pub returns-clause-best : goal.returns-clause-best
returns-clause-best c =
    let frame = c.args.frame.now in
    let column = c.args.column in
    let s = surface_after frame.settings frame.events in
    let all : c.loop-j.j ≡ column.js.end = omega (arith, c.requires.column.j_order) in
    layer_ends s c.args.at.x c.args.at.y frame.settings.depth
    (c.surfaces_stand_over_their_nodes.ensures frame.settings frame.events) column.level c.args.k
    column.js c.requires.column.js c.loop-j.best
    (subst (λ j. IsBestBefore s c.args.at.x c.args.at.y (node_at column.level c.args.k j 0) 0
    c.loop-j.best) all c.loop-j.invariant.1)
