-- No node before the row's indices, or behind them, has anything over the place.
use Rattle.std.proofs.Common.{◌≡◌, subst, arith}
use Rattle.frame_surface.proofs.ColumnLemmas.{node_at, row_begins, row_ends}
use Rattle.frame_surface.specs.Scan.{IsBestBefore}
use Rattle.frame_surface.specs.Surface.{surface_after}
use Rattle.frame_surface.proofs.picking.scan_row.Goals as goal

pub loop-i-init : goal.loop-i-init
loop-i-init c =
    let frame = c.args.frame.now in
    let column = c.args.column in
    let s = surface_after frame.settings frame.events in (
      c.requires.small,
      row_begins s c.args.at.x c.args.at.y frame.settings.depth
          (c.surfaces_stand_over_their_nodes.ensures frame.settings frame.events) column.level
          c.args.k column.is c.requires.column.is c.args.j c.args.best c.requires.best,
    )

pub returns-clause-best : goal.returns-clause-best
returns-clause-best c =
    let frame = c.args.frame.now in
    let column = c.args.column in
    let s = surface_after frame.settings frame.events in
    let all : c.loop-i.i ≡ column.is.end = omega (arith, c.requires.column.i_order) in
    row_ends s c.args.at.x c.args.at.y frame.settings.depth
    (c.surfaces_stand_over_their_nodes.ensures frame.settings frame.events) column.level c.args.k
    column.is c.requires.column.is c.args.j c.loop-i.best
    (subst (λ i. IsBestBefore s c.args.at.x c.args.at.y
    (node_at column.level c.args.k c.args.j i) 0 c.loop-i.best) all c.loop-i.invariant.1)
