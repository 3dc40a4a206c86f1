-- An index whose range holds the coordinate is neither past it nor before it.
use Rattle.std.proofs.Common.{◌+◌, ◌*◌, ◌/◌, ap, arith}
use Rattle.vertex_places.proofs.Octants.{side_some}
use Rattle.frame_surface.proofs.ColumnLemmas.{not_before, not_past}
use Rattle.frame_surface.proofs.picking.indices_over.Goals as goal

pub returns-clause-each : goal.returns-clause-each
returns-clause-each c index below holds =
    let side = 256 * c.node_side-side.result in
    let is = c.node_side-side.ensures.value in
    let some = side_some c.args.level in
    let past = not_past c.args.at index side (omega (arith, is, some))
    (omega (arith, holds.low, ap (λ t. index * (256 * t)) is)) in
    let before = not_before c.args.at index side (omega (arith, is, some))
    (omega (arith, holds.high, ap (λ t. (index + 1) * (256 * t)) is)) in
    let sub = ap (λ t. t / side) c.saturating_sub.ensures in
    record {
      low = omega (arith, before, sub, c.min.ensures);
      end = omega (arith, past, below, c.min-end.ensures, c.nodes_across-across.ensures);
    }
