-- The row is loaded, and each fourth lane is stored.
use Rattle.std.proofs.Common.{◌≡◌, ◌+◌, ◌*◌, pos, get_or, ap, ◌∙◌, arith}
use Rattle.bricks.proofs.RunLemmas.{keeps-chunk, length-picked, picked, some-row, fourth_lane-is, fourth_lanes}
use Rattle.bricks.proofs.parts.copy_quarter_row.Goals as goal

pub returns-clause-run : goal.returns-clause-run
returns-clause-run c = λ k k_in.
    let here : 0 + 4 * k ≡ 4 * k = omega arith in
    some-row c.args.row.now c.args.samples.now 0 c.args.to 4 k fourth_lanes
    (omega (arith, c.requires.row)) c.requires.to k_in (fourth_lane-is k k_in) (omega arith)
    c.requires.range
    ∙ ap (λ m. get_or c.args.row.now m (pos 0)) here

pub returns-clause-others : goal.returns-clause-others
returns-clause-others c =
    keeps-chunk c.args.to 4 c.args.samples.now (picked c.args.row.now 0 fourth_lanes)
    (length-picked c.args.row.now 0 fourth_lanes) c.requires.to
