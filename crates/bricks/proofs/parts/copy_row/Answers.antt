-- The row is loaded and stored.
use Rattle.std.proofs.Common.{◌≡◌, ◌+◌, pos, map, get_or, to_z, w8, ap, ◌∙◌, arith}
use Rattle.std.proofs.lemmas.List.{length-map}
use Rattle.bricks.proofs.RunLemmas.{keeps-chunk, lanes, length-lanes, whole-row}
use Rattle.bricks.proofs.parts.copy_row.Goals as goal

pub returns-clause-run : goal.returns-clause-run
returns-clause-run c = λ k k_in.
    let here : 0 + k ≡ k = omega arith in
    whole-row c.args.row.now c.args.samples.now 0 c.args.to k (omega (arith, c.requires.row))
    c.requires.to k_in c.requires.range
    ∙ ap (λ m. get_or c.args.row.now m (pos 0)) here

pub returns-clause-others : goal.returns-clause-others
returns-clause-others c =
    keeps-chunk c.args.to 16 c.args.samples.now
    (map (to_z w8) (lanes c.args.row.now 0))
    (length-map (lanes c.args.row.now 0) (to_z w8)
    ∙ length-lanes c.args.row.now 0 (omega (arith, c.requires.row))) c.requires.to
