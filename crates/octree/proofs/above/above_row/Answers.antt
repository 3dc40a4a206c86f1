-- The bits of four planes together, one for each two, and none behind the row's last node.
use Rattle.std.proofs.Common.{◌-◌, ◌/◌, ◌^◌, ◌<◌, ◌∙◌, sym, subst, arith}
use Rattle.std.specs.Prelude.{bit_and}
use Rattle.octree.proofs.AboveLemmas.{above-bits}
use Rattle.octree.proofs.RowBitLemmas.{masked-in, masked-low}
use Rattle.octree.proofs.above.above_row.Goals as goal

pub returns-clause-fits : goal.returns-clause-fits
returns-clause-fits c =
    subst (λ n. bit_and c.halved.result ((2 ^ 64 - 1) / 2 ^ (64 - c.across_above-across.result))
    < 2 ^ n) c.across_above-across.ensures.value
    (masked-in c.halved.result c.across_above-across.result (omega arith))

pub returns-clause-each : goal.returns-clause-each
returns-clause-each c i i_in =
    let across = c.across_above-across.result in
    let within : i < across = omega (arith, c.across_above-across.ensures.value, i_in) in
    let is = masked-low c.halved.result across i (omega arith) within ∙ c.halved.ensures i in
    let bits = above-bits c.args.below.now.levels c.args.below.now.level c.args.k c.args.j
    c.near_bits.result c.near_bits-2.result c.in_line_before.result c.in_line_bits.result
    c.near_bits.ensures c.near_bits-2.ensures c.in_line_before.ensures c.in_line_bits.ensures i in
    ((λ h. bits.0 (sym is ∙ h)), (λ s. is ∙ bits.1 s))
