-- A power of two without one has all bits before its own.
use Rattle.std.proofs.Common.{◌∙◌, ap, arith}
use Rattle.std.proofs.lemmas.Nat.{one_shl, pow_pos}
use Rattle.octree.specs.SplitBits.{row_bit}
use Rattle.octree.proofs.HalfLemmas.{first_each, first_is}
use Rattle.octree.proofs.rows.first_bits.Goals as goal

pub overflow_sub-result : goal.overflow_sub-result
overflow_sub-result c = omega (arith, one_shl c.args.count 64 c.requires, pow_pos c.args.count)

pub returns-clause-fits : goal.returns-clause-fits
returns-clause-fits c = omega (arith, one_shl c.args.count 64 c.requires, pow_pos c.args.count)

pub returns-clause-each : goal.returns-clause-each
returns-clause-each c i =
    ap (λ w. row_bit w i) (first_is c.args.count c.requires) ∙ first_each c.args.count i
