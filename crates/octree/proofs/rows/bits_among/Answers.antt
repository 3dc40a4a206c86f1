-- The first bits up to the end without those before the range.
use Rattle.std.proofs.Common.{◌^◌, ◌≤◌, arith}
use Rattle.std.proofs.Math.Pow.{pow_mono}
use Rattle.octree.proofs.HalfLemmas.{among_bits}
use Rattle.octree.proofs.rows.bits_among.Goals as goal

pub returns-clause-each : goal.returns-clause-each
returns-clause-each c i =
    let end : c.args.indices.end ≤ 64 = omega arith in
    let low : c.args.indices.low ≤ 64 = omega arith in
    let end_power : 2 ^ c.args.indices.end ≤ 2 ^ 64 = pow_mono end in
    let low_power : 2 ^ c.args.indices.low ≤ 2 ^ 64 = pow_mono low in
    among_bits c.args.indices.low c.args.indices.end c.first_bits.result c.first_bits-2.result
    (omega (arith, c.first_bits.ensures.fits, end_power))
    (omega (arith, c.first_bits-2.ensures.fits, low_power))
    c.first_bits.ensures.each c.first_bits-2.ensures.each i
