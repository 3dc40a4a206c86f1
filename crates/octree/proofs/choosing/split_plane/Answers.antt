-- Each row is one more of the plane.
use Rattle.std.proofs.Common.{◌<◌, ◌≤◌, ◌^◌, sym, subst, arith}
use Rattle.std.proofs.Math.Pow.{pow_mono}
use Rattle.lattice.specs.Node.{nodes_across}
use Rattle.octree.specs.SplitBits.{IsRow}
use Rattle.octree.proofs.RowLemmas.{across_above}
use Rattle.octree.proofs.GainsLemmas.{gains_nothing, gains_same, plane-more, row-bits}
use Rattle.octree.proofs.choosing.split_plane.Goals as goal

pub bits_among-bits-requires : goal.bits_among-bits-requires
bits_among-bits-requires c =
    omega (
      arith,
      c.requires.i,
      across_above c.args.levels.now.depth c.args.level c.requires.depth c.requires.low,
    )

pub loop-j-init : goal.loop-j-init
loop-j-init c = record {
  most = omega arith;
  gains = gains_nothing _ c.args.levels.now (λ n h. omega (arith, h.in_j));
}

pub split_row-requires-clause-row : goal.split_row-requires-clause-row
split_row-requires-clause-row c =
    subst (λ d. IsRow d c.args.level c.args.k c.loop-j.j) (sym c.loop-j.invariant.gains.depth)
    (record {
      low = c.requires.low;
      high = c.requires.high;
      k_in = c.requires.k;
      j_in = omega (arith, c.requires.j, c.loop-j-test.true);
    })

pub split_row-requires-clause-bits : goal.split_row-requires-clause-bits
split_row-requires-clause-bits c =
    let rise : 2 ^ c.args.is.end ≤ 2 ^ nodes_across c.args.levels.now.depth c.args.level =
    pow_mono c.requires.i in
    subst (λ d. c.bits_among-bits.result < 2 ^ nodes_across d c.args.level)
    (sym c.loop-j.invariant.gains.depth) (omega (arith, c.bits_among-bits.ensures.fits, rise))

pub loop-j-preserved : goal.loop-j-preserved
loop-j-preserved c = record {
  most = omega arith;
  gains = plane-more c.args.level c.args.k c.args.js.low c.loop-j.j c.args.is c.args.levels.now
      c.loop-j.levels c.split_row.new.self (omega arith) c.loop-j.invariant.gains
      (row-bits c.args.level c.args.k c.loop-j.j c.bits_among-bits.result c.args.is c.loop-j.levels
      c.split_row.new.self c.bits_among-bits.ensures.each c.split_row.ensures);
}

pub returns : goal.returns
returns c =
    let most = c.loop-j.invariant.most in
    gains_same _ _ c.args.levels.now c.loop-j.levels c.loop-j.invariant.gains
    (λ n h. record {
      at = h.at;
      same_k = h.same_k;
      in_j = (h.in_j.0, omega (arith, h.in_j.1, c.loop-j-test.false));
      in_i = h.in_i;
    })
    (λ n h. record {
      at = h.at;
      same_k = h.same_k;
      in_j = (h.in_j.0, omega (arith, h.in_j, most));
      in_i = h.in_i;
    })
