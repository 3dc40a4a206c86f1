-- Sizes rise with the depth.
use Rattle.std.proofs.Math.Pow.{pow_mono}
use Rattle.lattice.proofs.SizeLemmas.{across_most, side_most}
use Rattle.lattice.proofs.worlds.sizes_of_worlds.Goals as goal

pub returns : goal.returns
returns c = record {
  side = side_most;
  node_side = side_most;
  across = across_most;
  power = λ depth allowed. pow_mono allowed;
}
