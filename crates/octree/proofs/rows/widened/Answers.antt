-- Each bit is that before it, that at it or that behind it.
use Rattle.std.proofs.Common.{◌/◌, ◌*◌, ◌%◌, ◌^◌, ◌∙◌}
use Rattle.std.specs.Prelude.{◌||◌, bit_or}
use Rattle.octree.specs.SplitBits.{row_bit}
use Rattle.octree.proofs.RowBitLemmas.{before, behind, or_bits}
use Rattle.octree.proofs.rows.widened.Goals as goal

pub returns : goal.returns
returns c i =
    let row = c.args.row in
    or_bits (row * 2 % 2 ^ 64) (bit_or row (row / 2)) i
    ∙ (λ t. before row i c.requires t
    || (or_bits row (row / 2) i ∙ (λ u. row_bit row i || behind row i u)) t)
