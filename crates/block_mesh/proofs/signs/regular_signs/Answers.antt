-- The sign number of a cell is that of the four rows.
use Rattle.std.proofs.Common.{ℕ, ◌+◌, ◌*◌, ◌/◌, ◌%◌, ◌^◌, List, ap, ◌∙◌, slice_index_or}
use Rattle.block_mesh.proofs.SignLemmas.{regular_signs-rows}
use Rattle.block_mesh.proofs.signs.regular_signs.Goals as goal

pub returns : goal.returns
returns c = λ s n z y bound.
    let digits : List ℕ → ℕ → ℕ = λ rows k. slice_index_or rows k 0 / 2 ^ c.args.x % 4 in
    let number : List ℕ → ℕ = λ rows.
    digits rows 0 + 4 * digits rows 1 + 16 * digits rows 2 + 64 * digits rows 3 in
    ap number bound.is ∙ regular_signs-rows s n z y c.args.x c.requires
