-- The sign number of a transition cell is that of the three rows.
use Rattle.std.proofs.Common.{ℕ, ◌+◌, ◌*◌, ◌/◌, ◌%◌, ◌^◌, List, ap, ◌∙◌, slice_index_or}
use Rattle.block_mesh.proofs.SignLemmas.{transition_signs-rows}
use Rattle.block_mesh.proofs.signs.transition_signs.Goals as goal

pub returns-clause-exact : goal.returns-clause-exact
returns-clause-exact c = λ s n face v some bound.
    let digits : List ℕ → ℕ → ℕ = λ rows k. slice_index_or rows k 0 / 2 ^ (2 * c.args.u) % 8 in
    let number : List ℕ → ℕ = λ rows. digits rows 0 + 8 * digits rows 1 + 64 * digits rows 2 in
    ap number bound.is ∙ transition_signs-rows s n face v c.args.u some c.requires
