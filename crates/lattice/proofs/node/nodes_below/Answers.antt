-- The shifts are powers of eight, and the levels are a sum of them (`levels_below`).
use Rattle.std.proofs.Common.{◌≡◌, ℕ, zero, suc, ◌+◌, ◌-◌, ◌*◌, ◌/◌, ◌^◌, ◌%◌, ◌<◌, ◌≤◌, refl, ap, arith, ◌∙◌}
use Rattle.std.proofs.Math.Nat.{pow-suc, pow-le-pow_right}
use Rattle.std.proofs.lemmas.Nat.{one_shl}
use Rattle.lattice.proofs.CountLemmas.{levels_below}
use Rattle.lattice.proofs.node.nodes_below.Goals as goal

-- the code writes a power of eight by a shift
power_of_eight : (n : ℕ) → 2 ^ (3 * n) ≡ 8 ^ n
power_of_eight zero = refl
power_of_eight (suc n) =
    let more : 3 * suc n ≡ suc (suc (suc (3 * n))) = omega arith in
    ap (λ k. 2 ^ k) more
    ∙ omega (
      arith,
      pow-suc 2 (suc (suc (3 * n))),
      pow-suc 2 (suc (3 * n)),
      pow-suc 2 (3 * n),
      pow-suc 8 n,
      power_of_eight n,
    )

pub overflow_sub-result-2 : goal.overflow_sub-result-2
overflow_sub-result-2 c =
    let most = c.args.depth + 1 in
    let up = most - c.args.level in
    let some : 0 < 8 = omega arith in
    let rise : 8 ^ up ≤ 8 ^ most = pow-le-pow_right some (omega arith) in
    omega (
      arith,
      one_shl (3 * up) 32 (omega arith),
      one_shl (3 * most) 32 (omega arith),
      power_of_eight up,
      power_of_eight most,
      rise,
    )

pub returns : goal.returns
returns c =
    let most = c.args.depth + 1 in
    let up = most - c.args.level in
    let all : 1 * 2 ^ (3 * most) % 2 ^ 32 ≡ 8 ^ most = one_shl (3 * most) 32 (omega arith)
    ∙ power_of_eight most in
    let rest : 1 * 2 ^ (3 * up) % 2 ^ 32 ≡ 8 ^ up = one_shl (3 * up) 32 (omega arith)
    ∙ power_of_eight up in
    (λ t. (all t - rest t) / 7)
    ∙ omega (arith, levels_below c.args.depth c.args.level c.requires.level)
