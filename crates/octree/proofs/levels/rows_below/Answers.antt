-- The shifts are powers of two, of which the second isn't the greater.
use Rattle.std.proofs.Common.{◌≡◌, ◌+◌, ◌-◌, ◌*◌, ◌/◌, ◌^◌, ◌%◌, ◌≤◌, arith}
use Rattle.std.proofs.Math.Pow.{pow_mono}
use Rattle.std.proofs.lemmas.Nat.{one_shl}
use Rattle.octree.proofs.levels.rows_below.Goals as goal

pub overflow_sub-result-2 : goal.overflow_sub-result-2
overflow_sub-result-2 c =
    let rise : 2 ^ (2 * (c.args.depth + 1 - c.args.level)) ≤ 2 ^ (2 * c.args.depth) =
    pow_mono (omega arith) in
    omega (
      arith,
      one_shl (2 * (c.args.depth + 1 - c.args.level)) 32 (omega arith),
      one_shl (2 * c.args.depth) 32 (omega arith),
      rise,
    )

pub returns : goal.returns
returns c =
    let all : 1 * 2 ^ (2 * c.args.depth) % 2 ^ 32 ≡ 2 ^ (2 * c.args.depth) =
    one_shl (2 * c.args.depth) 32 (omega arith) in
    let rest : 1 * 2 ^ (2 * (c.args.depth + 1 - c.args.level)) % 2 ^ 32
    ≡ 2 ^ (2 * (c.args.depth + 1 - c.args.level)) =
    one_shl (2 * (c.args.depth + 1 - c.args.level)) 32 (omega arith) in
    (λ t. (all t - rest t) / 3)
