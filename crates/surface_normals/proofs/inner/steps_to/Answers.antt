-- A coordinate of a key is so many cells behind the low corner of the node.
use Rattle.std.proofs.Common.{◌≡◌, ℕ, ◌+◌, ◌-◌, ◌*◌, ◌/◌, ◌^◌, ◌%◌, ◌≤◌, IfSome, None, Some, arith}
use Rattle.std.specs.Prelude.{Option}
use Rattle.std.specs.Option.{SomeIff}
use Rattle.surface_normals.proofs.InnerLemmas.{steps-lead}
use Rattle.surface_normals.proofs.inner.steps_to.Goals as goal

pub returns : goal.returns
returns c =
    led c.args.index c.args.at (2 ^ c.args.level) c.checked_sub.result c.checked_sub.ensures
  where
    led : (index at cell : ℕ) (o : Option ℕ)
        → SomeIff o (index * 16 ≤ at / cell) (at / cell - index * 16)
        → IfSome o (λ steps. at % cell ≡ 0 → at ≡ index * (16 * cell) + cell * steps)
    led index at cell None outside = tt
    led index at cell (Some steps) found =
        λ whole. steps-lead index at cell steps (omega (arith, found.0, found.1)) whole
