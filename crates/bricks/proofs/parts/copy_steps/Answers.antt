-- One sample more is copied.
use Rattle.std.proofs.Common.{◌≡◌, ◌*◌, ◌<◌, ℤ, pos, length, get_or, SFits, w8, rules, refl, sym, ap, ◌∙◌, inl, inr, arith}
use Rattle.std.proofs.lemmas.Bool.{cases_lt}
use Rattle.std.proofs.lemmas.Grind.{get_or-set_at}
use Rattle.std.proofs.lemmas.Int.{to_z-of_z}
use Rattle.std.proofs.lemmas.List.{get_or-set_other, length-set}
use Rattle.bricks.proofs.parts.copy_steps.Goals as goal

pub loop-place-init : goal.loop-place-init
loop-place-init c = record { long = refl; each = λ k k_in. absurd (omega arith) }

pub loop-place-preserved : goal.loop-place-preserved
loop-place-preserved c =
    let place = c.loop-place.place in
    let now = c.loop-place.samples in
    let item : ℤ = get_or c.args.run.now (c.args.step * place) (pos 0) in
    let fits : SFits w8 item = search rules in
    let room : place < length now =
    omega (arith, c.loop-place.invariant.long, c.loop-place-test.true) in
    record {
      long = length-set now place _ ∙ c.loop-place.invariant.long;
      each = λ k k_in. elim (cases_lt k place) [
        | inl before ↦
            get_or-set_other now place k _ (pos 0) (λ e. omega (arith, e, before))
            ∙ c.loop-place.invariant.each k before
        | inr after ↦
            let here : place ≡ k = omega arith in
            get_or-set_at now place k _ (pos 0) (sym here) room
            ∙ to_z-of_z w8 item fits
            ∙ ap (λ m. get_or c.args.run.now (c.args.step * m) (pos 0)) here
      ];
    }

pub returns-clause-each : goal.returns-clause-each
returns-clause-each c = λ k k_in.
    c.loop-place.invariant.each k (omega (arith, k_in, c.loop-place-test.false))
