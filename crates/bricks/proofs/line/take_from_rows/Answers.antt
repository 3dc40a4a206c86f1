-- One sample more is taken, from a row.
use Rattle.std.proofs.Common.{◌≡◌, ℕ, ◌+◌, ◌*◌, ◌/◌, ◌%◌, ◌<◌, ℤ, pos, length, get_or, SFits, w8, rules, refl, sym, ap, ◌∙◌, inl, inr, arith}
use Rattle.std.proofs.Math.Nat.{mul_assoc}
use Rattle.std.proofs.lemmas.Bool.{cases_lt}
use Rattle.std.proofs.lemmas.Grind.{get_or-set_at}
use Rattle.std.proofs.lemmas.Int.{to_z-of_z}
use Rattle.std.proofs.lemmas.List.{get_or-set_other, get_or_default, length-set}
use Rattle.terrain.specs.declared.brush.TheConstants.{MAX_SAMPLE}
use Rattle.field_pages.specs.PageRows.{lent_samples}
use Rattle.bricks.proofs.line.take_from_rows.Goals as goal

-- whole rows lead to a row
row-begins : (from step place : ℕ) → from % 16 ≡ 0 → step % 16 ≡ 0 → (from + step * place) % 16 ≡ 0
row-begins from step place begins rows =
    let step_is : step ≡ 16 * (step / 16) = omega (arith, rows) in
    omega (arith, begins, ap (λ n. n * place) step_is ∙ mul_assoc 16 (step / 16) place)

pub loop-place-init : goal.loop-place-init
loop-place-init c = record { long = refl; each = λ k k_in. absurd (omega arith) }

pub stepped_row-requires-clause-start : goal.stepped_row-requires-clause-start
stepped_row-requires-clause-start c =
    row-begins c.args.from c.args.step c.loop-place.place c.requires.from c.requires.rows

pub loop-place-preserved : goal.loop-place-preserved
loop-place-preserved c =
    let place = c.loop-place.place in
    let now = c.loop-place.taken in
    let page = lent_samples c.args.page.now in
    let first = c.args.first in
    let at : ℕ → ℕ = λ k. c.args.from + c.args.step * k + first in
    let within = c.requires.within place (omega (arith, c.loop-place-test.true)) in
    let begins = row-begins c.args.from c.args.step place c.requires.from c.requires.rows in
    let room : place < length now =
    omega (arith, c.loop-place.invariant.long, c.loop-place-test.true) in
    let row = c.stepped_row.result.now in
    let item : ℤ = get_or row first (pos 0) in
    let fits : SFits w8 item = search rules in
    record {
      long = length-set now place _ ∙ c.loop-place.invariant.long;
      each = λ k k_in. elim (cases_lt k place) [
        | inl before ↦
            get_or-set_other now place k _ (pos 0) (λ e. omega (arith, e, before))
            ∙ c.loop-place.invariant.each k before
        | inr after ↦
            let here : place ≡ k = omega arith in
            get_or-set_at now place k _ (pos 0) (sym here) room
            ∙ to_z-of_z w8 item fits
            ∙ get_or_default row first (pos 0) MAX_SAMPLE
            (omega (arith, c.stepped_row.ensures.len, c.requires.first))
            ∙ c.stepped_row.ensures.samples first c.requires.first
            ∙ get_or_default page (at place) MAX_SAMPLE (pos 0)
            (omega (arith, within, begins, c.requires.first, c.args.page.now.long))
            ∙ ap (λ m. get_or page (at m) (pos 0)) here
      ];
    }

pub returns-clause-each : goal.returns-clause-each
returns-clause-each c = λ k k_in.
    c.loop-place.invariant.each k (omega (arith, k_in, c.loop-place-test.false))
