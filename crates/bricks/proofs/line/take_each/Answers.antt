-- One sample more is taken.
use Rattle.std.proofs.Common.{◌≡◌, ℕ, ◌+◌, ◌*◌, ◌<◌, pos, length, get_or, w8, of_z, to_z, refl, sym, ap, ◌∙◌, inl, inr, arith}
use Rattle.std.proofs.lemmas.Bool.{cases_lt}
use Rattle.std.proofs.lemmas.Grind.{get_or-set_at}
use Rattle.std.proofs.lemmas.Int.{to_z-of_z}
use Rattle.std.proofs.lemmas.List.{get_or-set_other, get_or_default, length-set}
use Rattle.terrain.specs.declared.brush.TheConstants.{MAX_SAMPLE}
use Rattle.field_pages.specs.PageRows.{lent_samples}
use Rattle.bricks.proofs.line.take_each.Goals as goal

pub loop-place-init : goal.loop-place-init
loop-place-init c = record { long = refl; each = λ k k_in. absurd (omega arith) }

pub sample-requires : goal.sample-requires
sample-requires c = c.requires c.loop-place.place (omega (arith, c.loop-place-test.true))

pub loop-place-preserved : goal.loop-place-preserved
loop-place-preserved c =
    let place = c.loop-place.place in
    let now = c.loop-place.taken in
    let page = lent_samples c.args.page.now in
    let at : ℕ → ℕ = λ k. c.args.from + c.args.step * k in
    let within = c.requires place (omega (arith, c.loop-place-test.true)) in
    let room : place < length now =
    omega (arith, c.loop-place.invariant.long, c.loop-place-test.true) in
    let told : to_z w8 (of_z w8 c.sample.result) ≡ c.sample.result =
    to_z-of_z w8 c.sample.result (record { sfits = c.sample.type_inv }) in
    record {
      long = length-set now place _ ∙ c.loop-place.invariant.long;
      each = λ k k_in. elim (cases_lt k place) [
        | inl before ↦
            get_or-set_other now place k _ (pos 0) (λ e. omega (arith, e, before))
            ∙ c.loop-place.invariant.each k before
        | inr after ↦
            let here : place ≡ k = omega arith in
            get_or-set_at now place k _ (pos 0) (sym here) room
            ∙ told ∙ c.sample.ensures ∙ get_or_default page (at place) MAX_SAMPLE (pos 0)
            (omega (arith, within, c.args.page.now.long))
            ∙ ap (λ m. get_or page (at m) (pos 0)) here
      ];
    }

pub returns-clause-each : goal.returns-clause-each
returns-clause-each c = λ k k_in.
    c.loop-place.invariant.each k (omega (arith, k_in, c.loop-place-test.false))
