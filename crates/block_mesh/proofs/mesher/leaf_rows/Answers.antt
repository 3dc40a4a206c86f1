-- The sign words so far are those of the rows.
use Rattle.std.proofs.Common.{◌≡◌, ℕ, ◌+◌, ◌-◌, ◌*◌, ◌<◌, ◌∙◌, arith, drop, inl, inr, sym, ap, length, set, get_or, get_or-set_same, get_or-set_other, length-set, refl}
use Rattle.std.proofs.lemmas.Bool.{cases_lt}
use Rattle.std.proofs.lemmas.List.Elements.{All-drop, All-take}
use Rattle.terrain.specs.Samples.{IsSample}
use Rattle.block_mesh.proofs.OneSignLemmas.{leaf_row}
use Rattle.block_mesh.proofs.mesher.leaf_rows.Goals as goal

pub loop-row-init : goal.loop-row-init
loop-row-init c = record {
  whole = refl;
  rows = λ s has z y z_in y_in before. absurd (omega (arith, before));
}

pub row_signs-requires-clause-range : goal.row_signs-requires-clause-range
row_signs-requires-clause-range c =
    let samples = c.samples-samples.result.now in
    let at : ℕ = c.loop-row.row * 17 in
    All-take IsSample (at + 17 - at) (drop at samples)
    (All-drop IsSample at samples c.samples-samples.ensures.range)

pub loop-row-preserved : goal.loop-row-preserved
loop-row-preserved c =
    let rows = c.loop-row.rows in
    let row = c.loop-row.row in
    let signs = c.row_signs.result in
    record {
      whole = length-set rows row signs ∙ c.loop-row.invariant.whole;
      rows = λ s has z y z_in y_in before.
          let at : ℕ = z * 17 + y in
          elim (cases_lt at row) [
            | inl earlier ↦
                get_or-set_other rows row at signs 0 (omega arith)
                ∙ c.loop-row.invariant.rows s has z y z_in y_in earlier
            | inr last ↦
                let same : at ≡ row = omega (arith, before) in
                let here : row < length rows =
                omega (arith, c.loop-row.invariant.whole, c.loop-row-test.true) in
                ap (λ k. get_or (set rows row signs) k 0) same
                ∙ get_or-set_same rows row signs 0 here
                ∙ c.row_signs.ensures
                ∙ leaf_row s c.args.brick.now.node c.samples-samples.result.now
                (c.samples-samples.ensures.value ∙ has.leaf) z y (row * 17) (row * 17 + 17)
                z_in y_in
                (ap (λ k. k * 17) (sym same)) refl
          ];
    }

pub returns : goal.returns
returns c = λ s has z y z_in y_in.
    c.loop-row.invariant.rows s has z y z_in y_in
    (omega (arith, c.loop-row-test.false, z_in, y_in))
