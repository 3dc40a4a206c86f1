-- One more value is the row's.
use Rattle.std.proofs.Common.{rules, ◌≡◌, ◌<◌, ℕ, ℤ, pos, length, get_or, ◌∙◌, arith, FitsSigned, w8, to_z, of_z}
use Rattle.std.proofs.lemmas.Int.{to_z-of_z}
use Rattle.std.proofs.lemmas.List.{get_or_default}
use Rattle.terrain.specs.declared.brush.TheConstants.{MAX_SAMPLE}
use Rattle.brushes.proofs.RowLemmas.{made_more}
use Rattle.brushes.proofs.shape.copy.Goals as goal

pub loop-t-preserved : goal.loop-t-preserved
loop-t-preserved c =
    let row = c.args.row.now in
    let t = c.loop-t.t in
    let t_in : t < length c.loop-t.values = omega arith in
    let within : t < length row = omega arith in
    let x : ℤ = get_or row t (pos 0) in
    let fits : FitsSigned w8 x = search rules in
    let made : to_z w8 (of_z w8 x) ≡ get_or row t MAX_SAMPLE =
    to_z-of_z w8 x fits ∙ get_or_default row t (pos 0) MAX_SAMPLE within in
    made_more (λ (t : ℕ) (v : ℤ). v ≡ get_or row t MAX_SAMPLE)
    c.loop-t.values t (to_z w8 (of_z w8 x)) t_in made c.loop-t.invariant
