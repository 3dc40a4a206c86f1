-- One more sample is the function's.
use Rattle.std.proofs.Common.{rules, arith, ◌≡◌, ◌≢◌, ◌<◌, ℕ, ℤ, ◌∙◌, sym, subst, length, get_or, set, FitsSigned, w8, to_z, of_z, inl, inr}
use Rattle.std.proofs.lemmas.Bool.{cases_lt}
use Rattle.std.proofs.lemmas.Int.{to_z-of_z}
use Rattle.std.proofs.lemmas.List.{get_or-set_same, get_or-set_other}
use Rattle.lattice.specs.declared.point.Axis.TheVariants.{X}
use Rattle.lattice.specs.Point.{moved}
use Rattle.terrain.specs.declared.brush.TheConstants.{MAX_SAMPLE}
use Rattle.field_pages.specs.Changes.{Makes}
use Rattle.field_pages.proofs.rule.ByPointRule.apply.Goals as goal

pub loop-x-preserved : goal.loop-x-preserved
loop-x-preserved g c t t_in =
    let row = c.loop-x.row in
    let x = c.loop-x.x in
    let v = to_z w8 (of_z w8 c.f.result) in
    let fits : FitsSigned w8 c.f.result = search rules in
    let initial = c.args.row.now in
    let IsMade : ℕ → ℤ → Type 0 =
    λ n r. Makes (λ p old new. g.F.Fn.post c.args.self.now.f.now (p, tt) new)
    (moved X n c.args.from) (get_or initial n MAX_SAMPLE) r in
    elim (cases_lt t x) [
      | inl before ↦
          let other : t ≢ x = omega arith in
          subst (IsMade t) (sym (get_or-set_other row x t v MAX_SAMPLE other))
          (c.loop-x.invariant t before)
      | inr past ↦
          let here : x ≡ t = omega arith in
          let within : x < length row = omega arith in
          let stored : get_or (set row x v) x MAX_SAMPLE ≡ c.f.result =
          get_or-set_same row x v MAX_SAMPLE within ∙ to_z-of_z w8 c.f.result fits in
          let takes = c.requires.points x (omega arith) in
          let made : IsMade x c.f.result =
          record { given = c.f.ensures; is_sample = takes.1 c.f.result c.f.ensures } in
          subst (λ n. IsMade n (get_or (set row x v) n MAX_SAMPLE)) here
          (subst (IsMade x) (sym stored) made)
    ]
