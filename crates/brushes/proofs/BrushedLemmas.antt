-- A version in which a rule made what a brush does, in some box about the brush's region, is what the brush makes of
-- the old one (`brushed`). In the box the rule says so, and off it the version keeps its samples, which the brush keeps
-- too. In the box but off the region the brush makes of each sample that same one: so the version keeps these as well
-- (`kept_at`).
use Rattle.std.proofs.Common.{◌≡◌, Bool, false, inl, inr, sym, ◌∙◌, subst}
use Rattle.std.specs.Prelude.{ℤ, IfOk, Result, Ok, Err}
use Rattle.std.proofs.lemmas.Bool.{cases_Bool}
use Rattle.lattice.specs.declared.point.Point.{Point}
use Rattle.lattice.specs.declared.region.Region.{Region}
use Rattle.lattice.specs.Laws.{PointsAreTested}
use Rattle.lattice.specs.Point.{IsInWorld}
use Rattle.lattice.specs.Region.{IsWithin, is_within}
use Rattle.terrain.specs.declared.brush.Brush.{Brush}
use Rattle.terrain.specs.Brushes.{IsLawful, after_brush, region}
use Rattle.terrain.specs.Samples.{Field, IsSample}
use Rattle.field_laws.specs.Laws.{BrushesKeepSamples, BrushesReadTheWorld}
use Rattle.field_pages.specs.Changes.{Changes}
use Rattle.field_pages.specs.Pages.{HoldsField, HoldsSamples, Pages, sample_at}
use Rattle.brushes.specs.Brushed.{IsBrushed}

-- what two facts of a value that may be there say together
pub both_ok : {A E : Type 0} (r : Result A E) (P Q R : A → Type 0) → ((x : A) → P x → Q x → R x)
    → IfOk r P → IfOk r Q → IfOk r R
both_ok (Ok x) P Q R so p q = so x p q
both_ok (Err e) P Q R so p q = q

module _ (brush : Brush) (area : Region) (old new : Pages) (gives : Point → ℤ → ℤ → Type 0)
    (tested : PointsAreTested) (reads : BrushesReadTheWorld) (keeps : BrushesKeepSamples)
    (lawful : IsLawful old.depth brush) (range : HoldsSamples old)
    (whole : (p : Point) → IsWithin (region old.depth brush) p → IsWithin area p)
    (made : (p : Point) (s : ℤ) → IsWithin area p
    → gives p (sample_at old p) s → s ≡ after_brush old.depth brush (sample_at old) p) where
  -- a point that isn't in the region, as a test
  is_off : (p : Point) → (IsWithin (region old.depth brush) p → ⊥)
      → is_within (region old.depth brush) p ≡ false
  is_off p apart =
      elim (cases_Bool (is_within (region old.depth brush) p)) [
        | inl on ↦ absurd (apart ((tested (region old.depth brush) p).0 on))
        | inr off ↦ off
      ]

  -- the sample at a point of a field that the old version has
  rule_at : Changes area gives (IsInWorld old.depth) (sample_at old) (sample_at new)
      → (s : Field) → HoldsField old s → (p : Point) → IsInWorld old.depth p
      → sample_at new p ≡ after_brush old.depth brush s p
  rule_at changes s holds p inside =
      elim (cases_Bool (is_within area p)) [
        | inl on ↦
            (let within = (tested area p).0 on in
            made p (sample_at new p) within (changes.changed p inside within)
            ∙ reads old.depth brush (sample_at old) s holds p inside)
        | inr off ↦
            (let apart = λ (within : IsWithin area p).
            let on = (tested area p).1 within in absurd (cc) in
            changes.kept p inside apart ∙ holds p inside
            ∙ sym (keeps old.depth brush s p lawful inside
            (subst IsSample (holds p inside) (range p inside))
            (is_off p (λ within. apart (whole p within)))))
      ]

  -- the sample at a point off the region, where the brush makes of each sample that same one
  kept_at : Changes area gives (IsInWorld old.depth) (sample_at old) (sample_at new)
      → (p : Point) → IsInWorld old.depth p → (IsWithin (region old.depth brush) p → ⊥)
      → sample_at new p ≡ sample_at old p
  kept_at changes p inside apart =
      elim (cases_Bool (is_within area p)) [
        | inl on ↦
            (let within = (tested area p).0 on in
            made p (sample_at new p) within (changes.changed p inside within)
            ∙ keeps old.depth brush (sample_at old) p lawful inside (range p inside)
            (is_off p apart))
        | inr off ↦
            changes.kept p inside (λ (within : IsWithin area p).
            let on = (tested area p).1 within in absurd (cc))
      ]

  -- the version as a whole
  pub brushed : new.depth ≡ old.depth
      → Changes area gives (IsInWorld old.depth) (sample_at old) (sample_at new)
      → IsBrushed brush old new
  brushed depth changes = record {
    depth = depth;
    rule = λ s holds p inside. rule_at changes s holds p
        (subst (λ d. IsInWorld d p) depth inside);
    kept = kept_at changes;
  }
