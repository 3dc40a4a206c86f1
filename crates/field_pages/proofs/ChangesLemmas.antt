-- What follows from what an edit changes.
use Rattle.std.proofs.Common.{◌≡◌, ℤ, refl, sym, subst, ◌∙◌}
use Rattle.lattice.specs.declared.point.Point.{Point}
use Rattle.lattice.specs.declared.region.Region.{Region}
use Rattle.terrain.specs.Samples.{Field}
use Rattle.field_pages.specs.Changes.{Changes, Makes}
use Rattle.lattice.specs.Region.{IsWithin}

-- where no point of the box is, nothing changes
pub Changes-none : (box : Region) (gives : Point → ℤ → ℤ → Type 0) (IsHere : Point → Type 0)
    (s : Field) → ((p : Point) → IsHere p → IsWithin box p → ⊥) → Changes box gives IsHere s s
Changes-none box gives IsHere s none = record {
  changed = λ p here within. absurd (none p here within);
  kept = λ p here off. refl;
}

-- the same changes, with other names for the old and the new samples
pub Changes-same : (box : Region) (gives : Point → ℤ → ℤ → Type 0) (IsHere IsThere : Point → Type 0)
    (old new old' new' : Field) → ((p : Point) → IsThere p → IsHere p)
    → ((p : Point) → IsThere p → old' p ≡ old p) → ((p : Point) → IsThere p → new' p ≡ new p)
    → Changes box gives IsHere old new → Changes box gives IsThere old' new'
Changes-same box gives IsHere IsThere old new old' new' part old_is new_is changes = record {
  changed = λ p there within.
      subst (λ s. gives p s (new' p)) (sym (old_is p there))
      (subst (gives p (old p)) (sym (new_is p there)) (changes.changed p (part p there) within));
  kept = λ p there off.
      new_is p there ∙ changes.kept p (part p there) off ∙ sym (old_is p there);
}

-- what is made is given
pub Changes-given : (box : Region) (gives : Point → ℤ → ℤ → Type 0) (IsHere : Point → Type 0)
    (old new : Field) → Changes box (Makes gives) IsHere old new → Changes box gives IsHere old new
Changes-given box gives IsHere old new changes = record {
  changed = λ p here within. let made = changes.changed p here within in made.given;
  kept = changes.kept;
}
