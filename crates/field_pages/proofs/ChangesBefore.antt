-- How far an edit has come in a page: its points are taken row by row, and `ChangesBefore` says which are done.
-- A page's points are numbered in the order in which it keeps them, by z, then y, then x (order). Those of the box with
-- a number below the present one have what the edit gives, and all others their old sample. It starts with nothing
-- (start), goes on where no point of the box lies between (move), and by a row of points (row): on the row the new
-- samples are given, off it nothing changed. Past the last point it is what an edit of the page has to be
-- (Changes-from).
use Rattle.std.proofs.Common.{◌≡◌, ℕ, ◌+◌, ◌-◌, ◌*◌, ◌%◌, ◌<◌, ◌≤◌, List, ℤ, length, get_or, sym, ap, subst, ◌∙◌, inl, inr, arith}
use Rattle.std.proofs.lemmas.Bool.{cases_lt}
use Rattle.lattice.specs.declared.point.Point.{Point}
use Rattle.lattice.specs.declared.region.Region.{Region}
use Rattle.lattice.specs.declared.point.Axis.TheVariants.{X}
use Rattle.lattice.specs.Point.{moved}
use Rattle.terrain.specs.declared.brush.TheConstants.{MAX_SAMPLE}
use Rattle.field_pages.specs.declared.page.TheConstants.{SIDE, COUNT}
use Rattle.field_pages.specs.Places.{IsCorner, IsInPage, page_at, index_in_page}
use Rattle.field_pages.specs.Changes.{Changes}
use Rattle.lattice.specs.Region.{IsWithin}

-- a number by which the points of a page are in their order
abbrev pub order : Point → ℕ
order p = (p.z * SIDE + p.y) * SIDE + p.x

-- the points before this one have what the edit gives, and the others their old sample
pub record ChangesBefore (box : Region) (gives : Point → ℤ → ℤ → Type 0) (corner : Point) (here : ℕ)
    (old new : List ℤ) : Type 0 where
  pub long : length new ≡ COUNT
  pub changed : (p : Point) → IsInPage corner p → IsWithin box p → order p < here
      → gives p (page_at old p) (page_at new p)
  pub kept : (p : Point) → IsInPage corner p → (IsWithin box p → here ≤ order p)
      → page_at new p ≡ page_at old p

-- points with the same coordinates are the same
pub same_point : (a b : Point) → a.z ≡ b.z → a.y ≡ b.y → a.x ≡ b.x → a ≡ b
same_point a b z y x = λ i. record { z = z i; y = y i; x = x i }

-- at first nothing is changed
pub ChangesBefore-start : (box : Region) (gives : Point → ℤ → ℤ → Type 0) (corner : Point)
    (here : ℕ) (old new : List ℤ) → length new ≡ COUNT → new ≡ old
    → ((p : Point) → IsInPage corner p → IsWithin box p → here ≤ order p)
    → ChangesBefore box gives corner here old new
ChangesBefore-start box gives corner here old new long same all_after = record {
  long = long;
  changed = λ p p_in p_within before. let after = all_after p p_in p_within in absurd (omega arith);
  kept = λ p p_in later. ap (λ items. page_at items p) same;
}

-- it goes on to another number where no point of the box lies between
pub ChangesBefore-move : (box : Region) (gives : Point → ℤ → ℤ → Type 0) (corner : Point)
    (here there : ℕ) (old new : List ℤ)
    → ((p : Point) → IsInPage corner p → IsWithin box p → order p < there → order p < here)
    → ((p : Point) → IsInPage corner p → IsWithin box p → there ≤ order p → here ≤ order p)
    → ChangesBefore box gives corner here old new → ChangesBefore box gives corner there old new
ChangesBefore-move box gives corner here there old new back forth so_far = record {
  long = so_far.long;
  changed = λ p p_in p_within before. so_far.changed p p_in p_within (back p p_in p_within before);
  kept = λ p p_in later. so_far.kept p p_in (λ p_within. forth p p_in p_within (later p_within));
}

-- a point's place and its number in the order
place_is : (corner p : Point) → IsCorner corner → IsInPage corner p
    → index_in_page p + order corner ≡ order p
place_is corner p at p_in =
    let z : p.z % SIDE + corner.z ≡ p.z = omega arith in
    let y : p.y % SIDE + corner.y ≡ p.y = omega arith in
    let x : p.x % SIDE + corner.x ≡ p.x = omega arith in
    omega arith

-- a row more: so many points from this one on, which are the box's points of the row
pub ChangesBefore-row : (box : Region) (gives : Point → ℤ → ℤ → Type 0) (corner from : Point)
    (count : ℕ) (old items new : List ℤ)
    → IsCorner corner → IsInPage corner from → from.x + count ≤ corner.x + SIDE
    → length new ≡ length items
    → ((p : Point) → IsInPage corner p → IsWithin box p → p.z ≡ from.z → p.y ≡ from.y
    → (from.x ≤ p.x) × (p.x < from.x + count))
    → ((t : ℕ) → t < count → gives (moved X t from) (page_at items (moved X t from))
    (page_at new (moved X t from)))
    → ((k : ℕ) (d : ℤ) → (index_in_page from ≤ k → k < index_in_page from + count → ⊥)
    → get_or new k d ≡ get_or items k d)
    → ((t : ℕ) → t < count → IsWithin box (moved X t from))
    → ChangesBefore box gives corner (order from) old items
    → ChangesBefore box gives corner (order from + count) old new
ChangesBefore-row box gives corner from count old items new at from_in fits same_length in_row given
    same within so_far =
    let from_place = place_is corner from at from_in in
    let off : (p : Point) → IsInPage corner p → (order from ≤ order p → order p < order from + count
    → ⊥) → page_at new p ≡ page_at items p = λ p p_in apart.
    let p_place = place_is corner p at p_in in
    same (index_in_page p) MAX_SAMPLE (λ after before. apart (omega arith) (omega arith))
    in
    let on : (p : Point) → IsInPage corner p → order from ≤ order p → order p < order from + count
    → (p.z ≡ from.z) × (p.y ≡ from.y) × (from.x ≤ p.x) × (p.x < from.x + count) =
    λ p p_in after before.
    (omega arith, omega arith, omega arith, omega arith)
    in
    record {
      long = same_length ∙ so_far.long;
      changed = λ p p_in p_within before. elim (cases_lt (order p) (order from)) [
        | inl earlier ↦
            subst (λ r. gives p (page_at old p) r) (sym (off p p_in (λ after _. omega arith)))
            (so_far.changed p p_in p_within earlier)
        | inr not_earlier ↦
            let row = on p p_in not_earlier before in
            let t : ℕ = p.x - from.x in
            let here : moved X t from ≡ p = same_point _ _ (sym row.0) (sym row.1) (omega arith) in
            let t_in : t < count = omega arith in
            let old_is : page_at items p ≡ page_at old p = so_far.kept p p_in (λ w. not_earlier) in
            subst (λ s. gives p s (page_at new p)) old_is
            (subst (λ r. gives r (page_at items r) (page_at new r)) here (given t t_in))
      ];
      kept = λ p p_in later.
          let apart : order from ≤ order p → order p < order from + count → ⊥ = λ after before.
          let row = on p p_in after before in
          let t : ℕ = p.x - from.x in
          let here : moved X t from ≡ p = same_point _ _ (sym row.0) (sym row.1) (omega arith) in
          let l = later (subst (IsWithin box) here (within t (omega arith))) in
          omega arith
          in
          off p p_in apart ∙ so_far.kept p p_in (λ w. let l = later w in omega arith);
    }

-- at the end all points of the box are changed
pub Changes-from : (box : Region) (gives : Point → ℤ → ℤ → Type 0) (corner : Point) (here : ℕ)
    (old new : List ℤ)
    → ((p : Point) → IsInPage corner p → IsWithin box p → order p < here)
    → ChangesBefore box gives corner here old new
    → Changes box gives (IsInPage corner) (page_at old) (page_at new)
Changes-from box gives corner here old new all_before so_far = record {
  changed = λ p p_in p_within. so_far.changed p p_in p_within (all_before p p_in p_within);
  kept = λ p p_in off. so_far.kept p p_in (λ w. absurd (off w));
}
