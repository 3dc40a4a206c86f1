-- How the pages' changes are those of their layer.
use Rattle.std.proofs.Common.{◌≡◌, ℕ, List, [], ℤ, get_or, sym, subst}
use Rattle.lattice.specs.declared.point.Point.{Point}
use Rattle.lattice.specs.declared.region.Region.{Region}
use Rattle.field_pages.specs.Places.{IsInLayer, IsInPage, layer_at, page_at, page_number}
use Rattle.field_pages.specs.Changes.{Changes}
use Rattle.field_pages.proofs.PlacesLemmas.{corner_of, in_page}

-- a page of a layer, by its number, has what an edit makes of its old samples
abbrev pub IsRevisedPage : Region → (Point → ℤ → ℤ → Type 0) → ℕ → ℕ → List (List ℤ) → ℕ → List ℤ
    → Type 0
IsRevisedPage box gives across low old n page =
    Changes box gives (IsInPage (corner_of across low n)) (page_at (get_or old n [])) (page_at page)

-- a page has what an edit makes of the page of its number
pub IsRevisedPage-at : (box : Region) (gives : Point → ℤ → ℤ → Type 0) (across low : ℕ)
    (old : List (List ℤ)) (n : ℕ) (corner : Point) (before after : List ℤ)
    → corner ≡ corner_of across low n → get_or old n [] ≡ before
    → Changes box gives (IsInPage corner) (page_at before) (page_at after)
    → IsRevisedPage box gives across low old n after
IsRevisedPage-at box gives across low old n corner before after corner_is before_is changes =
    subst (λ b. Changes box gives (IsInPage (corner_of across low n)) (page_at b) (page_at after))
    (sym before_is)
    (subst (λ q. Changes box gives (IsInPage q) (page_at before) (page_at after)) corner_is changes)

-- where all pages are revised, the layer is
pub Changes-layer : (box : Region) (gives : Point → ℤ → ℤ → Type 0) (across low : ℕ)
    (old new : List (List ℤ))
    → ((n : ℕ) → IsRevisedPage box gives across low old n (get_or new n []))
    → Changes box gives (IsInLayer across low) (layer_at across old) (layer_at across new)
Changes-layer box gives across low old new pages = record {
  changed = λ p here within.
      let page = pages (page_number across p) in
      page.changed p (in_page across low p here) within;
  kept = λ p here off.
      let page = pages (page_number across p) in
      page.kept p (in_page across low p here) off;
}
