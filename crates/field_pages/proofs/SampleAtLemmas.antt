-- How the layers' changes are those of a version: the clauses of `Version::revise` from what was done to each layer.
-- A version's sample is that of the point's layer (sample_at-layer, sample_at-row), and what is so of all samples of a
-- page is so of the samples at the page's points (sample_at-page). A layer is revised if it has what
-- the edit makes of its old samples; where all layers are, the version is (Changes-version). Layers that no point of
-- the box lies in need no revision (IsRevisedLayer-none), so it is enough to go up to the box's last one
-- (IsRevisedLayer-all).
use Rattle.std.proofs.Common.{◌≡◌, ℕ, ◌+◌, ◌*◌, ◌/◌, ◌%◌, ◌<◌, ◌≤◌, ◌↔◌, List, [], ℤ, length, get_or, refl, sym, ap, ◌∙◌, subst, arith}
use Rattle.std.proofs.lemmas.List.{get_or_default}
use Rattle.lattice.specs.declared.point.Point.{Point}
use Rattle.lattice.specs.declared.region.Region.{Region}
use Rattle.terrain.specs.declared.brush.TheConstants.{MAX_SAMPLE}
use Rattle.terrain.specs.Samples.{Field}
use Rattle.field_pages.specs.declared.page.TheConstants.{COUNT, SIDE}
use Rattle.field_pages.specs.Places.{IsInLayer, IsInPages, IsInSamePage, index_in_page, layer_at, page_at, page_number, pages_across}
use Rattle.field_pages.specs.Pages.{IsVersion, Pages, sample_at}
use Rattle.field_pages.specs.Changes.{Changes}
use Rattle.lattice.specs.Region.{IsWithin}
use Rattle.field_pages.proofs.ArePartsRevised.{ArePartsRevised, ArePartsRevised-all}
use Rattle.field_pages.proofs.ChangesLemmas.{Changes-none}

-- the sample that layers have for a point
abbrev pub layers_at : ℕ → List (List (List ℤ)) → Field
layers_at across layers p = layer_at across (get_or layers (p.z / SIDE) []) p

-- a version's sample is that of the point's layer
pub sample_at-layer : (pages : Pages) (across n : ℕ) (layer : List (List ℤ)) (p : Point)
    → across ≡ pages_across pages.depth → get_or pages.layers n [] ≡ layer → p.z / SIDE ≡ n
    → layer_at across layer p ≡ sample_at pages p
sample_at-layer pages across n layer p across_is layer_is z_is =
    let layer_now = sym layer_is ∙ ap (λ k. get_or pages.layers k []) (sym z_is) in
    λ i. layer_at (across_is i) (layer_now i) p

-- an item of a page's row is a version's sample
pub sample_at-row : (pages : Pages) (across : ℕ) (layer : List (List ℤ)) (row : List ℤ)
    (z y x_page t : ℕ) (d : ℤ) → across ≡ pages_across pages.depth
    → get_or pages.layers (z / SIDE) [] ≡ layer → length row ≡ SIDE
    → ((p : Point) → p.z ≡ z → p.y ≡ y → p.x / SIDE ≡ SIDE * x_page / SIDE
    → get_or row (p.x % SIDE) MAX_SAMPLE ≡ layer_at across layer p)
    → t < SIDE → get_or row t d ≡ sample_at pages (record { z = z; y = y; x = SIDE * x_page + t })
sample_at-row pages across layer row z y x_page t d across_is layer_is len samples t_in =
    let p : Point = record { z = z; y = y; x = SIDE * x_page + t } in
    let t_is : t ≡ p.x % SIDE = omega arith in
    get_or_default row t d MAX_SAMPLE (omega arith)
    ∙ ap (λ n. get_or row n MAX_SAMPLE) t_is
    ∙ samples p refl refl (omega arith)
    ∙ sample_at-layer pages across (z / SIDE) layer p across_is layer_is refl

-- a sample of a page is that of a point that lies in the page
sample_at-same : (pages : Pages) (across : ℕ) (layer : List (List ℤ)) (p q : Point)
    → across ≡ pages_across pages.depth → get_or pages.layers (p.z / SIDE) [] ≡ layer
    → IsInSamePage p q
    → page_at (get_or layer (page_number across p) []) q ≡ sample_at pages q
sample_at-same pages across layer p q across_is layer_is same =
    let number : page_number across p ≡ page_number across q =
    λ i. sym same.y i * across + sym same.x i in
    ap (λ n. page_at (get_or layer n []) q) number
    ∙ sample_at-layer pages across (p.z / SIDE) layer q across_is layer_is same.z

-- what is so of all samples of a page is so of those at its points, and the other way round
pub sample_at-page : (P : ℤ → Type 0) (pages : Pages) (across : ℕ) (layer : List (List ℤ))
    (p : Point) → across ≡ pages_across pages.depth
    → get_or pages.layers (p.z / SIDE) [] ≡ layer
    → ((k : ℕ) → k < COUNT → P (get_or (get_or layer (page_number across p) []) k MAX_SAMPLE))
    ↔ ((q : Point) → IsInSamePage p q → P (sample_at pages q))
sample_at-page P pages across layer p across_is layer_is =
    let page = get_or layer (page_number across p) [] in
    let point : ℕ → Point = λ k. record {
      z = p.z / SIDE * SIDE + k / 256;
      y = p.y / SIDE * SIDE + k / SIDE % SIDE;
      x = p.x / SIDE * SIDE + k % SIDE;
    } in (
      (λ all q same. subst P (sample_at-same pages across layer p q across_is layer_is same)
          (all (index_in_page q) (omega arith))),
      (λ all k k_in.
          let same : IsInSamePage p (point k) =
          record { z = omega arith; y = omega arith; x = omega arith } in
          let k_is : k ≡ index_in_page (point k) = omega arith in
          subst P (sym (ap (λ m. get_or page m MAX_SAMPLE) k_is
          ∙ sample_at-same pages across layer p (point k) across_is layer_is same))
          (all (point k) same)),
    )

-- a layer, by its number, has what an edit makes of its old samples
abbrev pub IsRevisedLayer : Region → (Point → ℤ → ℤ → Type 0) → ℕ → List (List (List ℤ)) → ℕ
    → List (List ℤ) → Type 0
IsRevisedLayer box gives across old n layer =
    n < across → (length layer ≡ across * across)
    × Changes box gives (IsInLayer across (n * SIDE))
    (layer_at across (get_or old n [])) (layer_at across layer)

-- a point of the pages lies in the layer of its height
in_layer : (across : ℕ) (p : Point) → IsInPages across p → IsInLayer across (p.z / SIDE * SIDE) p
in_layer across p p_in =
    record { z = omega arith; z_end = omega arith; y_end = p_in.y_end; x_end = p_in.x_end }

-- where all layers are revised, the version is
pub Changes-version : (box : Region) (gives : Point → ℤ → ℤ → Type 0) (across : ℕ)
    (old new : List (List (List ℤ)))
    → ((n : ℕ) → IsRevisedLayer box gives across old n (get_or new n []))
    → Changes box gives (IsInPages across) (layers_at across old) (layers_at across new)
Changes-version box gives across old new layers = record {
  changed = λ p here within.
      let layer = layers (p.z / SIDE) (omega (arith, here.z_end)) in
      layer.1.changed p (in_layer across p here) within;
  kept = λ p here off.
      let layer = layers (p.z / SIDE) (omega (arith, here.z_end)) in
      layer.1.kept p (in_layer across p here) off;
}

-- a layer that no point of the box lies in needs no revision
pub IsRevisedLayer-none : (box : Region) (gives : Point → ℤ → ℤ → Type 0) (old : Pages)
    (across n : ℕ) → IsVersion old → across ≡ pages_across old.depth
    → ((p : Point) → IsInLayer across (n * SIDE) p → IsWithin box p → ⊥)
    → IsRevisedLayer box gives across old.layers n (get_or old.layers n [])
IsRevisedLayer-none box gives old across n sound across_is none n_in = (
  sound.rows n (omega (arith, n_in, across_is)) ∙ ap (λ a. a * a) (sym across_is),
  Changes-none box gives (IsInLayer across (n * SIDE)) (layer_at across (get_or old.layers n []))
      none,
)

-- once the layers up to the box's last one are revised, all are
pub IsRevisedLayer-all : (box : Region) (gives : Point → ℤ → ℤ → Type 0) (old : Pages)
    (across k : ℕ) (new : List (List (List ℤ))) → IsVersion old → across ≡ pages_across old.depth
    → box.hi.z / SIDE + 1 ≤ k
    → ArePartsRevised (IsRevisedLayer box gives across old.layers) [] k old.layers new
    → (n : ℕ) → IsRevisedLayer box gives across old.layers n (get_or new n [])
IsRevisedLayer-all box gives old across k new sound across_is past so_far =
    ArePartsRevised-all (IsRevisedLayer box gives across old.layers) [] k old.layers new
    (λ n after. IsRevisedLayer-none box gives old across n sound across_is
    (λ p p_in within. omega (arith, p_in.z, within.z_end, after, past))) so_far
