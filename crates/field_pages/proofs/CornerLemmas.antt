-- The samples at the low corners of a layer's pages, which the layer keeps beside them.
--
-- Pages that have the greatest sample have it at their corners (corners-empty). What is kept at a page's number is the
-- page's first sample (corner-read), which is the layer's at the page's low corner (layer_at-corner). So the items of a
-- row of pages are the layer's samples there (corners-row).
use Rattle.std.proofs.Common.{◌≡◌, ℕ, ◌+◌, ◌*◌, ◌/◌, ◌%◌, ◌<◌, ◌≤◌, List, [], ℤ, get_or, length, replicate, take, drop, sym, ap, ◌∙◌, arith}
use Rattle.std.proofs.Math.Nat.{mul-le-mul_right}
use Rattle.std.proofs.lemmas.List.{get_or-map, get_or-replicate, length-map, length-replicate, same_lists}
use Rattle.lattice.specs.declared.point.Point.{Point}
use Rattle.terrain.specs.declared.brush.TheConstants.{MAX_SAMPLE}
use Rattle.field_pages.specs.declared.page.TheConstants.{SIDE}
use Rattle.field_pages.specs.Places.{corner_samples, layer_at, page_at, page_corner}
use Rattle.field_pages.proofs.SliceLemmas.{get_or-part}

-- a page's first sample
abbrev first : List ℤ → ℤ
first page = get_or page 0 MAX_SAMPLE

-- what is kept at a page's number
pub corner-read : (pages : List (List ℤ)) (corners : List ℤ) (n : ℕ) (d : ℤ)
    → corners ≡ corner_samples pages → n < length pages
    → get_or corners n d ≡ first (get_or pages n [])
corner-read pages corners n d are n_in =
    ap (λ l. get_or l n d) are ∙ get_or-map first pages n [] d n_in

-- pages that have the greatest sample
pub corners-empty : (pages : List (List ℤ)) (corners : List ℤ) (count : ℕ)
    → corners ≡ replicate count MAX_SAMPLE → length pages ≡ count
    → ((n : ℕ) (p : Point) → n < count → page_at (get_or pages n []) p ≡ MAX_SAMPLE)
    → corners ≡ corner_samples pages
corners-empty pages corners count are long each =
    are ∙ same_lists (replicate count MAX_SAMPLE) (corner_samples pages)
    (length-replicate count MAX_SAMPLE ∙ sym (length-map pages first ∙ long)) (λ k d k_in.
    let within : k < count = omega (arith, k_in, length-replicate count MAX_SAMPLE) in
    let k_page : k < length pages = omega (arith, within, long) in
    get_or-replicate count k MAX_SAMPLE d within
    ∙ sym (get_or-map first pages k [] d k_page
    ∙ each k (record { z = 0; y = 0; x = 0 }) within))

-- the sample of a layer at the low corner of a page
pub layer_at-corner : (across : ℕ) (layer : List (List ℤ)) (q : Point)
    → layer_at across layer (page_corner q)
    ≡ first (get_or layer (q.y / SIDE * across + q.x / SIDE) [])
layer_at-corner across layer q =
    let y : q.y / SIDE * SIDE / SIDE ≡ q.y / SIDE = omega arith in
    let x : q.x / SIDE * SIDE / SIDE ≡ q.x / SIDE = omega arith in
    let z_low : q.z / SIDE * SIDE % SIDE ≡ 0 = omega arith in
    let y_low : q.y / SIDE * SIDE % SIDE ≡ 0 = omega arith in
    let x_low : q.x / SIDE * SIDE % SIDE ≡ 0 = omega arith in
    λ i. get_or (get_or layer (y i * across + x i) [])
    ((z_low i * SIDE + y_low i) * SIDE + x_low i) MAX_SAMPLE

-- the items of a row of pages
pub corners-row : (across n y : ℕ) (layer : List (List ℤ)) (corners : List ℤ) (q : Point)
    → corners ≡ corner_samples layer → length layer ≡ across * across → y < SIDE * across
    → n ≡ across → q.y / SIDE ≡ y / SIDE → q.x / SIDE < across
    → get_or (take n (drop (y / SIDE * across) corners)) (q.x / SIDE) MAX_SAMPLE
    ≡ layer_at across layer (page_corner q)
corners-row across n y layer corners q are long y_in count row column =
    let rows : y / SIDE + 1 ≤ across = omega (arith, y_in) in
    let within : y / SIDE * across + q.x / SIDE < length layer =
    omega (arith, mul-le-mul_right across rows, column, long) in
    get_or-part (y / SIDE * across) across n (q.x / SIDE) corners MAX_SAMPLE column count
    ∙ corner-read layer corners (y / SIDE * across + q.x / SIDE) MAX_SAMPLE are within
    ∙ ap (λ r. first (get_or layer (r * across + q.x / SIDE) [])) (sym row)
    ∙ sym (layer_at-corner across layer q)
