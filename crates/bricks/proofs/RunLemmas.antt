-- Rows of a page that are copied by vectors: a load, a choice of lanes, and a store.
--
-- For `copy_row`, `copy_half_row` and `copy_quarter_row`. A lane holds a sample's bits, and a sample fits 8 bits with
-- its sign (`lane-is`). So the row that is stored has the page's samples (`whole-row`), or each second or fourth of
-- them (`some-row` with the table of lanes), and all else stays (`keeps-chunk`).
use Rattle.std.proofs.Common.{◌≡◌, ℕ, zero, suc, ◌+◌, ◌*◌, ◌<◌, ◌≤◌, inl, inr, List, [], ◌∷◌, ◌++◌, ℤ, pos, map, length, get_or, SFits, w8, to_z, of_z, refl, ap, ◌∙◌, arith, rules}
use Rattle.std.specs.Prelude.{All}
use Rattle.std.proofs.lemmas.Bool.{cases_lt}
use Rattle.std.proofs.lemmas.Int.{to_z-of_z}
use Rattle.std.proofs.lemmas.List.{get_or-map, get_or_append_left, length-map}
use Rattle.std.proofs.lemmas.List.Elements.{All-get_or}
use Rattle.std.proofs.lemmas.Simd.{get_or-chunk, get_or-put_chunk_above, get_or-put_chunk_at, get_or-put_chunk_below, length-chunk, length-put_chunk}
use Rattle.std.specs.Simd.Lanes.{chunk, pick_l, put_chunk}
use Rattle.terrain.specs.Samples.{IsSample}
use Rattle.bricks.specs.Parts.{KeepsOthers}

-- a sample fits
pub sample-fits : (v : ℤ) → IsSample v → SFits w8 v
sample-fits v range = search (rules, range.low, range.high)

-- the lanes of a page's row
abbrev pub lanes : List ℤ → ℕ → List ℕ
lanes page from = map (of_z w8) (chunk from 16 page)

-- there are 16
pub length-lanes : (page : List ℤ) (from : ℕ) → from + 16 ≤ length page
    → length (lanes page from) ≡ 16
length-lanes page from within =
    length-map (chunk from 16 page) (of_z w8) ∙ length-chunk from 16 page within

-- a lane is a sample of the page
pub lane-is : (page : List ℤ) (from k : ℕ) → from + 16 ≤ length page → k < 16
    → All IsSample page
    → to_z w8 (get_or (lanes page from) k 0) ≡ get_or page (from + k) (pos 0)
lane-is page from k within k_in range =
    ap (to_z w8) (get_or-map (of_z w8) (chunk from 16 page) k (pos 0) 0
    (omega (arith, k_in, length-chunk from 16 page within))
    ∙ ap (of_z w8) (get_or-chunk from 16 page k (pos 0) k_in))
    ∙ to_z-of_z w8 (get_or page (from + k) (pos 0)) (sample-fits (get_or page (from + k) (pos 0))
    (All-get_or IsSample page (from + k) (pos 0) (omega (arith, within, k_in)) range))

-- a row that is copied whole has the page's samples
pub whole-row : (page old : List ℤ) (from to k : ℕ) → from + 16 ≤ length page
    → to + 16 ≤ length old → k < 16 → All IsSample page
    → get_or (put_chunk to old (map (to_z w8) (lanes page from))) (to + k) (pos 0)
    ≡ get_or page (from + k) (pos 0)
whole-row page old from to k within room k_in range =
    let long : length (map (to_z w8) (lanes page from)) ≡ 16 =
    length-map (lanes page from) (to_z w8) ∙ length-lanes page from within in
    get_or-put_chunk_at to old (map (to_z w8) (lanes page from)) k (pos 0)
    (omega (arith, k_in, long)) (omega (arith, room, long))
    ∙ get_or-map (to_z w8) (lanes page from) k 0 (pos 0)
    (omega (arith, k_in, length-lanes page from within))
    ∙ lane-is page from k within k_in range

-- the lanes of a page's row at these places
abbrev pub picked : List ℤ → ℕ → List ℕ → List ℤ
picked page from places = map (to_z w8) (pick_l 0 (lanes page from ++ lanes page from) places)

-- there are as many
pub length-picked : (page : List ℤ) (from : ℕ) (places : List ℕ)
    → length (picked page from places) ≡ length places
length-picked page from places =
    length-map (pick_l 0 (lanes page from ++ lanes page from) places) (to_z w8)
    ∙ length-map places (λ k. get_or (lanes page from ++ lanes page from) k 0)

-- a row of which some samples are copied has those of the page, `stride` apart
pub some-row : (page old : List ℤ) (from to stride k : ℕ) (places : List ℕ)
    → from + 16 ≤ length page → to + length places ≤ length old → k < length places
    → get_or places k 0 ≡ stride * k → stride * k < 16
    → All IsSample page
    → get_or (put_chunk to old (picked page from places)) (to + k) (pos 0)
    ≡ get_or page (from + stride * k) (pos 0)
some-row page old from to stride k places within room k_in at at_in range =
    let row : List ℕ = lanes page from in
    let long = length-picked page from places in
    get_or-put_chunk_at to old (picked page from places) k (pos 0)
    (omega (arith, k_in, long)) (omega (arith, room, long))
    ∙ get_or-map (to_z w8) (pick_l 0 (row ++ row) places) k 0 (pos 0)
    (omega (arith, k_in, length-map places (λ m. get_or (row ++ row) m 0)))
    ∙ ap (to_z w8) (get_or-map (λ m. get_or (row ++ row) m 0) places k 0 0 k_in
    ∙ ap (λ m. get_or (row ++ row) m 0) at
    ∙ get_or_append_left row row 0 (stride * k)
    (omega (arith, at_in, length-lanes page from within)))
    ∙ lane-is page from (stride * k) within at_in range

-- the others stay
pub keeps-chunk : (to count : ℕ) (old new : List ℤ) → length new ≡ count
    → to + count ≤ length old → KeepsOthers to count old (put_chunk to old new)
keeps-chunk to count old new long room = record {
  long = length-put_chunk to old new;
  each = λ m off. elim (cases_lt m to) [
    | inl before ↦ get_or-put_chunk_below to old new m (pos 0) before
    | inr after ↦ elim (cases_lt m (to + count)) [
      | inl within ↦ absurd (off after within)
      | inr past ↦ get_or-put_chunk_above to old new m (pos 0) (omega (arith, past, long))
    ]
  ];
}

-- the places of each second lane
abbrev pub second_lanes : List ℕ
second_lanes = 0 ∷ 2 ∷ 4 ∷ 6 ∷ 8 ∷ 10 ∷ 12 ∷ 14 ∷ []

-- they are 2 apart
pub second_lane-is : (k : ℕ) → k < 8 → get_or second_lanes k 0 ≡ 2 * k
second_lane-is zero k_in = refl
second_lane-is (suc zero) k_in = refl
second_lane-is (suc (suc zero)) k_in = refl
second_lane-is (suc (suc (suc zero))) k_in = refl
second_lane-is (suc (suc (suc (suc zero)))) k_in = refl
second_lane-is (suc (suc (suc (suc (suc zero))))) k_in = refl
second_lane-is (suc (suc (suc (suc (suc (suc zero)))))) k_in = refl
second_lane-is (suc (suc (suc (suc (suc (suc (suc zero))))))) k_in = refl
second_lane-is (suc (suc (suc (suc (suc (suc (suc (suc k)))))))) k_in = absurd (omega arith)

-- the places of each fourth lane
abbrev pub fourth_lanes : List ℕ
fourth_lanes = 0 ∷ 4 ∷ 8 ∷ 12 ∷ []

-- they are 4 apart
pub fourth_lane-is : (k : ℕ) → k < 4 → get_or fourth_lanes k 0 ≡ 4 * k
fourth_lane-is zero k_in = refl
fourth_lane-is (suc zero) k_in = refl
fourth_lane-is (suc (suc zero)) k_in = refl
fourth_lane-is (suc (suc (suc zero))) k_in = refl
fourth_lane-is (suc (suc (suc (suc k)))) k_in = absurd (omega arith)
