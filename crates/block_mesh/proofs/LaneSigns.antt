-- Signs of samples that are read sixteen at a time.
--
-- For `sixteen_signs`, `row_signs` and `fine_row_signs`. A sample's lane, compared with 0, is below it where the sample
-- is solid (`lane`), so the mask of sixteen comparisons is the number of sixteen signs (`mask-signs`). A row of 17
-- samples is one such mask and a last sample (`row-parts`), a row of 33 two of them and a last one (`fine_row-parts`).
use Rattle.std.proofs.Common.{◌≡◌, ℕ, ◌+◌, ◌-◌, ◌*◌, ◌%◌, ◌^◌, ◌<◌, ◌≤◌, Bool, true, false, cond, ℤ, pos, negsuc, List, [], ◌∷◌, drop, get_or, map, replicate, take, length, length-take, refl, sym, ap, ◌∙◌, arith, w8, SFits, of_z, to_z, to_z-of_z}
use Rattle.std.proofs.lemmas.Bool.{le-ltb}
use Rattle.std.proofs.lemmas.Int.{ints}
use Rattle.std.proofs.lemmas.List.{drop-drop, length-drop, length-map, take_all}
use Rattle.std.proofs.lemmas.List.Elements.{All-head, All-tail}
use Rattle.std.proofs.lemmas.Simd.{bitmask_splat}
use Rattle.std.specs.Int.RustNames.{int_lt}
use Rattle.std.specs.List.{All}
use Rattle.std.specs.Simd.Lanes.{mask_l, top, zip2}
use Rattle.terrain.specs.Lists.{binary}
use Rattle.terrain.specs.Samples.{IsSample, is_solid}
use Rattle.block_mesh.specs.Signs.{signs_of_samples}
use Rattle.block_mesh.proofs.SignLemmas.{drop-last, signs-below, signs-one, signs-split}
use Rattle.terrain.proofs.BinaryLemmas.{bool_byte-le}
use mir.Val.{bool_byte}

-- whether a lane is below 0
abbrev is_below : ℕ → ℕ → Bool
is_below a b = int_lt (to_z w8 a) (to_z w8 b)

-- a sample has a lane's bits
fits : (sample : ℤ) → IsSample sample → SFits w8 sample
fits (pos n) is = record { sfits = omega (arith, ints, is.low, is.high) }
fits (negsuc n) is = record { sfits = omega (arith, ints, is.low, is.high) }

-- the lane of a sample is below 0 where the sample is solid
lane : (sample : ℤ) → IsSample sample → is_below (of_z w8 sample) 0 ≡ is_solid sample
lane (pos n) is =
    ap (λ z. int_lt z (pos 0)) (to_z-of_z (fits (pos n) is)) ∙ le-ltb n 0 (omega arith)
lane (negsuc n) is = ap (λ z. int_lt z (pos 0)) (to_z-of_z (fits (negsuc n) is))

-- the digit of a sample that is read from its row
pub read-digit : (row : List ℤ) (place : ℕ) → place < length row → All IsSample row
    → bool_byte (is_below (of_z w8 (get_or row place (pos 0))) 0)
    ≡ bool_byte (is_solid (get_or row place (pos 0)))
read-digit row place within all =
    ap bool_byte (lane (get_or row place (pos 0)) (all place (pos 0) within))

-- a digit, and the others
digit : (b : Bool) (bits : List Bool) (rest : ℕ) → rest ≡ binary bits
    → cond b 1 0 + 2 * rest ≡ binary (b ∷ bits)
digit true bits rest same = omega (arith, same)
digit false bits rest same = omega (arith, same)

-- the number of the lanes below 0
lanes : (samples : List ℤ) → All IsSample samples
    → mask_l (map (λ a. is_below a 0) (map (of_z w8) samples)) ≡ signs_of_samples samples
lanes [] all = refl
lanes (sample ∷ samples) all =
    ap (λ b. cond b 1 0 + 2 * mask_l (map (λ a. is_below a 0) (map (of_z w8) samples)))
    (lane sample (All-head IsSample sample samples all))
    ∙ digit (is_solid sample) (map is_solid samples) _
    (lanes samples (All-tail IsSample sample samples all))

-- the mask of sixteen samples that are compared with 0
pub mask-signs : (samples : List ℤ) → length samples ≡ 16 → All IsSample samples
    → mask_l (map (top 7) (zip2 (λ a b. cond (is_below a b) 255 0) (map (of_z w8) samples)
    (replicate 16 0))) % 2 ^ 64 ≡ signs_of_samples samples
mask-signs samples count all =
    bitmask_splat w8 is_below (map (of_z w8) samples) 16 0
    (length-map samples (of_z w8) ∙ count) (omega arith)
    ∙ lanes samples all

-- ---- rows

-- the number of a row of a leaf's points, by its first sixteen samples and the last
pub row-parts : (row : List ℤ) (first last : ℕ) → length row ≡ 17 → All IsSample row
    → first ≡ signs_of_samples (take 16 row)
    → last ≡ bool_byte (is_below (of_z w8 (get_or row 16 (pos 0))) 0)
    → (first + 2 ^ 16 * last ≡ signs_of_samples row) × (first < 2 ^ 16) × (last ≤ 1)
row-parts row first last count all is_first is_last =
    let end : last ≡ bool_byte (is_solid (get_or row 16 (pos 0))) =
    is_last ∙ read-digit row 16 (omega (arith, count)) all in
    let rest : signs_of_samples (drop 16 row) ≡ last =
    ap signs_of_samples (drop-last row 16 count) ∙ signs-one (get_or row 16 (pos 0)) ∙ sym end in (
      omega (arith, is_first, rest, signs-split row 16),
      omega (
        arith,
        is_first,
        signs-below (take 16 row) 16 (omega (arith, length-take 16 row)),
      ),
      omega (arith, end, bool_byte-le (is_solid (get_or row 16 (pos 0)))),
    )

-- the number of a row of a face's finer points, by twice sixteen samples and the last
pub fine_row-parts : (row : List ℤ) (first second last : ℕ) → length row ≡ 33 → All IsSample row
    → first ≡ signs_of_samples (take 16 row)
    → second ≡ signs_of_samples (take 16 (take (length row - 16) (drop 16 row)))
    → last ≡ bool_byte (is_below (of_z w8 (get_or row 32 (pos 0))) 0)
    → (first + 2 ^ 16 * second + 2 ^ 32 * last ≡ signs_of_samples row) × (first < 2 ^ 16)
    × (second < 2 ^ 16) × (last ≤ 1)
fine_row-parts row first second last count all is_first is_second is_last =
    let high : List ℤ = drop 16 row in
    let whole : take (length row - 16) high ≡ high =
    take_all (length row - 16) high (omega (arith, length-drop 16 row)) in
    let middle : second ≡ signs_of_samples (take 16 high) =
    is_second ∙ ap (λ xs. signs_of_samples (take 16 xs)) whole in
    let end : last ≡ bool_byte (is_solid (get_or row 32 (pos 0))) =
    is_last ∙ read-digit row 32 (omega (arith, count)) all in
    let rest : signs_of_samples (drop 16 high) ≡ last =
    ap signs_of_samples (drop-drop 16 16 row ∙ drop-last row 32 count)
    ∙ signs-one (get_or row 32 (pos 0)) ∙ sym end in (
      omega (arith, is_first, middle, rest, signs-split row 16, signs-split high 16),
      omega (
        arith,
        is_first,
        signs-below (take 16 row) 16 (omega (arith, length-take 16 row)),
      ),
      omega (arith, middle, signs-below (take 16 high) 16 (omega (arith, length-take 16 high))),
      omega (arith, end, bool_byte-le (is_solid (get_or row 32 (pos 0)))),
    )
