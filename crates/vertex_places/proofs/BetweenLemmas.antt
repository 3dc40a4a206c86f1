-- The number on the way between two others fits 32 bits, and is what the code computes.
--
-- For `places::between`. All numbers are bounded by the greatest coordinate (`most`) and samples by 127, so the product
-- is below 2^31 (`along-most`), its quotient is no further from 0 (`abs-div`), and no step of the code wraps (`same`).
use Rattle.std.proofs.Common.{◌≡◌, ℕ, ◌+◌, ◌*◌, ◌^◌, ◌<◌, ◌≤◌, ℤ, pos, negsuc, ◌+ℤ◌, ◌-ℤ◌, ◌*ℤ◌, unsigned_abs, sym, ap, ◌∙◌, subst, arith, w32, to_z, of_z, FitsSigned}
use Rattle.std.specs.Int.{int_div_euclid}
use Rattle.std.proofs.Math.Nat.{div-le_self}
use Rattle.std.proofs.lemmas.Int.{ints, to_z-of_z, fits_signed_from_abs, unsigned_abs-mul}
use Rattle.std.proofs.lemmas.Nat.{mul-le}
use Rattle.terrain.specs.Blocks.{between}

-- a sum is no further from 0 than both together
abs-add : (x y : ℤ) → unsigned_abs (x +ℤ y) ≤ unsigned_abs x + unsigned_abs y
abs-add x y = omega (arith, ints)

-- nor is a difference
abs-sub : (x y : ℤ) → unsigned_abs (x -ℤ y) ≤ unsigned_abs x + unsigned_abs y
abs-sub x y = omega (arith, ints)

-- a quotient is no further from 0 than the dividend
abs-div : (z : ℤ) (d : ℕ) → 0 < d → unsigned_abs (int_div_euclid z (pos d)) ≤ unsigned_abs z
abs-div (pos a) d some = div-le_self a d
abs-div (negsuc a) d some = let h = div-le_self a d in omega (arith, h)

module _ (p q : ℤ) (a b most : ℕ) (hp : unsigned_abs p ≤ most) (hq : unsigned_abs q ≤ most)
    (ha : a ≤ 127) (hb : b ≤ 127) (some : 0 < a + b) (room : most * 255 < 2 ^ 31) where
  -- the product of the code
  abbrev along : ℤ
  along = (q -ℤ p) *ℤ pos a

  -- how far it is from 0 at most
  along-most : unsigned_abs along ≤ most * 254
  along-most =
      let apart : unsigned_abs (q -ℤ p) ≤ 2 * most = let h = abs-sub q p in omega (arith, h) in
      let product : unsigned_abs along ≡ unsigned_abs (q -ℤ p) * a =
      unsigned_abs-mul (q -ℤ p) (pos a) in
      let bound = mul-le (unsigned_abs (q -ℤ p)) a (2 * most) 127 apart ha in
      omega (arith, product, bound)

  -- such numbers fit
  fits : (z : ℤ) → unsigned_abs z ≤ most * 255 → FitsSigned w32 z
  fits z h = fits_signed_from_abs w32 z (omega (arith, h, room))

  -- so the code's number is the number
  same : (z : ℤ) → unsigned_abs z ≤ most * 255 → to_z w32 (of_z w32 z) ≡ z
  same z h = to_z-of_z w32 z (fits z h)

  -- the product of the code fits its type
  pub product_fits : (x : ℤ) → x ≡ pos a
      → FitsSigned w32 (to_z w32 (of_z w32 (to_z w32 (of_z w32 q) -ℤ to_z w32 (of_z w32 p)))
      *ℤ to_z w32 (of_z w32 x))
  product_fits x ex =
      let tz : ℤ → ℤ = λ z. to_z w32 (of_z w32 z) in
      let bx : tz x ≡ pos a =
      ap tz ex ∙ to_z-of_z w32 (pos a) (fits_signed_from_abs w32 (pos a) (omega (arith, ha))) in
      let bp : tz p ≡ p = same p (omega (arith, hp)) in
      let bq : tz q ≡ q = same q (omega (arith, hq)) in
      let apart : tz (tz q -ℤ tz p) ≡ q -ℤ p =
      (λ t. tz (bq t -ℤ bp t)) ∙ same (q -ℤ p) (let h = abs-sub q p in omega (arith, h)) in
      let fit : FitsSigned w32 along = fits along (let h = along-most in omega (arith, h)) in
      subst (FitsSigned w32) (sym (λ t. apart t *ℤ bx t)) fit

  -- what the code divides, and by what
  pub quotient : (r x y : ℤ) → x ≡ pos a → y ≡ pos b
      → r ≡ int_div_euclid
      (to_z w32 (of_z w32 (to_z w32 (of_z w32 (to_z w32 (of_z w32 q) -ℤ to_z w32 (of_z w32 p)))
      *ℤ to_z w32 (of_z w32 x))))
      (to_z w32 (of_z w32 (to_z w32 (of_z w32 x) +ℤ to_z w32 (of_z w32 y))))
      → r ≡ int_div_euclid along (pos (a + b))
  quotient r x y ex ey is =
      let small : (n : ℕ) → n ≤ 254 → to_z w32 (of_z w32 (pos n)) ≡ pos n =
      λ n h. to_z-of_z w32 (pos n) (fits_signed_from_abs w32 (pos n) (omega (arith, h))) in
      let tz : ℤ → ℤ = λ z. to_z w32 (of_z w32 z) in
      let bx : tz x ≡ pos a = ap tz ex ∙ small a (omega arith) in
      let by : tz y ≡ pos b = ap tz ey ∙ small b (omega arith) in
      let bp : tz p ≡ p = same p (omega (arith, hp)) in
      let bq : tz q ≡ q = same q (omega (arith, hq)) in
      let apart : tz (tz q -ℤ tz p) ≡ q -ℤ p =
      (λ t. tz (bq t -ℤ bp t)) ∙ same (q -ℤ p) (let h = abs-sub q p in omega (arith, h)) in
      let over : tz (tz (tz q -ℤ tz p) *ℤ tz x) ≡ along =
      (λ t. tz (apart t *ℤ bx t)) ∙ same along (let h = along-most in omega (arith, h)) in
      let under : tz (tz x +ℤ tz y) ≡ pos (a + b) =
      (λ t. tz (bx t +ℤ by t)) ∙ small (a + b) (omega arith) in
      is ∙ (λ t. int_div_euclid (over t) (under t))

  -- how far the quotient is from 0 at most
  quotient-most : (r : ℤ) → r ≡ int_div_euclid along (pos (a + b)) → unsigned_abs r ≤ most * 254
  quotient-most r is =
      let h = abs-div along (a + b) some in
      let m = along-most in
      let e = ap unsigned_abs is in
      omega (arith, h, m, e)

  -- the number on the way fits the code's type
  pub sum_fits : (r : ℤ) → r ≡ int_div_euclid along (pos (a + b))
      → FitsSigned w32 (to_z w32 (of_z w32 p) +ℤ to_z w32 (of_z w32 r))
  sum_fits r is =
      let small = quotient-most r is in
      let bp = same p (omega (arith, hp)) in
      let br = same r (omega (arith, small)) in
      let fit : FitsSigned w32 (p +ℤ r) = fits (p +ℤ r) (let h = abs-add p r in
      omega (arith, h, hp, small)) in
      subst (FitsSigned w32) (sym (λ t. bp t +ℤ br t)) fit

  -- what the code computes is the number on the way
  pub sum_is : (r : ℤ) → r ≡ int_div_euclid along (pos (a + b))
      → unsigned_abs (to_z w32 (of_z w32 (to_z w32 (of_z w32 p) +ℤ to_z w32 (of_z w32 r))))
      ≡ between p q a b
  sum_is r is =
      let small = quotient-most r is in
      let bp = same p (omega (arith, hp)) in
      let br = same r (omega (arith, small)) in
      let bs = same (p +ℤ r) (let h = abs-add p r in omega (arith, h, hp, small)) in
      (λ t. unsigned_abs (to_z w32 (of_z w32 (bp t +ℤ br t)))) ∙ ap unsigned_abs bs
      ∙ ap (λ z. unsigned_abs (p +ℤ z)) is
