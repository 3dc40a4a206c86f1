-- A table of reciprocals divides by small numbers: a multiplication and a shift give the quotient, rounded down.
--
-- For `places::part_of_side`, which is called for each vertex. A reciprocal of n, rounded up, is too large by less than
-- 2^-29 of 1/n; with a factor `a` the excess stays below one part as long as `a * n` is below the number of parts
-- (`small` in `part_between`), which 127 * 254 is up to level 6. The table is compared with that by computing
-- (`are_reciprocals`).
use Rattle.std.proofs.Common.{◌≡◌, ℕ, zero, suc, ◌+◌, ◌-◌, ◌*◌, ◌/◌, ◌^◌, ◌<◌, ◌≤◌, List, [], ◌∷◌, Bool, true, get_or, drop, length, refl, sym, ap, ◌∙◌, subst, arith}
use Rattle.std.specs.Prelude.{◌&&◌, nat_le, nat_lt}
use Rattle.std.proofs.Math.Nat.{div-le_of_le-mul, lt-div-mul-add, lt_of_mul-lt-mul_left, mul_assoc, mul_comm, mul-div-le, mul-div-mul_right, mul_right_comm, mul-le-mul_left, mul-le-mul_right}
use Rattle.std.proofs.Math.Pow.{pow_mono}
use Rattle.std.proofs.lemmas.Bool.{and_parts, leb-true, ltb-true}
use Rattle.std.proofs.lemmas.Nat.{div-mul-add, pow-add, pow_pos}
use Rattle.lattice.specs.declared.settings.TheConstants.{MAX_DEPTH}
use Rattle.lattice.specs.Settings.{IsDepth}
use Rattle.lattice.specs.declared.point.TheConstants.{UNITS}
use Rattle.vertex_places.specs.declared.places.TheConstants.{RECIPROCALS}

-- a number is the reciprocal of another: the least that is 2^29 or more when it is multiplied by it
pub record IsReciprocal (n r : ℕ) : Type 0 where
  pub low : 2 ^ 29 ≤ r * n
  pub high : r * n < 2 ^ 29 + n

-- whether a list has the reciprocals of the numbers from one on
abbrev are_reciprocals : ℕ → List ℕ → Bool
are_reciprocals n [] = true
are_reciprocals n (r ∷ rs) =
    (nat_le (2 ^ 29) (r * n) && nat_lt (r * n) (2 ^ 29 + n)) && are_reciprocals (n + 1) rs

-- then each of its items is one
reciprocal-at : (n : ℕ) (rs : List ℕ) → are_reciprocals n rs ≡ true
    → (k : ℕ) → k < length rs → IsReciprocal (n + k) (get_or rs k 0)
reciprocal-at n [] all k within = absurd (omega arith)
reciprocal-at n (r ∷ rs) all zero within =
    let here = (and_parts (nat_le (2 ^ 29) (r * n) && nat_lt (r * n) (2 ^ 29 + n))
    (are_reciprocals (n + 1) rs) all).0 in
    let both = and_parts (nat_le (2 ^ 29) (r * n)) (nat_lt (r * n) (2 ^ 29 + n)) here in
    let low = leb-true (2 ^ 29) (r * n) both.0 in
    let high = ltb-true (r * n) (2 ^ 29 + n) both.1 in
    record { low = omega (arith, low); high = omega (arith, high) }
reciprocal-at n (r ∷ rs) all (suc k) within =
    let rest = (and_parts (nat_le (2 ^ 29) (r * n) && nat_lt (r * n) (2 ^ 29 + n))
    (are_reciprocals (n + 1) rs) all).1 in
    let further : n + 1 + k ≡ n + suc k = omega arith in
    subst (λ i. IsReciprocal i (get_or rs k 0)) further
    (reciprocal-at (n + 1) rs rest k (omega arith))

-- the table has the reciprocals of 1 to 254
pub reciprocal-in_table : (n : ℕ) → 0 < n → n < 255 → IsReciprocal n (get_or RECIPROCALS n 0)
reciprocal-in_table zero some within = absurd (omega arith)
reciprocal-in_table (suc k) some within =
    let more : 1 + k ≡ suc k = omega arith in
    subst (λ i. IsReciprocal i (get_or (drop 1 RECIPROCALS) k 0)) more
    (reciprocal-at 1 (drop 1 RECIPROCALS) refl k (omega arith))

-- ---- a part by a reciprocal

-- a product with a reciprocal, in `m` parts, is the part `a / n` of `s`
part_between : (s m a n r q : ℕ) → s * m ≡ 2 ^ 29 → 0 < n → IsReciprocal n r → a * n < m + a
    → n * q ≤ s * a → s * a < n * q + n → (q * m ≤ a * r) × (a * r < q * m + m)
part_between s m a n r q whole some is small low high =
    let scaled : a * (s * m) ≡ a * 2 ^ 29 = ap (λ t. a * t) whole in
    let least : a * 2 ^ 29 ≤ a * (r * n) = mul-le-mul_left a is.low in
    let next : r * n + 1 ≤ 2 ^ 29 + n = omega (arith, is.high) in
    let most : a * (r * n + 1) ≤ a * (2 ^ 29 + n) = mul-le-mul_left a next in
    let under : m * (n * q) ≤ m * (s * a) = mul-le-mul_left m low in
    let past : s * a + 1 ≤ n * q + n = omega (arith, high) in
    let over : m * (s * a + 1) ≤ m * (n * q + n) = mul-le-mul_left m past in
    let begin : n * (q * m) < n * (a * r + 1) = omega (arith, scaled, least, under) in
    let end : n * (a * r) < n * (q * m + m) = omega (arith, scaled, most, over, small) in
    let first : q * m < a * r + 1 = lt_of_mul-lt-mul_left n begin in
    (omega (arith, first), lt_of_mul-lt-mul_left n end)

-- so its quotient by `m` is that part, rounded down
pub part_by : (s m a n r : ℕ) → s * m ≡ 2 ^ 29 → 0 < n → IsReciprocal n r → a * n < m + a
    → a * r / m ≡ s * a / n
part_by s m a n r whole some is small =
    let q = s * a / n in
    let low : n * q ≤ s * a = mul-div-le (s * a) n in
    let high : s * a < q * n + n = lt-div-mul-add some in
    let between = part_between s m a n r q whole some is small low (omega (arith, high)) in
    let rest : q * m + (a * r - q * m) ≡ a * r = omega (arith, between) in
    ap (λ t. t / m) (sym rest) ∙ div-mul-add q m (a * r - q * m) (omega (arith, between))

-- ---- a part of a cell's side

-- a number times the reciprocal of one that is no less fits
pub product-fits : (a b r : ℕ) → a ≤ 127 → b ≤ 127 → 0 < a + b → IsReciprocal (a + b) r
    → a * r < 2 ^ 30
product-fits a b r ha hb some is =
    let whole : r * a ≤ r * (a + b) = mul-le-mul_left r (omega arith) in
    omega (arith, whole, is.high)

-- the side of a cell and the parts of the shift make 2^29
whole_side : (level : ℕ) → level ≤ 21 → UNITS * 2 ^ level * 2 ^ (21 - level) ≡ 2 ^ 29
whole_side level low =
    let parts : 2 ^ (level + (21 - level)) ≡ 2 ^ level * 2 ^ (21 - level) =
    pow-add 2 level (21 - level) in
    let all : level + (21 - level) ≡ 21 = omega arith in
    let whole : 2 ^ level * 2 ^ (21 - level) ≡ 2 ^ 21 = sym parts ∙ ap (λ n. 2 ^ n) all in
    mul_assoc UNITS (2 ^ level) (2 ^ (21 - level)) ∙ ap (λ n. UNITS * n) whole

-- the way along a key by a reciprocal
pub part-of_side : (level a b r : ℕ) → IsDepth level → a ≤ 127 → b ≤ 127 → 0 < a + b
    → IsReciprocal (a + b) r → a * r / 2 ^ (21 - level) ≡ UNITS * 2 ^ level * a / (a + b)
part-of_side level a b r low ha hb some is =
    let high : 21 - MAX_DEPTH ≤ 21 - level = omega (arith, low) in
    let parts : 2 ^ (21 - MAX_DEPTH) ≤ 2 ^ (21 - level) = pow_mono high in
    let square : a * (a + b) ≤ 127 * (a + b) = mul-le-mul_right (a + b) ha in
    let whole = whole_side level (omega (arith, low)) in
    part_by (UNITS * 2 ^ level) (2 ^ (21 - level)) a (a + b) r whole some is
    (omega (arith, parts, square))

-- the same quotient where the product is larger by the side of a cell, and the divisor too
pub part-of_cells : (level a r : ℕ) → level ≤ 21
    → a * 2 ^ level * r / 2 ^ 21 ≡ a * r / 2 ^ (21 - level)
part-of_cells level a r low =
    let p = 2 ^ level in
    let q = 2 ^ (21 - level) in
    let all : level + (21 - level) ≡ 21 = omega arith in
    let whole : 2 ^ 21 ≡ q * p =
    ap (λ n. 2 ^ n) (sym all) ∙ pow-add 2 level (21 - level) ∙ mul_comm p q in
    (λ i. mul_right_comm a p r i / whole i) ∙ mul-div-mul_right (a * r) q (pow_pos level)

-- it is no longer than the side
pub part-most : (side a b : ℕ) → side * a / (a + b) ≤ side
part-most side a b =
    let within : a ≤ a + b = omega arith in
    let whole : side * a ≤ side * (a + b) = mul-le-mul_left side within in
    div-le_of_le-mul (a + b) (omega (arith, whole))
