-- Numbers by their binary digits. Crates above take these lemmas for rims and for signs of samples.
-- A digit of a number is the lowest one of the number halved so many times, and halving takes the lowest digit away
-- (binary-half), so the digits of a number that was made from digits are these (is_set-binary). Dividing by a power of
-- two drops digits, and the remainder keeps the first ones (binary-drop, binary-take). Last, numbers put together from
-- pairs and from triples of digits, as cells have them (pairs, triples).
use Rattle.std.proofs.Common.{◌≡◌, ℕ, zero, suc, ◌+◌, ◌*◌, ◌/◌, ◌%◌, ◌^◌, ◌<◌, ◌≤◌, Bool, true, false, List, [], ◌∷◌, map, length, get_or, refl, sym, ap, ◌∙◌, arith, ◌==◌, take, drop}
use Rattle.std.proofs.Math.Nat.{pow-suc, div-div-eq-div-mul, zero-div, zero-mod}
use Rattle.terrain.specs.Cells.{is_set}
use Rattle.terrain.specs.Lists.{binary}
use Rattle.std.proofs.lemmas.Nat.{mod-pow-add}
use mir.Val.{bool_byte}

-- ---- the digits of a number

-- the lowest digit of a number
is_set-zero : (n : ℕ) → is_set n 0 ≡ (n % 2 == 1)
is_set-zero n = let same : n / 2 ^ 0 ≡ n = omega arith in ap (λ k. k % 2 == 1) same

-- a higher digit is one of half the number
is_set-suc : (n k : ℕ) → is_set n (suc k) ≡ is_set (n / 2) k
is_set-suc n k =
    let power : 2 ^ suc k ≡ 2 * 2 ^ k = pow-suc 2 k ∙ omega arith in
    let same : n / 2 ^ suc k ≡ n / 2 / 2 ^ k =
    ap (λ d. n / d) power ∙ sym (div-div-eq-div-mul n 2 (2 ^ k)) in
    ap (λ q. q % 2 == 1) same

-- half a number has its digits but the lowest one
pub binary-half : (b : Bool) (bits : List Bool) → binary (b ∷ bits) / 2 ≡ binary bits
binary-half true bits = omega arith
binary-half false bits = omega arith

-- the lowest digit tells whether a number is odd
binary-odd : (b : Bool) (bits : List Bool) → (binary (b ∷ bits) % 2 == 1) ≡ b
binary-odd true bits =
    let odd : (2 * binary bits + 1) % 2 ≡ 1 = omega arith in
    ap (λ r. r == 1) odd
binary-odd false bits =
    let even : (2 * binary bits) % 2 ≡ 0 = omega arith in
    ap (λ r. r == 1) even

-- a digit of the number with these digits
pub is_set-binary : (bits : List Bool) (k : ℕ) → k < length bits
    → is_set (binary bits) k ≡ get_or bits k false
is_set-binary [] k within = absurd (omega arith)
is_set-binary (b ∷ bits) zero within = is_set-zero (binary (b ∷ bits)) ∙ binary-odd b bits
is_set-binary (b ∷ bits) (suc k) within =
    is_set-suc (binary (b ∷ bits)) k
    ∙ ap (λ n. is_set n k) (binary-half b bits)
    ∙ is_set-binary bits k (omega arith)

-- a bit past the digits
pub is_set-past : (bits : List Bool) (k : ℕ) → length bits ≤ k → is_set (binary bits) k ≡ false
is_set-past [] k past = ap (λ q. q % 2 == 1) (zero-div (2 ^ k))
is_set-past (b ∷ bits) zero past = absurd (omega arith)
is_set-past (b ∷ bits) (suc k) past =
    let power : 2 ^ suc k ≡ 2 * 2 ^ k = pow-suc 2 k ∙ omega arith in
    ap (λ d. binary (b ∷ bits) / d % 2 == 1) power
    ∙ ap (λ q. q % 2 == 1) (sym (div-div-eq-div-mul (binary (b ∷ bits)) 2 (2 ^ k)))
    ∙ ap (λ n. is_set n k) (binary-half b bits)
    ∙ is_set-past bits k (omega arith)

-- a number without a digit that is set is 0
pub binary-none : {A : Type 0} (test : A → Bool) (xs : List A) → ((x : A) → test x ≡ false)
    → binary (map test xs) ≡ 0
binary-none test [] none = refl
binary-none test (x ∷ xs) none =
    ap (λ b. binary (b ∷ map test xs)) (none x) ∙ omega (arith, binary-none test xs none)

-- ---- numbers and lists of digits

-- a number by its lowest digit and the others
pub binary-cons : (b : Bool) (bits : List Bool)
    → binary (b ∷ bits) ≡ 2 * binary bits + bool_byte b
binary-cons true bits = refl
binary-cons false bits = omega arith

-- a digit is at most 1
pub bool_byte-le : (b : Bool) → bool_byte b ≤ 1
bool_byte-le true = omega arith
bool_byte-le false = omega arith

-- n digits give a number below 2 ^ n
pub binary-below : (bits : List Bool) → binary bits < 2 ^ length bits
binary-below [] = omega arith
binary-below (b ∷ bits) =
    omega (
      arith,
      binary-cons b bits,
      bool_byte-le b,
      binary-below bits,
      pow-suc 2 (length bits),
    )

-- the digits from a place on
pub binary-drop : (k : ℕ) (bits : List Bool) → binary bits / 2 ^ k ≡ binary (drop k bits)
binary-drop zero bits = omega arith
binary-drop (suc k) [] = zero-div (2 ^ suc k)
binary-drop (suc k) (b ∷ bits) =
    let power : 2 ^ suc k ≡ 2 * 2 ^ k = pow-suc 2 k ∙ omega arith in
    ap (λ d. binary (b ∷ bits) / d) power
    ∙ sym (div-div-eq-div-mul (binary (b ∷ bits)) 2 (2 ^ k))
    ∙ ap (λ n. n / 2 ^ k) (binary-half b bits) ∙ binary-drop k bits

-- the digits up to a place
pub binary-take : (k : ℕ) (bits : List Bool) → binary bits % 2 ^ k ≡ binary (take k bits)
binary-take zero bits = omega arith
binary-take (suc k) [] = zero-mod (2 ^ suc k)
binary-take (suc k) (b ∷ bits) =
    let power : suc k ≡ k + 1 = omega arith in
    let low : binary (b ∷ bits) % 2 ≡ bool_byte b =
    omega (arith, binary-cons b bits, bool_byte-le b) in
    let high : binary (b ∷ bits) / 2 % 2 ^ k ≡ binary (take k bits) =
    ap (λ n. n % 2 ^ k) (binary-half b bits) ∙ binary-take k bits in
    ap (λ j. binary (b ∷ bits) % 2 ^ j) power ∙ mod-pow-add (binary (b ∷ bits)) k 1
    ∙ (λ i. high i * 2 + low i)
    ∙ omega (arith, binary-cons b (take k bits))

-- ---- digits in pairs and triples

-- two digits, and the others
two-more : (a b : Bool) (bits : List Bool)
    → binary (a ∷ b ∷ []) + 4 * binary bits ≡ binary (a ∷ b ∷ bits)
two-more true true bits = omega arith
two-more true false bits = omega arith
two-more false true bits = omega arith
two-more false false bits = omega arith

-- three digits, and the others
three-more : (a b c : Bool) (bits : List Bool)
    → binary (a ∷ b ∷ c ∷ []) + 8 * binary bits ≡ binary (a ∷ b ∷ c ∷ bits)
three-more true b c bits = omega (arith, two-more b c bits)
three-more false b c bits = omega (arith, two-more b c bits)

-- four pairs of digits
pub pairs : (a b c d e f g h : Bool)
    → binary (a ∷ b ∷ []) + 4 * binary (c ∷ d ∷ []) + 16 * binary (e ∷ f ∷ [])
    + 64 * binary (g ∷ h ∷ []) ≡ binary (a ∷ b ∷ c ∷ d ∷ e ∷ f ∷ g ∷ h ∷ [])
pairs a b c d e f g h =
    omega (
      arith,
      two-more a b (c ∷ d ∷ e ∷ f ∷ g ∷ h ∷ []),
      two-more c d (e ∷ f ∷ g ∷ h ∷ []),
      two-more e f (g ∷ h ∷ []),
    )

-- three triples of digits
pub triples : (a b c d e f g h i : Bool)
    → binary (a ∷ b ∷ c ∷ []) + 8 * binary (d ∷ e ∷ f ∷ []) + 64 * binary (g ∷ h ∷ i ∷ [])
    ≡ binary (a ∷ b ∷ c ∷ d ∷ e ∷ f ∷ g ∷ h ∷ i ∷ [])
triples a b c d e f g h i =
    omega (
      arith,
      three-more a b c (d ∷ e ∷ f ∷ g ∷ h ∷ i ∷ []),
      three-more d e f (g ∷ h ∷ i ∷ []),
    )
