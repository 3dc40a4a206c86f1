-- The digits that are written fast are those of `decimal`: short numbers by their digits, coordinates by a table.
-- The last digit of a number goes behind the digits of a tenth of it; from that come numbers of one to four digits
-- (decimal-one to decimal-four) and the last four of longer ones (decimal-more). Each table is what a function gives
-- for the first numbers (tabulated), which is computed once (fractions-are, pairs-are); so its entries are what their
-- numbers say: the padded fraction of so many units (fraction-at) and the two digits of a number (pair-at).
use Rattle.std.proofs.Common.{◌≡◌, ℕ, zero, suc, ◌+◌, ◌-◌, ◌*◌, ◌/◌, ◌%◌, ◌^◌, ◌<◌, ◌≤◌, cond, List, [], ◌∷◌, ◌++◌, codes, decimal, get_or, length, length-append, replicate, inl, inr, refl, subst, sym, take, ap, ◌∙◌, arith}
use Rattle.std.proofs.Math.Nat.{pow-suc}
use Rattle.std.proofs.lemmas.Bool.{cases_lt, le-ltb, lt-ltb}
use Rattle.std.proofs.lemmas.Fmt.{decimal_digit, decimal_step}
use Rattle.std.proofs.lemmas.List.{append_assoc, get_or-append_right, get_or_append_left, replicate-append-replicate}
use Rattle.std.specs.Prelude.{nat_lt}
use Rattle.digits.specs.declared.digit_tables.TheConstants.{FRACTIONS, PAIRS, SMALLS}
use Rattle.digits.specs.Digits.{UNIT_DIGITS, digit_of, eight_digits, four_digits}

-- the digit of a number below ten
pub decimal-one : (n : ℕ) → n < 10 → decimal n ≡ digit_of n ∷ []
decimal-one n small =
    let same : 48 + n ≡ digit_of n = omega arith in decimal_digit n small ∙ ap (λ d. d ∷ []) same

-- the last digit goes behind the others
decimal-last : (n : ℕ) → 10 ≤ n → n < 2 ^ 64 → (front : List ℕ) → decimal (n / 10) ≡ front
    → decimal n ≡ front ++ digit_of n ∷ []
decimal-last n large fits front is = decimal_step n large fits ∙ ap (λ ds. ds ++ digit_of n ∷ []) is

-- the digits of a number of two
pub decimal-two : (n : ℕ) → 10 ≤ n → n < 100 → decimal n ≡ digit_of (n / 10) ∷ digit_of n ∷ []
decimal-two n large small =
    decimal-last n large (omega arith) (digit_of (n / 10) ∷ [])
    (decimal-one (n / 10) (omega arith))

-- of three
pub decimal-three : (n : ℕ) → 100 ≤ n → n < 1000
    → decimal n ≡ digit_of (n / 100) ∷ digit_of (n / 10) ∷ digit_of n ∷ []
decimal-three n large small =
    let first : n / 10 / 10 ≡ n / 100 = omega arith in
    decimal-last n (omega arith) (omega arith) (digit_of (n / 100) ∷ digit_of (n / 10) ∷ [])
    (decimal-two (n / 10) (omega arith) (omega arith)
    ∙ ap (λ k. digit_of k ∷ digit_of (n / 10) ∷ []) first)

-- of four
pub decimal-four : (n : ℕ) → 1000 ≤ n → n < 10 ^ 4 → decimal n ≡ four_digits n
decimal-four n large small =
    let first : n / 10 / 100 ≡ n / 1000 = omega arith in
    let second : n / 10 / 10 ≡ n / 100 = omega arith in
    decimal-last n (omega arith) (omega arith)
    (digit_of (n / 1000) ∷ digit_of (n / 100) ∷ digit_of (n / 10) ∷ [])
    (decimal-three (n / 10) (omega arith) (omega arith)
    ∙ (λ i. digit_of (first i) ∷ digit_of (second i) ∷ digit_of (n / 10) ∷ []))

-- the last four digits go behind the others
pub decimal-more : (n : ℕ) → 10 ^ 4 ≤ n → n < 2 ^ 64
    → decimal n ≡ decimal (n / 10000) ++ four_digits (n % 10000)
decimal-more n large fits =
    let a : ℕ = n / 10 in
    let b : ℕ = n / 100 in
    let c : ℕ = n / 1000 in
    let front : List ℕ = decimal (n / 10000) in
    let c_is : decimal c ≡ front ++ digit_of c ∷ [] =
    decimal-last c (omega arith) (omega arith) front (let e : c / 10 ≡ n / 10000 = omega arith in
    ap decimal e) in
    let b_is : decimal b ≡ front ++ digit_of c ∷ [] ++ digit_of b ∷ [] =
    decimal-last b (omega arith) (omega arith) (front ++ digit_of c ∷ [])
    ((let e : b / 10 ≡ c = omega arith in ap decimal e) ∙ c_is) in
    let a_is : decimal a ≡ front ++ digit_of c ∷ [] ++ digit_of b ∷ [] ++ digit_of a ∷ [] =
    decimal-last a (omega arith) (omega arith) (front ++ digit_of c ∷ [] ++ digit_of b ∷ [])
    ((let e : a / 10 ≡ b = omega arith in ap decimal e) ∙ b_is) in
    let n_is : decimal n ≡ front ++ digit_of c ∷ [] ++ digit_of b ∷ [] ++ digit_of a ∷ []
    ++ digit_of n ∷ [] =
    decimal-last n (omega arith) fits
    (front ++ digit_of c ∷ [] ++ digit_of b ∷ [] ++ digit_of a ∷ []) a_is in
    let last : ℕ = n % 10000 in
    let d : digit_of c ≡ digit_of (last / 1000) = omega arith in
    let e : digit_of b ≡ digit_of (last / 100) = omega arith in
    let f : digit_of a ≡ digit_of (last / 10) = omega arith in
    let g : digit_of n ≡ digit_of last = omega arith in
    n_is ∙ four-joined front (digit_of c) (digit_of b) (digit_of a) (digit_of n)
    ∙ (λ i. front ++ d i ∷ e i ∷ f i ∷ g i ∷ [])
  where
    four-joined : (xs : List ℕ) (p q r s : ℕ)
        → xs ++ p ∷ [] ++ q ∷ [] ++ r ∷ [] ++ s ∷ [] ≡ xs ++ p ∷ q ∷ r ∷ s ∷ []
    four-joined [] p q r s = refl
    four-joined (x ∷ xs) p q r s = ap (λ ys. x ∷ ys) (four-joined xs p q r s)

-- ---- the table of fractions

-- what f gives for the first numbers
tabulated : ℕ → (ℕ → List ℕ) → List (List ℕ)
tabulated zero f = []
tabulated (suc n) f = tabulated n f ++ f n ∷ []

-- such a list has so many items
length-tabulated : (n : ℕ) (f : ℕ → List ℕ) → length (tabulated n f) ≡ n
unfolding tabulated
length-tabulated zero f = refl
length-tabulated (suc n) f =
    let before = length-tabulated n f in
    omega (arith, before, length-append (tabulated n f) (f n ∷ []))

-- and at each place what f gives there
get_or-tabulated : (n : ℕ) (f : ℕ → List ℕ) (k : ℕ) (none : List ℕ) → k < n
    → get_or (tabulated n f) k none ≡ f k
unfolding tabulated
get_or-tabulated zero f k none within = absurd (omega arith)
get_or-tabulated (suc n) f k none within =
    let long = length-tabulated n f in
    elim (cases_lt k n) [
      | inl early ↦
          get_or_append_left (tabulated n f) (f n ∷ []) none k (omega (arith, early, long))
          ∙ get_or-tabulated n f k none early
      | inr late ↦
          let same : n ≡ k = omega arith in
          let P : ℕ → Type 0 = λ i. get_or (tabulated n f ++ f n ∷ []) i none ≡ f i in
          let here : n - n ≡ 0 = omega arith in
          subst P same (get_or-append_right (tabulated n f) (f n ∷ []) n n none long (omega arith)
          ∙ ap (λ i. get_or (f n ∷ []) i none) here)
    ]

-- the last so many digits of a number, with leading zeros
last_digits : ℕ → ℕ → List ℕ
last_digits zero n = []
last_digits (suc k) n = last_digits k (n / 10) ++ digit_of n ∷ []

-- those of 0 are zeros
last_digits-zero : (k : ℕ) → last_digits k 0 ≡ replicate k 48
unfolding last_digits
last_digits-zero zero = refl
last_digits-zero (suc k) =
    let one : k + 1 ≡ suc k = omega arith in
    ap (λ ds. ds ++ 48 ∷ []) (last_digits-zero k) ∙ replicate-append-replicate k 1 48
    ∙ ap (λ n. replicate n 48) one

-- a number with a digit more has more than one
some-more : (k n : ℕ) → n < 10 ^ suc k → 10 ≤ n → 0 < k
some-more zero n small large = absurd (omega arith)
some-more (suc k) n small large = omega arith

-- a number with leading zeros has these digits
padded : (k n : ℕ) → n < 10 ^ k → 0 < k → n < 2 ^ 64
    → replicate (k - length (decimal n)) 48 ++ decimal n ≡ last_digits k n
unfolding last_digits
padded zero n small some fits = absurd (omega arith)
padded (suc k) n small some fits = elim (cases_lt n 10) [
  | inl short ↦
      let digits = decimal-one n short in
      let long : length (decimal n) ≡ 1 = ap length digits in
      let room : suc k - length (decimal n) ≡ k = omega (arith, long) in
      let none : 0 ≡ n / 10 = omega arith in
      (λ i. replicate (room i) 48 ++ digits i)
      ∙ ap (λ ds. ds ++ digit_of n ∷ []) (sym (last_digits-zero k) ∙ ap (last_digits k) none)
  | inr large ↦
      let front = decimal (n / 10) in
      let digits = decimal_step n large fits in
      let long : length (decimal n) ≡ length front + 1 =
      ap length digits ∙ length-append front (digit_of n ∷ []) in
      let room : suc k - length (decimal n) ≡ k - length front = omega (arith, long) in
      let below : n / 10 < 10 ^ k = omega (arith, small, pow-suc 10 k) in
      let more : 0 < k = some-more k n small large in
      (λ i. replicate (room i) 48 ++ digits i)
      ∙ sym (append_assoc (replicate (k - length front) 48) front (digit_of n ∷ []))
      ∙ ap (λ ds. ds ++ digit_of n ∷ []) (padded k (n / 10) below more (omega arith))
]

-- the point and the eight digits of so many units
abbrev pub fraction : ℕ → List ℕ
fraction units = codes "." ++ eight_digits (units * UNIT_DIGITS)

-- the point and the eight digits, as the table is computed
last_fraction : ℕ → List ℕ
last_fraction units = 46 ∷ last_digits 8 (units * UNIT_DIGITS)

-- the table of fractions
fractions-are : FRACTIONS ≡ tabulated 256 last_fraction
unfolding tabulated last_digits last_fraction
fractions-are = refl

-- the entries of the table are these
pub fraction-at : (units : ℕ) (none : List ℕ) → units < 256
    → get_or FRACTIONS units none ≡ fraction units
unfolding last_fraction
fraction-at units none within =
    ap (λ xs. get_or xs units none) fractions-are
    ∙ get_or-tabulated 256 last_fraction units none within
    ∙ ap (λ ds. 46 ∷ ds)
    (sym (padded 8 (units * UNIT_DIGITS) (omega arith) (omega arith) (omega arith)))

-- ---- the table of pairs

-- the two digits of a number below 100
abbrev pub two_digits : ℕ → List ℕ
two_digits n = digit_of (n / 10) ∷ digit_of n ∷ []

-- the table of pairs
pairs-are : PAIRS ≡ tabulated 100 two_digits
unfolding tabulated
pairs-are = refl

-- the entries of the table are these
pub pair-at : (n : ℕ) (none : List ℕ) → n < 100 → get_or PAIRS n none ≡ two_digits n
pair-at n none within =
    ap (λ xs. get_or xs n none) pairs-are ∙ get_or-tabulated 100 two_digits n none within

-- two pairs are four digits
pub four-pairs : (n : ℕ) (first last : List ℕ) → n < 10 ^ 4 → first ≡ two_digits (n / 100)
    → last ≡ two_digits (n % 100)
    → get_or first 0 0 ∷ get_or first 1 0 ∷ get_or last 0 0 ∷ get_or last 1 0 ∷ []
    ≡ four_digits n
four-pairs n first last small f l =
    let a : digit_of (n / 100 / 10) ≡ digit_of (n / 1000) = omega arith in
    let c : digit_of (n % 100 / 10) ≡ digit_of (n / 10) = omega arith in
    let d : digit_of (n % 100) ≡ digit_of n = omega arith in
    (λ i. get_or (f i) 0 0 ∷ get_or (f i) 1 0 ∷ get_or (l i) 0 0 ∷ get_or (l i) 1 0 ∷ [])
    ∙ (λ i. a i ∷ digit_of (n / 100) ∷ c i ∷ d i ∷ [])

-- a digit and a pair are three
pub three-digits : (n : ℕ) (first : ℕ) (last : List ℕ) → first ≡ digit_of (n / 100)
    → last ≡ two_digits (n % 100)
    → first ∷ get_or last 0 0 ∷ get_or last 1 0 ∷ []
    ≡ digit_of (n / 100) ∷ digit_of (n / 10) ∷ digit_of n ∷ []
three-digits n first last f l =
    let c : digit_of (n % 100 / 10) ≡ digit_of (n / 10) = omega arith in
    let d : digit_of (n % 100) ≡ digit_of n = omega arith in
    (λ i. f i ∷ get_or (l i) 0 0 ∷ get_or (l i) 1 0 ∷ [])
    ∙ (λ i. digit_of (n / 100) ∷ c i ∷ d i ∷ [])

-- ---- the table of small numbers

-- a blank, the digits of a number below 256, and blanks up to four bytes
small_entry : ℕ → List ℕ
small_entry n =
    cond (nat_lt n 10) (32 ∷ digit_of n ∷ 32 ∷ 32 ∷ [])
    (cond (nat_lt n 100) (32 ∷ digit_of (n / 10) ∷ digit_of n ∷ 32 ∷ [])
    (32 ∷ digit_of (n / 100) ∷ digit_of (n / 10) ∷ digit_of n ∷ []))

-- the table of small numbers
smalls-are : SMALLS ≡ tabulated 256 small_entry
unfolding tabulated small_entry
smalls-are = refl

-- an entry begins with the text of its number
pub small-at : (n : ℕ) (none : List ℕ) → n < 256
    → take (length (32 ∷ decimal n)) (get_or SMALLS n none) ≡ 32 ∷ decimal n
unfolding small_entry
small-at n none within =
    let entry : get_or SMALLS n none ≡ small_entry n =
    ap (λ xs. get_or xs n none) smalls-are ∙ get_or-tabulated 256 small_entry n none within in
    elim (cases_lt n 10) [
      | inl one ↦
          let digits = decimal-one n one in
          (λ i. take (length (32 ∷ digits i)) (entry i))
          ∙ ap (λ b. take 2 (cond b (32 ∷ digit_of n ∷ 32 ∷ 32 ∷ [])
          (cond (nat_lt n 100) (32 ∷ digit_of (n / 10) ∷ digit_of n ∷ 32 ∷ [])
          (32 ∷ digit_of (n / 100) ∷ digit_of (n / 10) ∷ digit_of n ∷ [])))) (lt-ltb n 10 one)
          ∙ ap (λ ds. 32 ∷ ds) (sym digits)
      | inr more ↦ elim (cases_lt n 100) [
        | inl two ↦
            let digits = decimal-two n more two in
            (λ i. take (length (32 ∷ digits i)) (entry i))
            ∙ (λ i. take 3 (cond (le-ltb n 10 more i) (32 ∷ digit_of n ∷ 32 ∷ 32 ∷ [])
            (cond (lt-ltb n 100 two i) (32 ∷ digit_of (n / 10) ∷ digit_of n ∷ 32 ∷ [])
            (32 ∷ digit_of (n / 100) ∷ digit_of (n / 10) ∷ digit_of n ∷ []))))
            ∙ ap (λ ds. 32 ∷ ds) (sym digits)
        | inr three ↦
            let digits = decimal-three n three (omega (arith, within)) in
            (λ i. take (length (32 ∷ digits i)) (entry i))
            ∙ (λ i. take 4 (cond (le-ltb n 10 more i) (32 ∷ digit_of n ∷ 32 ∷ 32 ∷ [])
            (cond (le-ltb n 100 three i) (32 ∷ digit_of (n / 10) ∷ digit_of n ∷ 32 ∷ [])
            (32 ∷ digit_of (n / 100) ∷ digit_of (n / 10) ∷ digit_of n ∷ []))))
            ∙ ap (λ ds. 32 ∷ ds) (sym digits)
      ]
    ]
