-- The text of a corner out of that of the corner before: where its number, which it has twice, does not end in 9, the
-- next number has the digits of it but for the last (`number-of`), so two bytes are to change (`next-text`,
-- `next-corner`).
use Rattle.std.proofs.Common.{◌≡◌, ℕ, ◌+◌, ◌-◌, ◌*◌, ◌/◌, ◌%◌, ◌^◌, ◌<◌, ◌≤◌, List, [], ◌∷◌, ◌++◌, codes, decimal, drop, length, length-append, slice_index_or, slice_set, take, inl, inr, refl, sym, ap, ◌∙◌, append_assoc, arith}
use Rattle.std.proofs.Math.Seq.{get_or-append_seam, set-append_seam, take-append_seam}
use Rattle.std.proofs.lemmas.Bool.{cases_lt}
use Rattle.std.proofs.lemmas.Fmt.{decimal_digit, decimal_step}
use Rattle.std.proofs.lemmas.List.{length-take-le, take-append-drop}
use Rattle.surface_query.specs.Corners.{IsCornerText}
use Rattle.surface_query.specs.NormalText.{corner_text}
use Rattle.surface_query.specs.Numbers.{AreCounts}
use Rattle.surface_query.specs.declared.bases.Bases.{Bases}
use Rattle.surface_query.specs.declared.lines.Corner.{Corner}
use Rattle.surface_query.specs.declared.lines.TheConstants.{CORNER_ROOM}

-- a number's digits, whose last alone differs in the next number
record Number (n : ℕ) : Type 0 where
  pub front : List ℕ
  pub digits : decimal n ≡ front ++ (48 + n % 10) ∷ []
  pub next : n % 10 < 9 → decimal (n + 1) ≡ front ++ (49 + n % 10) ∷ []

-- every number has them
number-of : (n : ℕ) → n + 1 < 2 ^ 64 → Number n
number-of n fits = elim (cases_lt n 10) [
  | inl short ↦ record {
    front = [];
    digits =
        let same : 48 + n ≡ 48 + n % 10 = omega arith in
        decimal_digit n short ∙ ap (λ d. d ∷ []) same;
    next = λ low.
        let same : 48 + (n + 1) ≡ 49 + n % 10 = omega arith in
        decimal_digit (n + 1) (omega arith) ∙ ap (λ d. d ∷ []) same;
  }
  | inr large ↦ record {
    front = decimal (n / 10);
    digits = decimal_step n large (omega arith);
    next = λ low.
        let front : (n + 1) / 10 ≡ n / 10 = omega arith in
        let last : 48 + (n + 1) % 10 ≡ 49 + n % 10 = omega arith in
        decimal_step (n + 1) (omega arith) fits
        ∙ (λ i. decimal (front i) ++ last i ∷ []);
  }
]

-- a number behind a blank, and again behind two slashes
abbrev twice_text : List ℕ → List ℕ
twice_text digits = codes " " ++ digits ++ codes "//" ++ digits

-- its pieces between both last digits
pieces-of : (front : List ℕ) (x : ℕ) (rest : List ℕ)
    → twice_text (front ++ x ∷ []) ++ rest ≡ (32 ∷ front) ++ x ∷ ((47 ∷ 47 ∷ front) ++ x ∷ rest)
pieces-of front x rest =
    let number : List ℕ = front ++ x ∷ [] in
    let slashes : List ℕ = 47 ∷ 47 ∷ [] in
    ap (λ t. 32 ∷ t)
    (append_assoc (number ++ slashes) number rest ∙ append_assoc number slashes (number ++ rest)
    ∙ append_assoc front (x ∷ []) (slashes ++ (number ++ rest))
    ∙ ap (λ t. front ++ x ∷ 47 ∷ 47 ∷ t) (append_assoc front (x ∷ []) rest))

-- the pieces up to the last digit
up_to_last : List ℕ → ℕ → List ℕ
up_to_last front x = (32 ∷ front) ++ x ∷ 47 ∷ 47 ∷ front

-- the same, up to the last digit and from it on
last-of : (front : List ℕ) (x y : ℕ) (rest : List ℕ)
    → (32 ∷ front) ++ x ∷ ((47 ∷ 47 ∷ front) ++ y ∷ rest) ≡ up_to_last front x ++ y ∷ rest
unfolding up_to_last
last-of front x y rest = sym (append_assoc (32 ∷ front) (x ∷ 47 ∷ 47 ∷ front) (y ∷ rest))

-- how many bytes they are
length-up_to_last : (front : List ℕ) (x : ℕ)
    → length (up_to_last front x) ≡ 2 * length front + 4
unfolding up_to_last
length-up_to_last front x =
    omega (arith, length-append (32 ∷ front) (x ∷ 47 ∷ 47 ∷ front))

module _ (bytes front : List ℕ) (x y len : ℕ) (long : len ≤ length bytes)
    (text : take len bytes ≡ twice_text (front ++ x ∷ [])) where
  -- the room behind the text
  rest : List ℕ
  rest = drop len bytes

  -- the room in these pieces
  bytes-are : bytes ≡ (32 ∷ front) ++ x ∷ ((47 ∷ 47 ∷ front) ++ x ∷ rest)
  unfolding rest
  bytes-are =
      sym (take-append-drop len bytes) ∙ ap (λ t. t ++ drop len bytes) text
      ∙ pieces-of front x (drop len bytes)

  -- the length of the text
  len-is : len ≡ 2 * length front + 5
  len-is =
      omega (
        arith,
        length-take-le len bytes long,
        ap length text,
        length-append (codes " " ++ (front ++ x ∷ []) ++ codes "//") (front ++ x ∷ []),
        length-append (front ++ x ∷ []) (codes "//"),
        length-append front (x ∷ []),
      )

  -- the place of its last digit
  at_last : len - 1 ≡ length (up_to_last front y)
  at_last = omega (arith, len-is, length-up_to_last front y)

  -- its last byte
  last-is : slice_index_or bytes (len - 1) 0 ≡ x
  last-is =
      let at : len - 1 ≡ length (up_to_last front x) =
      omega (arith, len-is, length-up_to_last front x) in
      (λ i. slice_index_or ((bytes-are ∙ last-of front x x rest) i) (at i) 0)
      ∙ get_or-append_seam (up_to_last front x) x rest 0

  -- both last digits are changed
  changed : take len (slice_set (slice_set bytes ((len - 3) / 2) y) (len - 1) y)
      ≡ twice_text (front ++ y ∷ [])
  changed =
      let first : (len - 3) / 2 ≡ length (32 ∷ front) = omega (arith, len-is) in
      let second : List ℕ = (47 ∷ 47 ∷ front) ++ x ∷ rest in
      let one : slice_set bytes ((len - 3) / 2) y ≡ up_to_last front y ++ x ∷ rest =
      (λ i. slice_set (bytes-are i) (first i) y)
      ∙ set-append_seam (32 ∷ front) x second y ∙ last-of front y x rest in
      let both : slice_set (slice_set bytes ((len - 3) / 2) y) (len - 1) y
      ≡ up_to_last front y ++ y ∷ rest =
      (λ i. slice_set (one i) (at_last i) y)
      ∙ set-append_seam (up_to_last front y) x rest y in
      let whole : List ℕ = twice_text (front ++ y ∷ []) in
      let end : len ≡ length whole =
      omega (
        arith,
        len-is,
        length-append (codes " " ++ (front ++ y ∷ []) ++ codes "//") (front ++ y ∷ []),
        length-append (front ++ y ∷ []) (codes "//"),
        length-append front (y ∷ []),
      ) in
      (λ i. take (end i)
      ((both ∙ sym (last-of front y y rest) ∙ sym (pieces-of front y rest)) i))
      ∙ take-append_seam whole rest

-- the text of a number twice, and that of the next number
next-text : (bytes : List ℕ) (n len : ℕ) → n + 1 < 2 ^ 64 → len ≤ length bytes
    → take len bytes ≡ twice_text (decimal n) → slice_index_or bytes (len - 1) 0 < 57
    → take len (slice_set (slice_set bytes ((len - 3) / 2) (slice_index_or bytes (len - 1) 0 + 1))
    (len - 1) (slice_index_or bytes (len - 1) 0 + 1)) ≡ twice_text (decimal (n + 1))
next-text bytes n len fits long text low =
    let number = number-of n fits in
    let x : ℕ = 48 + n % 10 in
    let same = text ∙ ap twice_text number.digits in
    let last = last-is bytes number.front x 0 len long same in
    let next : slice_index_or bytes (len - 1) 0 + 1 ≡ 49 + n % 10 = omega (arith, last) in
    (λ i. take len (slice_set (slice_set bytes ((len - 3) / 2) (next i)) (len - 1) (next i)))
    ∙ changed bytes number.front x (49 + n % 10) len long same
    ∙ ap twice_text (sym (number.next (omega (arith, last, low))))

-- where both bases are the same, a corner has one number twice
same-number : (bases : Bases) (place n : ℕ) → n ≡ bases.vertices + place + 1
    → bases.vertices ≡ bases.normals → twice_text (decimal n) ≡ corner_text bases place
same-number bases place n is same =
    let other : n ≡ bases.normals + place + 1 = omega (arith, is, same) in
    λ i. codes " " ++ decimal (is i) ++ codes "//" ++ decimal (other i)

-- the corner at a place, and that at the next
pub next-corner : (bases : Bases) (place len : ℕ) (corner : Corner) → len ≡ corner.len
    → AreCounts bases → place + 1 < 2 ^ 32 → length corner.bytes ≡ CORNER_ROOM
    → IsCornerText bases place corner → bases.vertices ≡ bases.normals
    → slice_index_or corner.bytes (len - 1) 0 < 57
    → IsCornerText bases (place + 1) (record {
      bytes = slice_set (slice_set corner.bytes ((len - 3) / 2)
          (slice_index_or corner.bytes (len - 1) 0 + 1)) (len - 1)
          (slice_index_or corner.bytes (len - 1) 0 + 1);
      len = corner.len;
    })
next-corner bases place len corner len_is counts few long text same low =
    let n : ℕ = bases.vertices + place + 1 in
    let last : ℕ = slice_index_or corner.bytes (len - 1) 0 + 1 in
    let bytes : List ℕ =
    slice_set (slice_set corner.bytes ((len - 3) / 2) last) (len - 1) last in
    let old : take len corner.bytes ≡ twice_text (decimal n) =
    ap (λ k. take k corner.bytes) len_is ∙ text.text ∙ sym (same-number bases place n refl same) in
    record {
      len = text.len;
      text =
          ap (λ k. take k bytes) (sym len_is)
          ∙ next-text corner.bytes n len (omega (arith, counts.vertices, few))
          (omega (arith, long, len_is, text.len)) old low
          ∙ same-number bases (place + 1) (n + 1) (omega arith) same;
    }
