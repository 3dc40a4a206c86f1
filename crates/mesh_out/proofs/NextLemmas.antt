-- The text of a number out of that of the number before, for `go_on`. Where that doesn't end in 9, the next number has
-- its digits but for the last (`number-of`). So the text has one byte to change: the last one, whose place is known by
-- the length of the text (`next-numeral`).
use Rattle.std.proofs.Common.{◌≡◌, ℕ, ◌+◌, ◌-◌, ◌/◌, ◌%◌, ◌^◌, ◌<◌, ◌≤◌, List, [], ◌∷◌, ◌++◌, codes, decimal, drop, length, length-append, slice_index_or, slice_set, take, inl, inr, sym, ap, ◌∙◌, append_assoc, arith}
use Rattle.std.proofs.Math.Seq.{get_or-append_seam, set-append_seam, take-append_seam}
use Rattle.std.proofs.lemmas.Bool.{cases_lt}
use Rattle.std.proofs.lemmas.Fmt.{decimal_digit, decimal_step}
use Rattle.std.proofs.lemmas.List.{length-take-le, take-append-drop}
use Rattle.mesh_out.specs.Numerals.{IsNumeral}
use Rattle.mesh_out.specs.declared.numerals.Numeral.{Numeral}
use Rattle.mesh_out.specs.declared.numerals.TheConstants.{NUMERAL_ROOM}

-- a number's digits, whose last alone differs in the next number
pub record Number (n : ℕ) : Type 0 where
  pub front : List ℕ
  pub digits : decimal n ≡ front ++ (48 + n % 10) ∷ []
  pub next : n % 10 < 9 → decimal (n + 1) ≡ front ++ (49 + n % 10) ∷ []

-- every number has them
pub number-of : (n : ℕ) → n + 1 < 2 ^ 64 → Number n
number-of n fits = elim (cases_lt n 10) [
  | inl short ↦ record {
    front = [];
    digits =
        let same : 48 + n ≡ 48 + n % 10 = omega arith in
        decimal_digit n short ∙ ap (λ d. d ∷ []) same;
    next = λ low.
        let same : 48 + (n + 1) ≡ 49 + n % 10 = omega arith in
        decimal_digit (n + 1) (omega arith) ∙ ap (λ d. d ∷ []) same;
  }
  | inr large ↦ record {
    front = decimal (n / 10);
    digits = decimal_step n large (omega arith);
    next = λ low.
        let front : (n + 1) / 10 ≡ n / 10 = omega arith in
        let last : 48 + (n + 1) % 10 ≡ 49 + n % 10 = omega arith in
        decimal_step (n + 1) (omega arith) fits
        ∙ (λ i. decimal (front i) ++ last i ∷ []);
  }
]

module _ (bytes front : List ℕ) (x y len : ℕ) (long : len ≤ length bytes)
    (text : take len bytes ≡ front ++ x ∷ []) where
  -- the text, and the room behind it
  bytes-are : bytes ≡ front ++ x ∷ drop len bytes
  bytes-are =
      sym (take-append-drop len bytes) ∙ ap (λ t. t ++ drop len bytes) text
      ∙ append_assoc front (x ∷ []) (drop len bytes)

  -- the place of its last byte
  at_last : len - 1 ≡ length front
  at_last =
      omega (
        arith,
        length-take-le len bytes long,
        ap length text,
        length-append front (x ∷ []),
      )

  -- the last byte
  last-is : slice_index_or bytes (len - 1) 0 ≡ x
  last-is =
      (λ i. slice_index_or (bytes-are i) (at_last i) 0)
      ∙ get_or-append_seam front x (drop len bytes) 0

  -- it is changed
  changed : take len (slice_set bytes (len - 1) y) ≡ front ++ y ∷ []
  changed =
      let rest : List ℕ = drop len bytes in
      let set : slice_set bytes (len - 1) y ≡ front ++ y ∷ rest =
      (λ i. slice_set (bytes-are i) (at_last i) y) ∙ set-append_seam front x rest y in
      let whole : List ℕ = front ++ y ∷ [] in
      let end : len ≡ length whole =
      omega (
        arith,
        length-take-le len bytes long,
        ap length text,
        length-append front (x ∷ []),
        length-append front (y ∷ []),
      ) in
      (λ i. take (end i) ((set ∙ sym (append_assoc front (y ∷ []) rest)) i))
      ∙ take-append_seam whole rest

-- the text of a number behind a blank, and that of the next number
next-text : (bytes : List ℕ) (n len : ℕ) → n + 1 < 2 ^ 64 → len ≤ length bytes
    → take len bytes ≡ codes " " ++ decimal n → slice_index_or bytes (len - 1) 0 < 57
    → take len (slice_set bytes (len - 1) (slice_index_or bytes (len - 1) 0 + 1))
    ≡ codes " " ++ decimal (n + 1)
next-text bytes n len fits long text low =
    let number = number-of n fits in
    let x : ℕ = 48 + n % 10 in
    let same = text ∙ ap (λ t. 32 ∷ t) number.digits in
    let last = last-is bytes (32 ∷ number.front) x 0 len long same in
    let next : slice_index_or bytes (len - 1) 0 + 1 ≡ 49 + n % 10 = omega (arith, last) in
    (λ i. take len (slice_set bytes (len - 1) (next i)))
    ∙ changed bytes (32 ∷ number.front) x (49 + n % 10) len long same
    ∙ ap (λ t. 32 ∷ t) (sym (number.next (omega (arith, last, low))))

-- the number at a place, and that at the next
pub next-numeral : (base place len : ℕ) (numeral : Numeral) → len ≡ numeral.len
    → base + place + 2 < 2 ^ 64 → length numeral.bytes ≡ NUMERAL_ROOM
    → IsNumeral base place numeral → slice_index_or numeral.bytes (len - 1) 0 < 57
    → IsNumeral base (place + 1) (record {
      bytes = slice_set numeral.bytes (len - 1) (slice_index_or numeral.bytes (len - 1) 0 + 1);
      len = numeral.len;
    })
next-numeral base place len numeral len_is fits long text low =
    let n : ℕ = base + place + 1 in
    let bytes : List ℕ =
    slice_set numeral.bytes (len - 1) (slice_index_or numeral.bytes (len - 1) 0 + 1) in
    let next : n + 1 ≡ base + (place + 1) + 1 = omega arith in
    record {
      len = text.len;
      text =
          ap (λ k. take k bytes) (sym len_is)
          ∙ next-text numeral.bytes n len (omega (arith, fits))
          (omega (arith, long, len_is, text.len))
          (ap (λ k. take k numeral.bytes) len_is ∙ text.text) low
          ∙ ap (λ k. codes " " ++ decimal k) next;
    }
