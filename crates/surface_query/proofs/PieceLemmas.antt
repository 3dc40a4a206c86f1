-- Lines that are put together piece by piece: the line of a normal, and that of a triangle.
-- Five pieces behind one another are one text (`pieces`), and the first bytes of a piece are a text too (`puts-first`).
-- Lines gather behind what was appended before them (`lines-more`).
use Rattle.std.proofs.Common.{◌≡◌, ℕ, suc, ◌+◌, ◌-◌, ◌<◌, ◌≤◌, List, [], ◌∷◌, ◌++◌, drop, get_or, length, take, flat_map, codes, refl, subst, sym, ap, ◌∙◌, arith, append_assoc, append-nil, length-append, length-drop}
use Rattle.std.proofs.Math.Seq.{take-append-add, take-length}
use Rattle.std.proofs.lemmas.List.{flat_map_more, length-take-le, take-append-drop, take-append-le, take_more}
use Rattle.digits.proofs.LineLemmas.{puts-more, puts-same}
use Rattle.digits.specs.Lines.{Puts}

-- the pieces behind one another, from a place of a line on
pub pieces : (l0 l1 l2 l3 l4 l5 : List ℕ) (at p q r s end : ℕ) (head a b c last : List ℕ)
    → Puts l0 l1 at p head → Puts l1 l2 p q a → Puts l2 l3 q r b → Puts l3 l4 r s c
    → Puts l4 l5 s end last → Puts l0 l5 at end (head ++ a ++ b ++ c ++ last)
pieces l0 l1 l2 l3 l4 l5 at p q r s end head a b c last at0 at1 at2 at3 at4 =
    let two = puts-more l0 l1 l2 at p q head a at0 at1 in
    let three = puts-more l0 l2 l3 at q r (head ++ a) b two at2 in
    let four = puts-more l0 l3 l4 at r s (head ++ a ++ b) c three at3 in
    puts-more l0 l4 l5 at s end (head ++ a ++ b ++ c) last four at4

-- the first bytes of what was put
pub puts-first : (old new : List ℕ) (at end n : ℕ) (bytes : List ℕ) → Puts old new at end bytes
    → n ≤ length bytes → at ≤ length old → Puts old new at (at + n) (take n bytes)
puts-first old new at end n bytes written few room =
    let begun : length (take at old) ≡ at = length-take-le at old room in
    let whole : List ℕ = take at old ++ bytes in
    let within : at + n ≤ length whole =
    omega (arith, few, begun, length-append (take at old) bytes) in
    record {
      long = written.long;
      behind = omega (arith, length-take-le n bytes few);
      front =
          ap (take (at + n)) (sym (take-append-drop end new)
          ∙ ap (λ t. t ++ drop end new) written.front)
          ∙ take-append-le (at + n) whole (drop end new) within
          ∙ ap (λ k. take (k + n) whole) (sym begun) ∙ take-append-add (take at old) bytes n;
    }

-- digits behind a blank, without the blank
digits-of : (spaced digits : List ℕ) (blank end : ℕ) → take (suc end) spaced ≡ blank ∷ digits
    → take end (drop 1 spaced) ≡ digits
digits-of [] digits blank end is = absurd (omega (arith, ap length is))
digits-of (x ∷ xs) digits blank end is = ap (drop 1) is

-- the same digits behind a blank and behind two slashes
pub twice : (l0 l1 l2 l3 spaced digits slashes : List ℕ) (blank p end behind q : ℕ)
    → length spaced ≡ 21 → 1 ≤ end → end ≤ 21 → take end spaced ≡ blank ∷ digits
    → Puts l0 l1 0 p spaced → Puts l1 l2 end behind slashes
    → Puts l2 l3 behind q (take 20 (drop 1 spaced)) → behind ≤ length l2
    → Puts l0 l3 0 (behind + (end - 1)) ((blank ∷ digits) ++ slashes ++ digits)
twice l0 l1 l2 l3 spaced digits slashes blank p end behind q long some few is first mid rest room =
    let whole_end : 0 + end ≡ end = omega arith in
    let begins = puts-same l0 l1 0 end (take end spaced) (blank ∷ digits)
    (subst (λ k. Puts l0 l1 0 k (take end spaced)) whole_end
    (puts-first l0 l1 0 p end spaced first (omega (arith, long, few)) (omega arith))) is in
    let others : length (drop 1 spaced) ≡ 20 = omega (arith, long, length-drop 1 spaced) in
    let all : take 20 (drop 1 spaced) ≡ drop 1 spaced =
    ap (λ k. take k (drop 1 spaced)) (sym others) ∙ take-length (drop 1 spaced) in
    let more : end ≡ suc (end - 1) = omega (arith, some) in
    let same = digits-of spaced digits blank (end - 1) (ap (λ k. take k spaced) (sym more) ∙ is) in
    let ends = puts-same l2 l3 behind (behind + (end - 1)) (take (end - 1) (drop 1 spaced)) digits
    (puts-first l2 l3 behind q (end - 1) (drop 1 spaced)
    (puts-same l2 l3 behind q (take 20 (drop 1 spaced)) (drop 1 spaced) rest all)
    (omega (arith, others, few)) room) same in
    puts-more l0 l2 l3 0 behind (behind + (end - 1)) ((blank ∷ digits) ++ slashes) digits
    (puts-more l0 l1 l2 0 end behind (blank ∷ digits) slashes begins mid) ends

-- a line more, behind those that were appended and those that are gathered
pub lines-more : {X : Type 0} (f : X → List ℕ) (xs : List X) (i : ℕ) (d : X)
    (start before after old new : List ℕ) (end from next : ℕ) → i < length xs
    → before ++ take end old ≡ start ++ flat_map f (take i xs)
    → after ++ take from old ≡ before ++ take end old → Puts old new from next (f (get_or xs i d))
    → after ++ take next new ≡ start ++ flat_map f (take (i + 1) xs)
lines-more f xs i d start before after old new end from next lt so_far moved written =
    let text : List ℕ = f (get_or xs i d) in
    ap (λ t. after ++ t) written.front ∙ sym (append_assoc after (take from old) text)
    ∙ ap (λ t. t ++ text) (moved ∙ so_far) ∙ flat_map_more f start (take i xs) (get_or xs i d)
    ∙ ap (λ t. start ++ flat_map f t) (sym (take_more xs i d lt))

-- numbers behind blanks
pub spaced : (head y z last : List ℕ)
    → head ++ (codes " " ++ y) ++ (codes " " ++ z) ++ last
    ≡ head ++ codes " " ++ y ++ codes " " ++ z ++ last
spaced head y z last =
    ap (λ t. t ++ last)
    (ap (λ t. t ++ (codes " " ++ z)) (sym (append_assoc head (codes " ") y))
    ∙ sym (append_assoc (head ++ codes " " ++ y) (codes " ") z))

-- the corners of a triangle
pub cornered : (text : ℕ → List ℕ) (head last : List ℕ) (a b c : ℕ)
    → head ++ text a ++ text b ++ text c ++ last
    ≡ head ++ flat_map text (a ∷ b ∷ c ∷ []) ++ last
cornered text head last a b c =
    ap (λ t. t ++ last)
    (append_assoc (head ++ text a) (text b) (text c)
    ∙ append_assoc head (text a) (text b ++ text c)
    ∙ ap (λ t. head ++ (text a ++ (text b ++ t))) (sym (append-nil (text c))))

-- three numbers of a list of three
pub three : (places : List ℕ) → length places ≡ 3
    → get_or places 0 0 ∷ get_or places 1 0 ∷ get_or places 2 0 ∷ [] ≡ places
three [] long = absurd (omega (arith, long))
three (a ∷ []) long = absurd (omega (arith, long))
three (a ∷ b ∷ []) long = absurd (omega (arith, long))
three (a ∷ b ∷ c ∷ []) long = refl
three (a ∷ b ∷ c ∷ d ∷ places) long = absurd (omega (arith, long))
