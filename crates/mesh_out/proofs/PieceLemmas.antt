-- Lines that are put together piece by piece: the line of a vertex, and that of a triangle.
-- Five pieces behind one another are one text (`pieces`): numbers behind blanks (`spaced`), and the corners of a
-- triangle (`cornered`). Lines gather behind what was appended before them (`lines-more`).
use Rattle.std.proofs.Common.{◌≡◌, ℕ, ◌+◌, ◌<◌, List, [], ◌∷◌, ◌++◌, get_or, length, take, flat_map, codes, refl, sym, ap, ◌∙◌, arith, append_assoc, append-nil}
use Rattle.std.proofs.lemmas.List.{flat_map_more, take_more}
use Rattle.digits.proofs.LineLemmas.{puts-more}
use Rattle.digits.specs.Lines.{Puts}

-- the pieces behind one another, from a place of a line on
pub pieces : (l0 l1 l2 l3 l4 l5 : List ℕ) (at p q r s end : ℕ) (head a b c last : List ℕ)
    → Puts l0 l1 at p head → Puts l1 l2 p q a → Puts l2 l3 q r b → Puts l3 l4 r s c
    → Puts l4 l5 s end last → Puts l0 l5 at end (head ++ a ++ b ++ c ++ last)
pieces l0 l1 l2 l3 l4 l5 at p q r s end head a b c last at0 at1 at2 at3 at4 =
    let two = puts-more l0 l1 l2 at p q head a at0 at1 in
    let three = puts-more l0 l2 l3 at q r (head ++ a) b two at2 in
    let four = puts-more l0 l3 l4 at r s (head ++ a ++ b) c three at3 in
    puts-more l0 l4 l5 at s end (head ++ a ++ b ++ c) last four at4

-- a line more, behind those that were appended and those that are gathered
pub lines-more : {X : Type 0} (f : X → List ℕ) (xs : List X) (i : ℕ) (d : X)
    (start before after old new : List ℕ) (end from next : ℕ) → i < length xs
    → before ++ take end old ≡ start ++ flat_map f (take i xs)
    → after ++ take from old ≡ before ++ take end old → Puts old new from next (f (get_or xs i d))
    → after ++ take next new ≡ start ++ flat_map f (take (i + 1) xs)
lines-more f xs i d start before after old new end from next lt so_far moved written =
    let text : List ℕ = f (get_or xs i d) in
    ap (λ t. after ++ t) written.front ∙ sym (append_assoc after (take from old) text)
    ∙ ap (λ t. t ++ text) (moved ∙ so_far) ∙ flat_map_more f start (take i xs) (get_or xs i d)
    ∙ ap (λ t. start ++ flat_map f t) (sym (take_more xs i d lt))

-- numbers behind blanks
pub spaced : (head y z last : List ℕ)
    → head ++ (codes " " ++ y) ++ (codes " " ++ z) ++ last
    ≡ head ++ codes " " ++ y ++ codes " " ++ z ++ last
spaced head y z last =
    ap (λ t. t ++ last)
    (ap (λ t. t ++ (codes " " ++ z)) (sym (append_assoc head (codes " ") y))
    ∙ sym (append_assoc (head ++ codes " " ++ y) (codes " ") z))

-- the numbers of a triangle
pub cornered : (text : ℕ → List ℕ) (head last : List ℕ) (a b c : ℕ)
    → head ++ text a ++ text b ++ text c ++ last
    ≡ head ++ flat_map text (a ∷ b ∷ c ∷ []) ++ last
cornered text head last a b c =
    ap (λ t. t ++ last)
    (append_assoc (head ++ text a) (text b) (text c)
    ∙ append_assoc head (text a) (text b ++ text c)
    ∙ ap (λ t. head ++ (text a ++ (text b ++ t))) (sym (append-nil (text c))))

-- three numbers of a list of three
pub three : (places : List ℕ) → length places ≡ 3
    → get_or places 0 0 ∷ get_or places 1 0 ∷ get_or places 2 0 ∷ [] ≡ places
three [] long = absurd (omega (arith, long))
three (a ∷ []) long = absurd (omega (arith, long))
three (a ∷ b ∷ []) long = absurd (omega (arith, long))
three (a ∷ b ∷ c ∷ []) long = refl
three (a ∷ b ∷ c ∷ d ∷ places) long = absurd (omega (arith, long))
