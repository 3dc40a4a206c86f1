-- The pieces of a list of keys between rising ends: the value of a `Loops`, and what is known after a loop is appended.
--
-- For `Loops::push`, `Loops::keys_of` and `bounds`. `AreEnds`, the invariant, goes by places; `Rises` says the same by
-- recursion, which the lemmas on `pieces` need: they have all keys (`length-flat_pieces`), and by place they are ranges
-- (`pieces-at`). A push adds keys behind all ends, so that old pieces stay and the new keys are the last one
-- (`pieces-push`). The lemmas `pushed_..` are the steps of `push`, one for each field.
use Rattle.std.proofs.Common.{◌≡◌, ℕ, ◌+◌, ◌-◌, ◌<◌, ◌≤◌, zero, suc, List, [], ◌∷◌, ◌++◌, length, take, drop, slice_index, slice_index_or, Result, Ok, Err, refl, sym, ap, ◌∙◌, subst, arith}
use Rattle.std.specs.Result.{OnOk, IsOk}
use Rattle.std.specs.List.{slice_range, flat_map}
use Rattle.std.specs.List.Sorted.{IsStrictlyIncreasing}
use Rattle.std.proofs.lemmas.List.{length-append, length-drop, take_all, take-append-le, drop-append-le, drop_at, length-take-le}
use Rattle.face_curves.specs.Loops.{pieces}

-- the ends rise from a start to a last one
abbrev pub Rises : ℕ → ℕ → List ℕ → Type 0
Rises start last [] = start ≡ last
Rises start last (end ∷ ends) = (start < end) × Rises end last ends

-- without its first number a rising list rises
tail_increases : (x : ℕ) (xs : List ℕ) → IsStrictlyIncreasing (x ∷ xs) → IsStrictlyIncreasing xs
tail_increases x xs h k within =
    let e : suc k + 1 ≡ suc (k + 1) = omega arith in
    subst (λ n. slice_index xs k < slice_index (x ∷ xs) n) e (h (suc k) (omega arith))

-- ends that rise strictly to the length are as `Rises` says
pub Rises-from : (start last : ℕ) (ends : List ℕ) → IsStrictlyIncreasing (start ∷ ends)
    → slice_index (start ∷ ends) (length ends) ≡ last → Rises start last ends
Rises-from start last [] rising whole = whole
Rises-from start last (end ∷ ends) rising whole = (
  rising 0 (omega arith),
  Rises-from end last ends (tail_increases start (end ∷ ends) rising)
      whole,
)

-- what `Rises` says of ends makes them rise strictly
pub Rises-increases : (start last : ℕ) (ends : List ℕ) → Rises start last ends
    → IsStrictlyIncreasing (start ∷ ends)
Rises-increases start last [] rises k within = absurd (omega arith)
Rises-increases start last (end ∷ ends) rises zero within = rises.0
Rises-increases start last (end ∷ ends) rises (suc k) within =
    let e : suc (k + 1) ≡ suc k + 1 = omega arith in
    subst (λ n. slice_index (end ∷ ends) k < slice_index (start ∷ end ∷ ends) n) e
    (Rises-increases end last ends rises.1 k (omega arith))

-- what `Rises` says of ends makes the last one the length
pub Rises-last : (start last : ℕ) (ends : List ℕ) → Rises start last ends
    → slice_index (start ∷ ends) (length ends) ≡ last
Rises-last start last [] rises = rises
Rises-last start last (end ∷ ends) rises = Rises-last end last ends rises.1

-- the start is at most the last end
Rises-le : (start last : ℕ) (ends : List ℕ) → Rises start last ends → start ≤ last
Rises-le start last [] rises = omega arith
Rises-le start last (end ∷ ends) rises = omega (arith, rises.0, Rises-le end last ends rises.1)

-- one more end
Rises-push : (start last : ℕ) (ends : List ℕ) (more : ℕ) → last < more → Rises start last ends
    → Rises start more (ends ++ more ∷ [])
Rises-push start last [] more lt rises = (omega arith, refl)
Rises-push start last (end ∷ ends) more lt rises =
    (rises.0, Rises-push end last ends more lt rises.1)

-- a piece that ends within the keys stays when keys are added
slice_range-append : (keys more : List ℕ) (start end : ℕ) → start ≤ end → end ≤ length keys
    → slice_range (keys ++ more) start end ≡ slice_range keys start end
slice_range-append keys more start end from to =
    ap (take (end - start)) (drop-append-le start keys more (omega arith))
    ∙ take-append-le (end - start) (drop start keys) more
    (omega (arith, length-drop start keys))

-- what is added is the last piece
slice_range-added : (keys more : List ℕ) (start : ℕ) → start ≡ length keys
    → slice_range (keys ++ more) start (length keys + length more) ≡ more
slice_range-added keys more start from =
    ap (take (length keys + length more - start)) (drop_at keys more start (sym from))
    ∙ take_all (length keys + length more - start) more (omega arith)

-- keys and their end appended are one more piece
pieces-push : (keys more : List ℕ) (start : ℕ) (ends : List ℕ) → Rises start (length keys) ends
    → pieces (keys ++ more) start (ends ++ (length keys + length more) ∷ [])
    ≡ pieces keys start ends ++ more ∷ []
pieces-push keys more start [] rises =
    ap (λ piece. piece ∷ []) (slice_range-added keys more start rises)
pieces-push keys more start (end ∷ ends) rises =
    ap (λ piece. piece ∷ pieces (keys ++ more) end (ends ++ (length keys + length more) ∷ []))
    (slice_range-append keys more start end (omega (arith, rises.0))
    (Rises-le end (length keys) ends rises.1))
    ∙ ap (λ rest. slice_range keys start end ∷ rest) (pieces-push keys more end ends rises.1)

-- there is a piece for each end
pub length-pieces : (keys : List ℕ) (start : ℕ) (ends : List ℕ)
    → length (pieces keys start ends) ≡ length ends
length-pieces keys start [] = refl
length-pieces keys start (end ∷ ends) = ap suc (length-pieces keys end ends)

-- the pieces have all keys
pub length-flat_pieces : (keys : List ℕ) (start : ℕ) (ends : List ℕ)
    → Rises start (length keys) ends → start + length
    (flat_map (λ piece. piece) (pieces keys start ends)) ≡ length keys
length-flat_pieces keys start [] rises = omega arith
length-flat_pieces keys start (end ∷ ends) rises =
    let piece = slice_range keys start end in
    let rest = flat_map (λ p. p) (pieces keys end ends) in
    let long : length piece ≡ end - start = length_piece in
    omega (arith, length-append piece rest, long, length-flat_pieces keys end ends rises.1, rises.0)
  where
    length_piece : length (slice_range keys start end) ≡ end - start
    length_piece = grind (
      arith,
      length-drop,
      length-take-le,
      Rises-le end (length keys) ends rises.1,
      rises.0,
    )

-- a piece, by its place
pub pieces-at : (keys : List ℕ) (start : ℕ) (ends : List ℕ) (place : ℕ) → place < length ends
    → slice_index_or (pieces keys start ends) place []
    ≡ slice_range keys (slice_index (start ∷ ends) place) (slice_index ends place)
pieces-at keys start [] place within = absurd (omega arith)
pieces-at keys start (end ∷ ends) zero within = refl
pieces-at keys start (end ∷ ends) (suc place) within = pieces-at keys end ends place (omega arith)

-- an end is above the one before it, and within the keys
pub Rises-at : (start last : ℕ) (ends : List ℕ) (place : ℕ) → Rises start last ends
    → place < length ends → (slice_index (start ∷ ends) place < slice_index ends place)
    × (slice_index ends place ≤ last)
Rises-at start last [] place rises within = absurd (omega arith)
Rises-at start last (end ∷ ends) zero rises within = (rises.0, Rises-le end last ends rises.1)
Rises-at start last (end ∷ ends) (suc place) rises within =
    Rises-at end last ends place rises.1 (omega arith)

-- what holds if a call has room, and it has
from_ok : {T E P : Type 0} (r : Result T E) → OnOk r P → IsOk r → P
from_ok (Ok x) p ok = p
from_ok (Err e) p ok = cc

-- what is known after a loop is appended to keys and ends
pub pushed_keys : {T E : Type 0} (old more new ends : List ℕ) (r : Result T E)
    → Rises 0 (length old) ends → length (flat_map (λ piece. piece) (pieces old 0 ends))
    + length more ≤ 16 → (length old + length more ≤ 16 → IsOk r) → OnOk r (new ≡ old ++ more)
    → new ≡ old ++ more
pushed_keys old more new ends r rises room fits ok =
    from_ok r ok (fits (omega (arith, length-flat_pieces old 0 ends rises)))

-- the new end is the length of all keys
pub pushed_ends : (old more new ends new_ends : List ℕ) (last : ℕ) → new ≡ old ++ more
    → last ≡ length new → new_ends ≡ ends ++ last ∷ []
    → new_ends ≡ ends ++ (length old + length more) ∷ []
pushed_ends old more new ends new_ends last keys end pushed =
    pushed ∙ ap (λ n. ends ++ n ∷ []) (end ∙ ap length keys ∙ length-append old more)

-- the new end is above the others, since the new loop has a key
pub pushed_rises : (old more new ends new_ends : List ℕ) → 0 < length more
    → Rises 0 (length old) ends → new ≡ old ++ more
    → new_ends ≡ ends ++ (length old + length more) ∷ [] → Rises 0 (length new) new_ends
pushed_rises old more new ends new_ends some rises keys pushed =
    let long : length new ≡ length old + length more = ap length keys ∙ length-append old more in
    let risen = Rises-push 0 (length old) ends (length old + length more) (omega arith) rises in
    subst (λ n. Rises 0 n new_ends) (sym long)
    (subst (λ es. Rises 0 (length old + length more) es) (sym pushed) risen)

-- the new pieces are the old ones and the new loop
pub pushed_pieces : (old more new ends new_ends : List ℕ) → Rises 0 (length old) ends
    → new ≡ old ++ more → new_ends ≡ ends ++ (length old + length more) ∷ []
    → pieces new 0 new_ends ≡ pieces old 0 ends ++ more ∷ []
pushed_pieces old more new ends new_ends rises keys pushed = ap (λ ks. pieces ks 0 new_ends) keys
    ∙ ap (pieces (old ++ more) 0) pushed ∙ pieces-push old more 0 ends rises
