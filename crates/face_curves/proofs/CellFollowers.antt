-- What the curves of a closed cell are to a table of followers: they start apart, their keys have places in the table,
-- and their loops have room in a `Loops`.
--
-- For `Followers::new` and `loops`: what these calls require of their helpers, from `IsClosed`. The first half takes a
-- cell's curves apart, those of the faces before, of the face at hand, and the rest. The second half bounds loops: an
-- orbit has at most 16 keys, and a loop more fits, since all together have 16 keys and are five (`CellLoops`).
use Rattle.std.proofs.Common.{◌≡◌, ℕ, ◌+◌, ◌<◌, ◌≤◌, zero, suc, Bool, true, false, List, [], ◌∷◌, ◌++◌, length, take, drop, slice_index_or, refl, sym, ap, ◌∙◌, arith, All}
use Rattle.std.specs.List.{AllByRecursion, flat_map}
use Rattle.std.proofs.lemmas.Bool.{false_from_ne_true}
use Rattle.std.proofs.lemmas.List.{append-nil, length-append, take_more, take-append-drop}
use Rattle.std.proofs.lemmas.List.Concat.{flat_map-append}
use Rattle.terrain.specs.declared.curve.Curve.{Curve}
use Rattle.terrain.specs.Curves.{Polygon, IsPolygon, IsClosed, curves, cell_curves, starts, orbit, count_of, loops, loops_of}
use Rattle.face_curves.specs.Followers.{StartApart, begins_loop}
use Rattle.face_curves.proofs.MapFilter.{listed, listed-around}
use Rattle.face_curves.proofs.CellLoops.{loops-keys, loops-count}
use Rattle.face_curves.proofs.CountOf.{Has, hit_cases}
use Rattle.face_curves.proofs.Orbit.{starting, ending, IsPaired, Has-from_starts, orbit-turn, length-steps, orbit_is}
use Rattle.face_curves.proofs.LoopFrom.{rest_from-turn, next-none}
use Rattle.face_curves.proofs.IsClosed.{starting-count, ending-count}

-- a polygon of a cell, by its place
pub IsPolygon-at : (faces : List Polygon) (i : ℕ) (d : Polygon) → AllByRecursion IsPolygon faces
    → i < length faces → IsPolygon (slice_index_or faces i d)
IsPolygon-at [] i d are within = absurd (omega arith)
IsPolygon-at (p ∷ ps) zero d are within = are.0
IsPolygon-at (p ∷ ps) (suc i) d are within = IsPolygon-at ps i d are.1 (omega arith)

-- the curves up to a place and those of the face there; and the rest
pub cell_curves-more : (faces : List Polygon) (i : ℕ) (d : Polygon) → i < length faces
    → cell_curves (take (i + 1) faces) ≡ cell_curves (take i faces) ++ curves
    (slice_index_or faces i d)
cell_curves-more faces i d within =
    let p = slice_index_or faces i d in
    ap cell_curves (take_more faces i d within) ∙ flat_map-append curves (take i faces) (p ∷ [])
    ∙ ap (λ cs. cell_curves (take i faces) ++ cs) (append-nil (curves p))

-- the curves of a cell are those up to a face, those of the face, and the rest
pub cell_curves-split : (faces : List Polygon) (i : ℕ) (d : Polygon) → i < length faces
    → cell_curves faces ≡ (cell_curves (take i faces) ++ curves (slice_index_or faces i d))
    ++ cell_curves (drop (i + 1) faces)
cell_curves-split faces i d within =
    ap cell_curves (sym (take-append-drop (i + 1) faces))
    ∙ flat_map-append curves (take (i + 1) faces) (drop (i + 1) faces)
    ∙ ap (λ cs. cs ++ cell_curves (drop (i + 1) faces)) (cell_curves-more faces i d within)

-- no two paired curves start at one key
pub IsPaired-apart : {cs : List Curve} → IsPaired cs → StartApart cs
IsPaired-apart {cs} paired before after c e =
    false_from_ne_true (starts before c.start) (λ starts_there.
    let there = Has-from_starts before c.start starts_there in
    let all : count_of c.start (starting cs) ≡ count_of c.start (starting (before ++ c ∷ after)) =
    ap (λ ds. count_of c.start (starting ds)) e in
    omega (
      arith,
      paired.once c.start,
      all,
      starting-count c.start before (c ∷ after),
      there,
      hit_cases c.start c.start,
    ))

-- a curve of a list starts at one of its starts
Has-start : (cs : List Curve) (k : ℕ) (d : Curve) → k < length cs
    → Has (starting cs) (slice_index_or cs k d).start
Has-start [] k d within = absurd (omega arith)
Has-start (c ∷ cs) zero d within = omega (arith, hit_cases c.start c.start)
Has-start (c ∷ cs) (suc k) d within = omega (arith, Has-start cs k d (omega arith))

-- a curve of a list ends at one of its ends
Has-end : (cs : List Curve) (k : ℕ) (d : Curve) → k < length cs
    → Has (ending cs) (slice_index_or cs k d).end
Has-end [] k d within = absurd (omega arith)
Has-end (c ∷ cs) zero d within = omega (arith, hit_cases c.end c.end)
Has-end (c ∷ cs) (suc k) d within = omega (arith, Has-end cs k d (omega arith))

-- the ends of the curves are numbers below 16
pub IsPaired-within : {cs : List Curve} → IsPaired cs → (xs ds zs : List Curve)
    → cs ≡ (xs ++ ds) ++ zs → All (λ c. (c.start < 16) × (c.end < 16)) ds
IsPaired-within {cs} paired xs ds zs e k d within =
    let c = slice_index_or ds k d in
    let start : Has (starting cs) c.start =
    omega (
      arith,
      ap (λ es. count_of c.start (starting es)) e,
      starting-count c.start (xs ++ ds) zs,
      starting-count c.start xs ds,
      Has-start ds k d within,
    )
    in
    let end : Has (ending cs) c.end = omega (
      arith,
      ap (λ es. count_of c.end (ending es)) e,
      ending-count c.end (xs ++ ds) zs,
      ending-count c.end xs ds,
      Has-end ds k d within,
    ) in
    (paired.below c.start start, paired.below c.end (omega (arith, paired.even c.end, end)))

-- no orbit has more than 16 keys
pub orbit-short : {cs : List Curve} → IsPaired cs → (key : ℕ) → length (orbit cs key) ≤ 16
orbit-short {cs} paired key =
    elim_bool (starts cs key)
    (λ here.
    let turn = orbit-turn paired key (Has-from_starts cs key here) in
    omega (arith, ap length turn.1.walk, length-steps cs (suc turn.0) key, turn.1.short))
    (λ gone.
    let alone : orbit cs key ≡ key ∷ [] = orbit_is cs key
    ∙ ap (λ ks. key ∷ ks) (rest_from-turn cs key 15 key (next-none cs key gone)) in
    omega (arith, ap length alone))
  where
    elim_bool : (b : Bool) → (b ≡ true → length (orbit cs key) ≤ 16)
        → (b ≡ false → length (orbit cs key) ≤ 16) → length (orbit cs key) ≤ 16
    elim_bool true here gone = here refl
    elim_bool false here gone = gone refl

-- the loops of a cell, as a list over the keys
pub loops-listed : (faces : List Polygon)
    → listed (orbit (cell_curves faces)) (begins_loop (cell_curves faces)) 16 ≡ loops faces
unfolding loops_of
loops-listed faces = refl

-- an orbit has a key
orbit-some : (cs : List Curve) (key : ℕ) → 0 < length (orbit cs key)
orbit-some cs key = omega (arith, ap length (orbit_is cs key))

-- there is room for one more loop
pub loop-room : (faces : List Polygon) (key : ℕ) (lists : List (List ℕ)) (keys : List ℕ)
    → IsClosed faces → key < 16 → begins_loop (cell_curves faces) key ≡ true
    → keys ≡ orbit (cell_curves faces) key
    → lists ≡ listed (orbit (cell_curves faces)) (begins_loop (cell_curves faces)) key
    → (0 < length keys) × (length (flat_map (λ list. list) lists) + length keys ≤ 16)
    × (length lists < 5)
loop-room faces key lists keys closed within begins here so_far =
    let cs = cell_curves faces in
    let around = listed-around (orbit cs) (begins_loop cs) key 16 within begins in
    let all : loops faces ≡ lists ++ keys ∷ around.0 = sym (loops-listed faces) ∙ around.1
    ∙ ap (λ ls. ls ++ orbit cs key ∷ around.0) (sym so_far)
    ∙ ap (λ ks. lists ++ ks ∷ around.0) (sym here) in
    let flat = λ (ls : List (List ℕ)). flat_map (λ list. list) ls in
    let flat_all : length (flat (loops faces)) ≡ length (flat lists) +
    (length keys + length (flat around.0)) =
    ap (λ ls. length (flat ls)) all
    ∙ ap length (flat_map-append (λ list. list) lists (keys ∷ around.0))
    ∙ length-append (flat lists) (keys ++ flat around.0)
    ∙ ap (λ n. length (flat lists) + n) (length-append keys (flat around.0)) in (
      omega (arith, ap length here, orbit-some cs key),
      omega (arith, flat_all, loops-keys faces closed),
      omega (arith, ap length all, length-append lists (keys ∷ around.0), loops-count faces closed),
    )

-- the face at hand is the polygon at its place
pub face-at : (faces found : List Polygon) (i : ℕ) (face : Polygon) → found ≡ faces
    → face ≡ slice_index_or found i face → i < length found
    → (i < length faces) × (face ≡ slice_index_or faces i face)
face-at faces found i face same here within =
    (omega (arith, ap length same), here ∙ ap (λ xs. slice_index_or xs i face) same)
