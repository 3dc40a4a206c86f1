-- The keys of triangles, each once and in the order of first use, and triangles as indices of their keys
-- (docs/rules.md, "The mesh of a leaf").
--
-- For `IsMesh`, by `MeshLemmas`. Keys are put in one after another, each behind the others where it isn't among them.
-- So no key is there twice (`IsDistinct-keys_of`); each key that is put in has an index that is known already, or is
-- the next one (`next-one`), so that the indices of all triangles come in the order of first use
-- (`AreInOrder-indices_of`); and all are indices of keys (`All-indices_of`).
use Rattle.std.proofs.Common.{◌≡◌, ℕ, ◌+◌, ◌<◌, ◌≤◌, Bool, true, false, cond, ◌||◌, List, [], ◌∷◌, ◌++◌, length, length-append, map, refl, sym, ap, ◌∙◌, subst, arith}
use Rattle.std.specs.Prelude.{All, max}
use Rattle.std.specs.List.{AllByRecursion, IsDistinct, flat_map, list_any}
use Rattle.std.proofs.lemmas.Bool.{true≢false}
use Rattle.std.proofs.lemmas.List.{map-append}
use Rattle.std.proofs.lemmas.List.Elements.{All-from_recursion}
use Rattle.std.proofs.lemmas.Map.Keys.{IsDistinct-cons, IsDistinct-head, IsDistinct-tail}
use Rattle.lattice.specs.declared.key.Key.{Key}
use Rattle.lattice.specs.Key.{is_same_key}
use Rattle.terrain.specs.Blocks.{keys_of, with_key, with_keys}
use Rattle.block_mesh.specs.Mesh.{AreInOrder, index_among, indices_of}
use Rattle.block_mesh.proofs.KeyLemmas.{All-back, All-front, IsKnown, IsKnown-with_key, place-begins, same_self, with_keys-begins, with_keys-knows}

-- ---- each key once

-- a key isn't among the keys
abbrev IsNew : List Key → Key → Type 0
IsNew keys key = list_any (λ k. is_same_key k key) keys ≡ false

-- where neither of two tests passes, both fail
neither : (b c : Bool) → (b || c) ≡ false → (b ≡ false) × (c ≡ false)
neither true c is = absurd (true≢false is)
neither false c is = (refl, is)

-- what holds of all keys and of one more
All-last : (P : Key → Type 0) (keys : List Key) (key : Key) → AllByRecursion P keys → P key
    → AllByRecursion P (keys ++ key ∷ [])
All-last P [] key all last = (last, tt)
All-last P (k ∷ keys) key all last = (all.0, All-last P keys key all.1 last)

-- no key is there twice where there is none
IsDistinct-none : IsDistinct is_same_key []
unfolding IsDistinct
IsDistinct-none = tt

-- nor where a new one is put behind them
IsDistinct-last : (keys : List Key) (key : Key) → IsDistinct is_same_key keys → IsNew keys key
    → IsDistinct is_same_key (keys ++ key ∷ [])
IsDistinct-last [] key once new = IsDistinct-cons is_same_key key [] tt IsDistinct-none
IsDistinct-last (k ∷ keys) key once new =
    let told = neither (is_same_key k key) (list_any (λ k. is_same_key k key) keys) new in
    IsDistinct-cons is_same_key k (keys ++ key ∷ [])
    (All-last (λ other. is_same_key k other ≡ false) keys key
    (IsDistinct-head is_same_key k keys once) told.0)
    (IsDistinct-last keys key (IsDistinct-tail is_same_key k keys once) told.1)

-- nor where a key is put in that may be there
IsDistinct-one : (b : Bool) (keys : List Key) (key : Key)
    → list_any (λ k. is_same_key k key) keys ≡ b → IsDistinct is_same_key keys
    → IsDistinct is_same_key (cond b keys (keys ++ key ∷ []))
IsDistinct-one true keys key is once = once
IsDistinct-one false keys key is once = IsDistinct-last keys key once is

-- nor where a list of keys is put in
IsDistinct-with_keys : (known keys : List Key) → IsDistinct is_same_key known
    → IsDistinct is_same_key (with_keys known keys)
IsDistinct-with_keys known [] once = once
IsDistinct-with_keys known (key ∷ keys) once =
    IsDistinct-with_keys (with_key known key) keys
    (IsDistinct-one (list_any (λ k. is_same_key k key) known) known key refl once)

-- no key of triangles is in the list twice
pub IsDistinct-keys_of : (triangles : List (List Key))
    → IsDistinct is_same_key (keys_of triangles)
IsDistinct-keys_of triangles =
    IsDistinct-with_keys [] (flat_map (λ triangle. triangle) triangles) IsDistinct-none

-- ---- places

-- a key that isn't the first is among the others
known-later : (b c : Bool) → b ≡ false → (b || c) ≡ true → c ≡ true
known-later true c is known = absurd (true≢false is)
known-later false c is known = known

-- an index with one more key before it
place-below : (b : Bool) (place n : ℕ) → (b ≡ false → place < n) → cond b 0 (1 + place) < 1 + n
place-below true place n later = omega arith
place-below false place n later = let below = later refl in omega arith

-- the index of a known key is one of the keys'
pub place-known : (keys : List Key) (key : Key) → IsKnown keys key
    → index_among key keys < length keys
place-known [] key known = absurd (true≢false (sym known))
place-known (k ∷ keys) key known =
    let below : cond (is_same_key k key) 0 (1 + index_among key keys) < 1 + length keys =
    place-below (is_same_key k key) (index_among key keys) (length keys) (λ other.
    place-known keys key (known-later (is_same_key k key)
    (list_any (λ k. is_same_key k key) keys) other known)) in
    omega arith

-- that of a new one is the next
place-new : (keys : List Key) (key : Key) → IsNew keys key
    → index_among key (keys ++ key ∷ []) ≡ length keys
place-new [] key new = ap (λ b. cond b 0 1) (same_self key)
place-new (k ∷ keys) key new =
    let told = neither (is_same_key k key) (list_any (λ k. is_same_key k key) keys) new in
    let rest = place-new keys key told.1 in
    ap (λ b. cond b 0 (1 + index_among key (keys ++ key ∷ []))) told.0
    ∙ (let next : 1 + index_among key (keys ++ key ∷ []) ≡ length (k ∷ keys) = omega arith in next)

-- a key that is put in is one of those that are known, or the next one
record IsNext (known : ℕ) (place more : ℕ) : Type 0 where
  most : place ≤ known
  count : max known (place + 1) ≡ more

-- a key that is put in has such an index
next-one : (b : Bool) (keys : List Key) (key : Key)
    → list_any (λ k. is_same_key k key) keys ≡ b
    → IsNext (length keys) (index_among key (cond b keys (keys ++ key ∷ [])))
    (length (cond b keys (keys ++ key ∷ [])))
next-one true keys key is =
    let below = place-known keys key is in record { most = omega arith; count = omega arith }
next-one false keys key is =
    let at = place-new keys key is in
    let long = length-append keys (key ∷ []) in
    record { most = omega arith; count = omega arith }

-- a list of keys that is put in comes in order
AreInOrder-with_keys : (known keys : List Key)
    → AreInOrder (length (with_keys known keys)) (length known)
    (map (λ key. index_among key (with_keys known keys)) keys)
AreInOrder-with_keys known [] = refl
AreInOrder-with_keys known (key ∷ keys) =
    let next : List Key = with_key known key in
    let all : List Key = with_keys next keys in
    let step = next-one (list_any (λ k. is_same_key k key) known) known key refl in
    let at : index_among key all ≡ index_among key next =
    place-begins all next key (with_keys-begins next keys) (IsKnown-with_key known key) in
    let count : max (length known) (index_among key all + 1) ≡ length next =
    ap (λ p. max (length known) (p + 1)) at ∙ step.count in (
      subst (λ p. p ≤ length known) (sym at) step.most,
      subst (λ n. AreInOrder (length all) n (map (λ key. index_among key all) keys)) (sym count)
          (AreInOrder-with_keys next keys),
    )

-- the places in a list of triangles
named : (keys : List Key) (triangles : List (List Key))
    → flat_map (λ triangle. triangle) (indices_of keys triangles)
    ≡ map (λ key. index_among key keys) (flat_map (λ triangle. triangle) triangles)
named keys [] = refl
named keys (t ∷ ts) =
    ap (λ places. map (λ key. index_among key keys) t ++ places) (named keys ts)
    ∙ sym (map-append (λ key. index_among key keys) t (flat_map (λ triangle. triangle) ts))

-- the places of the keys of triangles come in the order of first use
pub AreInOrder-indices_of : (triangles : List (List Key))
    → AreInOrder (length (keys_of triangles)) 0
    (flat_map (λ triangle. triangle) (indices_of (keys_of triangles) triangles))
AreInOrder-indices_of triangles =
    subst (AreInOrder (length (keys_of triangles)) 0) (sym (named (keys_of triangles) triangles))
    (AreInOrder-with_keys [] (flat_map (λ triangle. triangle) triangles))

-- a triangle of known keys has places of keys
places-known : (keys : List Key) (triangle : List Key) → AllByRecursion (IsKnown keys) triangle
    → AllByRecursion (λ place. place < length keys) (map (λ key. index_among key keys) triangle)
places-known keys [] known = tt
places-known keys (key ∷ triangle) known =
    (place-known keys key known.0, places-known keys triangle known.1)

-- the same of all triangles
all_places-known : (keys : List Key) (triangles : List (List Key))
    → AllByRecursion (IsKnown keys) (flat_map (λ triangle. triangle) triangles)
    → AllByRecursion (All (λ place. place < length keys)) (indices_of keys triangles)
all_places-known keys [] known = tt
all_places-known keys (t ∷ ts) known =
    let rest : List Key = flat_map (λ triangle. triangle) ts in (
      All-from_recursion (λ place. place < length keys) (map (λ key. index_among key keys) t)
          (places-known keys t (All-front (IsKnown keys) t rest known)),
      all_places-known keys ts (All-back (IsKnown keys) t rest known),
    )

-- they are places of keys
pub All-indices_of : (triangles : List (List Key))
    → All (All (λ place. place < length (keys_of triangles)))
    (indices_of (keys_of triangles) triangles)
All-indices_of triangles =
    All-from_recursion (All (λ place. place < length (keys_of triangles)))
    (indices_of (keys_of triangles) triangles)
    (all_places-known (keys_of triangles) triangles
    (with_keys-knows [] (flat_map (λ triangle. triangle) triangles)))
