-- Indices of keys stay as keys are added, in the order of first use.
--
-- For the builder and for `FirstUse`. A list of keys only grows at its end (`BeginsWith`), so a known key keeps its
-- index (`place-begins`). So triangles that were added keep theirs, and one triangle more is three keys more
-- (`triangle-step`).
use Rattle.std.proofs.Common.{◌≡◌, ℕ, ◌+◌, Bool, true, false, cond, ◌&&◌, ◌||◌, eqb, List, [], ◌∷◌, ◌++◌, map, eq-eqb, refl, sym, ap, ◌∙◌, subst}
use Rattle.std.proofs.lemmas.Bool.{true≢false}
use Rattle.std.proofs.lemmas.List.{append-nil, append_assoc, map-append}
use Rattle.std.proofs.lemmas.List.Concat.{flat_map-append}
use Rattle.std.specs.List.{list_any, AllByRecursion, flat_map}
use Rattle.lattice.specs.declared.point.Axis.{Axis}
use Rattle.lattice.specs.declared.point.Axis.TheVariants.{X, Y, Z}
use Rattle.lattice.specs.declared.key.Key.{Key}
use Rattle.lattice.specs.Point.{is_same_axis}
use Rattle.lattice.specs.Key.{is_same_key}
use Rattle.terrain.specs.Blocks.{with_key, with_keys, keys_of}
use Rattle.block_mesh.specs.Mesh.{index_among, indices_of}

-- an axis is the same as itself
same_axes : (a : Axis) → is_same_axis a a ≡ true
same_axes X = refl
same_axes Y = refl
same_axes Z = refl

-- a key is the same as itself
pub same_self : (key : Key) → is_same_key key key ≡ true
same_self key =
    let eq : (n : ℕ) → eqb n n ≡ true = λ n. eq-eqb n n refl in
    λ i. eq key.level i && eq key.at.z i && eq key.at.y i && eq key.at.x i && same_axes key.axis i

-- ---- keys that are known

-- the key is among the keys
abbrev pub IsKnown : List Key → Key → Type 0
IsKnown keys key = list_any (λ k. is_same_key k key) keys ≡ true

-- one of two tests passes
pub or_else : (b c : Bool) {P : Type 0} → (b || c) ≡ true → (b ≡ true → P) → (c ≡ true → P) → P
or_else true c either left right = left refl
or_else false c either left right = right either

-- the first of two tests passes
pub or_left : (b c : Bool) → b ≡ true → (b || c) ≡ true
or_left b c is = ap (λ b. b || c) is

-- the second of two tests passes
pub or_right : (b c : Bool) → c ≡ true → (b || c) ≡ true
or_right true c is = refl
or_right false c is = is

-- a known key stays known with more behind
IsKnown-more : (keys more : List Key) (key : Key) → IsKnown keys key → IsKnown (keys ++ more) key
IsKnown-more [] more key known = absurd (true≢false (sym known))
IsKnown-more (k ∷ keys) more key known =
    or_else (is_same_key k key) (list_any (λ k. is_same_key k key) keys) known
    (or_left (is_same_key k key) (list_any (λ k. is_same_key k key) (keys ++ more)))
    (λ later. or_right (is_same_key k key) (list_any (λ k. is_same_key k key) (keys ++ more))
    (IsKnown-more keys more key later))

-- a key at the end of a list is known
pub IsKnown-last : (keys : List Key) (key : Key) → IsKnown (keys ++ key ∷ []) key
IsKnown-last [] key = or_left (is_same_key key key) false (same_self key)
IsKnown-last (k ∷ keys) key = or_right (is_same_key k key)
    (list_any (λ k. is_same_key k key) (keys ++ key ∷ [])) (IsKnown-last keys key)

-- indices behind a key that isn't the one
later_same : (b : Bool) (m n : ℕ) → (b ≡ false → m ≡ n) → cond b 0 (1 + m) ≡ cond b 0 (1 + n)
later_same true m n same = refl
later_same false m n same = ap (λ n. 1 + n) (same refl)

-- more keys behind the others leave the places of those
pub place-more : (keys more : List Key) (key : Key) → IsKnown keys key
    → index_among key (keys ++ more) ≡ index_among key keys
place-more [] more key known = absurd (true≢false (sym known))
place-more (k ∷ keys) more key known =
    later_same (is_same_key k key) (index_among key (keys ++ more)) (index_among key keys)
    (λ other. place-more keys more key (or_else (is_same_key k key)
    (list_any (λ k. is_same_key k key) keys) known
    (λ same. absurd (true≢false (sym same ∙ other))) (λ later. later)))

-- the first list begins with the second
abbrev pub BeginsWith : List Key → List Key → Type 0
BeginsWith new old = (more : List Key) × (new ≡ old ++ more)

-- a list, or that list and one more, begins with the list
cond_begins : (b : Bool) (keys : List Key) (key : Key)
    → BeginsWith (cond b keys (keys ++ key ∷ [])) keys
cond_begins true keys key = ([], sym (append-nil keys))
cond_begins false keys key = (key ∷ [], refl)

-- a list of keys stays the beginning when one is added
pub with_key-begins : (keys : List Key) (key : Key) → BeginsWith (with_key keys key) keys
with_key-begins keys key = cond_begins (list_any (λ k. is_same_key k key) keys) keys key

-- and knows the key that was put in
cond_knows : (b : Bool) (keys : List Key) (key : Key) → b ≡ list_any (λ k. is_same_key k key) keys
    → IsKnown (cond b keys (keys ++ key ∷ [])) key
cond_knows true keys key is = sym is
cond_knows false keys key is = IsKnown-last keys key

-- a key that was added is known
pub IsKnown-with_key : (keys : List Key) (key : Key) → IsKnown (with_key keys key) key
IsKnown-with_key keys key = cond_knows (list_any (λ k. is_same_key k key) keys) keys key refl

-- what the beginning knows, the whole does
pub IsKnown-begins : (new old : List Key) (key : Key) → BeginsWith new old → IsKnown old key
    → IsKnown new key
IsKnown-begins new old key begins known =
    subst (λ keys. IsKnown keys key) (sym begins.1) (IsKnown-more old begins.0 key known)

-- the place of a known key stays where keys are added behind the others
pub place-begins : (new old : List Key) (key : Key) → BeginsWith new old → IsKnown old key
    → index_among key new ≡ index_among key old
place-begins new old key begins known = ap (index_among key) begins.1
    ∙ place-more old begins.0 key known

-- the beginning of a beginning
begins-trans : (a b c : List Key) → BeginsWith c b → BeginsWith b a → BeginsWith c a
begins-trans a b c cb ba = (
  ba.0 ++ cb.0,
  cb.1 ∙ ap (λ keys. keys ++ cb.0) ba.1
      ∙ append_assoc a ba.0 cb.0,
)

-- a list of keys stays the beginning when some are added
pub with_keys-begins : (known keys : List Key) → BeginsWith (with_keys known keys) known
with_keys-begins known [] = ([], sym (append-nil known))
with_keys-begins known (key ∷ keys) =
    begins-trans known (with_key known key) (with_keys known (key ∷ keys))
    (with_keys-begins (with_key known key) keys) (with_key-begins known key)

-- all keys that were put in are known
pub with_keys-knows : (known keys : List Key) → AllByRecursion (IsKnown (with_keys known keys)) keys
with_keys-knows known [] = tt
with_keys-knows known (key ∷ keys) =
    let next : List Key = with_key known key in (
      IsKnown-begins (with_keys next keys) next key (with_keys-begins next keys)
          (IsKnown-with_key known key),
      with_keys-knows next keys,
    )

-- keys that are put in by two lists
with_keys-append : (known keys more : List Key)
    → with_keys known (keys ++ more) ≡ with_keys (with_keys known keys) more
with_keys-append known [] more = refl
with_keys-append known (key ∷ keys) more = with_keys-append (with_key known key) keys more

-- ---- triangles

-- what holds of each key of two lists holds of each of the first
pub All-front : (P : Key → Type 0) (xs ys : List Key) → AllByRecursion P (xs ++ ys)
    → AllByRecursion P xs
All-front P [] ys all = tt
All-front P (x ∷ xs) ys all = (all.0, All-front P xs ys all.1)

-- and of each of the second
pub All-back : (P : Key → Type 0) (xs ys : List Key) → AllByRecursion P (xs ++ ys)
    → AllByRecursion P ys
All-back P [] ys all = all
All-back P (x ∷ xs) ys all = All-back P xs ys all.1

-- a triangle keeps its indices where keys are added
row-begins : (new old : List Key) → BeginsWith new old → (keys : List Key)
    → AllByRecursion (IsKnown old) keys → map (λ key. index_among key new) keys
    ≡ map (λ key. index_among key old) keys
row-begins new old begins [] known = refl
row-begins new old begins (key ∷ keys) known =
    λ i. place-begins new old key begins known.0 i ∷ row-begins new old begins keys known.1 i

-- and so do all triangles
places-begins : (new old : List Key) → BeginsWith new old → (triangles : List (List Key))
    → AllByRecursion (IsKnown old) (flat_map (λ triangle. triangle) triangles)
    → indices_of new triangles ≡ indices_of old triangles
places-begins new old begins [] known = refl
places-begins new old begins (t ∷ ts) known =
    let rest : List Key = flat_map (λ triangle. triangle) ts in
    λ i. row-begins new old begins t (All-front (IsKnown old) t rest known)
    i ∷ places-begins new old begins ts (All-back (IsKnown old) t rest known) i

-- the keys of one triangle more
keys_of-more : (triangles : List (List Key)) (t : List Key)
    → keys_of (triangles ++ t ∷ []) ≡ with_keys (keys_of triangles) t
keys_of-more triangles t =
    ap (with_keys []) (flat_map-append (λ triangle. triangle) triangles (t ∷ [])
    ∙ ap (λ keys. flat_map (λ triangle. triangle) triangles ++ keys) (append-nil t))
    ∙ with_keys-append [] (flat_map (λ triangle. triangle) triangles) t

-- one more triangle, whose keys are put in one after another
pub triangle-step : (triangles : List (List Key)) (a b c : Key) (k0 k1 k2 k3 : List Key)
    → k0 ≡ keys_of triangles → k1 ≡ with_key k0 a → k2 ≡ with_key k1 b → k3 ≡ with_key k2 c
    → (k3 ≡ keys_of (triangles ++ (a ∷ b ∷ c ∷ []) ∷ []))
    × (indices_of (keys_of triangles) triangles ++
    (index_among a k1 ∷ index_among b k2 ∷ index_among c k3 ∷ []) ∷ []
    ≡ indices_of (keys_of (triangles ++ (a ∷ b ∷ c ∷ []) ∷ []))
    (triangles ++ (a ∷ b ∷ c ∷ []) ∷ []))
triangle-step triangles a b c k0 k1 k2 k3 e0 e1 e2 e3 =
    let t : List Key = a ∷ b ∷ c ∷ [] in
    let old : List Key = keys_of triangles in
    let new : List Key = keys_of (triangles ++ t ∷ []) in
    let all : k3 ≡ with_keys old t = e3 ∙ ap (λ k. with_key k c) (e2
    ∙ ap (λ k. with_key k b) (e1 ∙ ap (λ k. with_key k a) e0)) in
    let keys : k3 ≡ new = all ∙ sym (keys_of-more triangles t) in
    let b1 : BeginsWith k2 k1 = subst (λ k. BeginsWith k k1) (sym e2) (with_key-begins k1 b) in
    let b2 : BeginsWith k3 k2 = subst (λ k. BeginsWith k k2) (sym e3) (with_key-begins k2 c) in
    let known_a : IsKnown k1 a = subst (λ k. IsKnown k a) (sym e1) (IsKnown-with_key k0 a) in
    let known_b : IsKnown k2 b = subst (λ k. IsKnown k b) (sym e2) (IsKnown-with_key k1 b) in
    let begins : BeginsWith k3 old =
    subst (λ k. BeginsWith k old) (sym all) (with_keys-begins old t) in
    let before : indices_of k3 triangles ≡ indices_of old triangles =
    places-begins k3 old begins triangles (with_keys-knows []
    (flat_map (λ triangle. triangle) triangles)) in
    let at_a : index_among a k3 ≡ index_among a k1 =
    place-begins k3 k1 a (begins-trans k1 k2 k3 b2 b1) known_a in
    let at_b : index_among b k3 ≡ index_among b k2 = place-begins k3 k2 b b2 known_b in
    let row : List ℕ = map (λ key. index_among key k3) t in (
      keys,
      (λ i. sym before i ++ (sym at_a i ∷ sym at_b i ∷ index_among c k3 ∷ []) ∷ [])
          ∙ sym (map-append (map (λ key. index_among key k3)) triangles (t ∷ []))
          ∙ ap (λ k. indices_of k (triangles ++ t ∷ [])) keys,
    )
