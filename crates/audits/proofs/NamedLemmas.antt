-- The triangles that a block gives by the places of its keys are those of its mesh, and their edges go to a tally.
-- `named` reads the keys at the places. Read at the place of a key among keys it gives this key, if the keys have it
-- (key-at), and so all triangles come back whose keys are listed (named-shown). Then the loop of `add_triangles`: the
-- edges with one triangle more (edges-more), and the room that is left after it (HasRoomFor-more).
use Rattle.std.proofs.Common.{◌≡◌, ℕ, suc, ◌+◌, ◌<◌, ◌≤◌, Bool, true, false, cond, ◌||◌, List, [], ◌∷◌, ◌++◌, length, length-append, map, get_or, take, refl, sym, ap, ◌∙◌, arith}
use Rattle.std.specs.List.{list_any, flat_map}
use Rattle.std.proofs.lemmas.Bool.{true≢false}
use Rattle.std.proofs.lemmas.List.{map-append, take_more}
use Rattle.std.proofs.lemmas.List.Concat.{flat_map-append}
use Rattle.lattice.specs.declared.key.Key.{Key}
use Rattle.lattice.specs.declared.point.Axis.TheVariants.{X}
use Rattle.lattice.specs.Key.{is_same_key}
use Rattle.cell_laws.specs.Keys.{count_of_key, is_among_keys}
use Rattle.terrain.specs.Blocks.{keys_of}
use Rattle.terrain.specs.Curves.{all_edges}
use Rattle.block_mesh.specs.Mesh.{index_among, indices_of}
use Rattle.cell_laws.specs.Laws.{KeysAreListedOnce, KeysAreTested}
use Rattle.audits.specs.Tally.{HasRoomFor, IsTallyOf}
use Rattle.audits.specs.declared.tally.Tally.{Tally}
use Rattle.audits.proofs.TallyLemmas.{Pair}

-- what a list of keys is read as past its end
abbrev pub no_key : Key
no_key = record { level = 0; at = record { z = 0; y = 0; x = 0 }; axis = X }

-- the keys at these places
abbrev pub keys_at : List Key → List ℕ → List Key
keys_at keys places = map (λ place. get_or keys place no_key) places

-- triangles by the places of their keys
abbrev pub named : List Key → List (List ℕ) → List (List Key)
named keys triangles = map (keys_at keys) triangles

-- ---- the keys at the places of keys

-- a key that is the first of keys, or is read right behind it
key-at-head : KeysAreTested → (b : Bool) (key k : Key) (n : ℕ) (keys : List Key)
    → is_same_key k key ≡ b → (b ≡ false → get_or keys n no_key ≡ key)
    → get_or (k ∷ keys) (cond b 0 (1 + n)) no_key ≡ key
key-at-head tells true key k n keys is later = (tells k key).0 is
key-at-head tells false key k n keys is later =
    let next : 1 + n ≡ suc n = omega arith in
    ap (λ i. get_or (k ∷ keys) i no_key) next ∙ later refl

-- a key that is counted and isn't the first is counted behind it
counted-later : (b : Bool) (n : ℕ) → b ≡ false → 0 < cond b 1 0 + n → 0 < n
counted-later true n is some = absurd (true≢false is)
counted-later false n is some = omega (arith, some)

-- at the place of a key among keys is that key
key-at : KeysAreTested → (key : Key) (keys : List Key) → 0 < count_of_key key keys
    → get_or keys (index_among key keys) no_key ≡ key
key-at tells key [] some = absurd (omega arith)
key-at tells key (k ∷ keys) some =
    key-at-head tells (is_same_key k key) key k (index_among key keys) keys refl
    (λ other. key-at tells key keys
    (counted-later (is_same_key k key) (count_of_key key keys) other some))

-- what one of a list passes, one of a longer list passes: behind it
any-left : (p : Key → Bool) (xs ys : List Key) → list_any p xs ≡ true
    → list_any p (xs ++ ys) ≡ true
any-left p [] ys is = absurd (true≢false (sym is))
any-left p (x ∷ xs) ys is = go (p x) is (any-left p xs ys)
  where
    go : (b : Bool) {c d : Bool} → (b || c) ≡ true → (c ≡ true → d ≡ true) → (b || d) ≡ true
    go true is more = refl
    go false is more = more is

-- and before it
any-right : (p : Key → Bool) (xs ys : List Key) → list_any p ys ≡ true
    → list_any p (xs ++ ys) ≡ true
any-right p [] ys is = is
any-right p (x ∷ xs) ys is = or_true (p x) (any-right p xs ys is)
  where
    or_true : (b : Bool) {c : Bool} → c ≡ true → (b || c) ≡ true
    or_true true is = refl
    or_true false is = is

-- a list whose keys are all among others
abbrev AreAmong : List Key → List Key → Type 0
AreAmong xs keys = (key : Key) → list_any (λ k. is_same_key k key) xs ≡ true
    → 0 < count_of_key key keys

-- keys at their places
keys_at-places : KeysAreTested → (keys xs : List Key) → AreAmong xs keys
    → keys_at keys (map (λ key. index_among key keys) xs) ≡ xs
keys_at-places tells keys [] among = refl
keys_at-places tells keys (x ∷ xs) among =
    let self = ap (λ b. b || list_any (λ k. is_same_key k x) xs) ((tells x x).1 refl) in
    let first = key-at tells x keys (among x self) in
    let rest = keys_at-places tells keys xs
    (λ key there. among key (any-right (λ k. is_same_key k key) (x ∷ []) xs there)) in
    λ i. first i ∷ rest i

-- triangles at the places of their keys
named-places : KeysAreTested → (keys : List Key) (ts : List (List Key))
    → AreAmong (flat_map (λ t. t) ts) keys → named keys (indices_of keys ts) ≡ ts
named-places tells keys [] among = refl
named-places tells keys (t ∷ ts) among =
    let all : List Key = flat_map (λ t. t) ts in
    let first = keys_at-places tells keys t
    (λ key there. among key (any-left (λ k. is_same_key k key) t all there)) in
    let rest = named-places tells keys ts
    (λ key there. among key (any-right (λ k. is_same_key k key) t all there)) in
    λ i. first i ∷ rest i

-- the triangles that the places of their keys name
pub named-shown : KeysAreTested → KeysAreListedOnce → (keys : List Key) (places : List (List ℕ))
    (ts : List (List Key)) → keys ≡ keys_of ts → places ≡ indices_of (keys_of ts) ts
    → named keys places ≡ ts
named-shown tells listed keys places ts keys-are places-are =
    (λ i. named (keys-are i) (places-are i)) ∙ named-places tells (keys_of ts) ts among
  where
    among : AreAmong (flat_map (λ t. t) ts) (keys_of ts)
    among key there =
        let one : is_among_keys key (flat_map (λ t. t) ts) ≡ 1 = ap (λ b. cond b 1 0) there in
        omega (arith, listed ts key, one)

-- ---- steps

-- a list of three by its items
three : (t : List ℕ) → length t ≡ 3
    → get_or t 0 0 ∷ get_or t 1 0 ∷ get_or t 2 0 ∷ [] ≡ t
three (a ∷ b ∷ c ∷ []) long = refl
three [] long = absurd (omega (arith, long))
three (a ∷ []) long = absurd (omega (arith, long))
three (a ∷ b ∷ []) long = absurd (omega (arith, long))
three (a ∷ b ∷ c ∷ d ∷ t) long = absurd (omega (arith, long))

-- the edges of one triangle more
pub edges-more : (keys : List Key) (ts : List (List ℕ)) (i : ℕ) (a b c : Key) → i < length ts
    → length (get_or ts i []) ≡ 3 → a ≡ get_or keys (get_or (get_or ts i []) 0 0) no_key
    → b ≡ get_or keys (get_or (get_or ts i []) 1 0) no_key
    → c ≡ get_or keys (get_or (get_or ts i []) 2 0) no_key
    → all_edges (named keys (take i ts)) ++ (a, b) ∷ (b, c) ∷ (c, a) ∷ []
    ≡ all_edges (named keys (take (i + 1) ts))
edges-more keys ts i a b c inside long a-is b-is c-is =
    let t : List ℕ = get_or ts i [] in
    let one : all_edges (named keys (t ∷ [])) ≡ (a, b) ∷ (b, c) ∷ (c, a) ∷ [] =
    ap (λ t. all_edges (named keys (t ∷ []))) (sym (three t long))
    ∙ (λ i. (sym a-is i, sym b-is i) ∷ (sym b-is i, sym c-is i) ∷ (sym c-is i, sym a-is i) ∷ []) in
    let more : named keys (take (i + 1) ts) ≡ named keys (take i ts) ++ named keys (t ∷ []) =
    ap (named keys) (take_more ts i [] inside) ∙ map-append (keys_at keys) (take i ts) (t ∷ []) in
    ap (λ es. all_edges (named keys (take i ts)) ++ es) (sym one)
    ∙ sym (flat_map-append _ (named keys (take i ts)) (named keys (t ∷ [])))
    ∙ ap all_edges (sym more)

-- room after the edges of a triangle
pub HasRoomFor-more : (old new : Tally) (a b c : Key) (all more : ℕ)
    → ((edges : List Pair) → IsTallyOf old edges
    → IsTallyOf new (edges ++ (a, b) ∷ (b, c) ∷ (c, a) ∷ [])) → 3 + more ≤ all → HasRoomFor old all
    → HasRoomFor new more
HasRoomFor-more old new a b c all more adds few room =
    let longer = length-append room.edges ((a, b) ∷ (b, c) ∷ (c, a) ∷ []) in
    record {
      edges = room.edges ++ (a, b) ∷ (b, c) ∷ (c, a) ∷ [];
      counts = adds room.edges room.counts;
      few = omega (arith, longer, few, room.few);
    }

-- room for less
pub HasRoomFor-less : (t : Tally) (all more : ℕ) → more ≤ all → HasRoomFor t all → HasRoomFor t more
HasRoomFor-less t all more less room = record {
  edges = room.edges;
  counts = room.counts;
  few = omega (arith, less, room.few);
}
