-- Tables that tell where the key of an edge is, and what they tell after one key more.
--
-- For the builder's `coarse` and `fine`. The entry of a key is 0 where it isn't among the keys, and else one more than
-- its index (`entry-known`, `entry-new`). A key that is added changes its own entry alone (`entry-other`). In the table
-- of a level each edge has a slot, and different edges have different ones (`slot-from` for a leaf's own level); its
-- numbers are entries above the base (`HasEntries-more`, `HasEntries-other`), so the table needn't be cleared for the
-- next leaf: where no number is above the base, all entries are 0 (`HasEntries-empty`).
use Rattle.std.proofs.Common.{◌≡◌, ℕ, zero, suc, ◌+◌, ◌-◌, ◌*◌, ◌^◌, ◌<◌, ◌≤◌, ◌≢◌, Bool, true, false, ◌||◌, cond, List, [], ◌∷◌, ◌++◌, length, get_or, set, get_or-set_other, get_or-set_same, length-set, replicate, refl, sym, ap, ◌∙◌, arith, inl, inr}
use Rattle.std.specs.List.{list_any}
use Rattle.std.proofs.Math.Nat.{le_of_mul-le-mul_left}
use Rattle.std.proofs.lemmas.Bool.{cases_eq, true≢false}
use Rattle.std.proofs.lemmas.Nat.{pow_pos}
use Rattle.lattice.specs.declared.key.Key.{Key}
use Rattle.lattice.specs.declared.node.Node.{Node}
use Rattle.lattice.specs.declared.point.Axis.{Axis}
use Rattle.lattice.specs.declared.point.Axis.TheVariants.{X, Y, Z}
use Rattle.lattice.specs.declared.point.Point.{Point}
use Rattle.lattice.specs.Key.{is_same_key}
use Rattle.lattice.specs.Node.{low_corner}
use Rattle.lattice.specs.Point.{moved}
use Rattle.terrain.specs.Blocks.{with_key}
use Rattle.block_mesh.specs.KeyTable.{HasEntries, IsEdgeTable, edge_slot, entry}
use Rattle.bricks.specs.Slots.{point_slot, point_step}
use Rattle.lattice.specs.Steps.{AreAtMost, key_at}
use Rattle.block_mesh.specs.Mesh.{index_among}
use Rattle.block_mesh.proofs.KeyLemmas.{IsKnown-last, place-more, same_self}

-- ---- entries

-- whether a key is among the keys
known : Key → List Key → Bool
known key keys = list_any (λ k. is_same_key k key) keys

-- a key whose entry isn't 0 is known, at the place before it
pub record IsThere (key : Key) (keys : List Key) (at : ℕ) : Type 0 where
  pub keys_stay : keys ≡ with_key keys key
  pub at_is : at ≡ index_among key keys

-- an entry above 0 tells the place of a key
pub entry-known : (key : Key) (keys : List Key) (e : ℕ) → e ≡ entry key keys → 0 < e
    → IsThere key keys (e - 1)
entry-known key keys e is some = go (list_any (λ k. is_same_key k key) keys) is refl
  where
    go : (b : Bool) → e ≡ cond b (index_among key keys + 1) 0
        → b ≡ list_any (λ k. is_same_key k key) keys → IsThere key keys (e - 1)
    go true here there = record {
      keys_stay = ap (λ c. cond c keys (keys ++ key ∷ [])) there;
      at_is = omega (arith, here);
    }
    go false here there = absurd (omega (arith, here))

-- a key whose entry is 0 is put behind the others
pub record IsNew (key : Key) (keys : List Key) : Type 0 where
  pub keys_more : keys ++ key ∷ [] ≡ with_key keys key
  pub at_is : length keys ≡ index_among key (keys ++ key ∷ [])
  pub entry_is : length keys + 1 ≡ entry key (keys ++ key ∷ [])

-- the index of a new key behind one that isn't the key
later-last : (b c : Bool) (m n : ℕ) → (b || c) ≡ false → (c ≡ false → m ≡ n)
    → suc m ≡ cond b 0 (1 + n)
later-last true c m n none rest = absurd (true≢false none)
later-last false c m n none rest = let same = rest none in omega (arith, same)

-- the index of a new key is the last
place-last : (key : Key) (keys : List Key) → list_any (λ k. is_same_key k key) keys ≡ false
    → length keys ≡ index_among key (keys ++ key ∷ [])
place-last key [] none = ap (λ b. cond b 0 1) (sym (same_self key))
place-last key (k ∷ keys) none =
    later-last (is_same_key k key) (list_any (λ k. is_same_key k key) keys) (length keys)
    (index_among key (keys ++ key ∷ [])) none (place-last key keys)

-- an entry of 0 tells that a key is new
pub entry-new : (key : Key) (keys : List Key) → entry key keys ≡ 0 → IsNew key keys
entry-new key keys none = go (list_any (λ k. is_same_key k key) keys) none refl
  where
    go : (b : Bool) → cond b (index_among key keys + 1) 0 ≡ 0
        → b ≡ list_any (λ k. is_same_key k key) keys → IsNew key keys
    go true here there = absurd (omega (arith, here))
    go false here there =
        let last = place-last key keys (sym there) in
        record {
          keys_more = ap (λ c. cond c keys (keys ++ key ∷ [])) there;
          at_is = last;
          entry_is = ap (λ n. n + 1) last
              ∙ ap (λ c. cond c (index_among key (keys ++ key ∷ []) + 1) 0)
              (sym (IsKnown-last keys key));
        }

-- another key leaves an entry
any-other : (key other : Key) (keys : List Key) → is_same_key other key ≡ false
    → list_any (λ k. is_same_key k key) (keys ++ other ∷ [])
    ≡ list_any (λ k. is_same_key k key) keys
any-other key other [] apart = ap (λ b. b || false) apart
any-other key other (k ∷ keys) apart =
    ap (λ b. is_same_key k key || b) (any-other key other keys apart)

-- another key changes no key's entry
pub entry-other : (key other : Key) (keys : List Key) → is_same_key other key ≡ false
    → entry key keys ≡ entry key (keys ++ other ∷ [])
entry-other key other keys apart = go (list_any (λ k. is_same_key k key) keys) refl
  where
    go : (b : Bool) → b ≡ list_any (λ k. is_same_key k key) keys
        → entry key keys ≡ entry key (keys ++ other ∷ [])
    go b here =
        let after : list_any (λ k. is_same_key k key) (keys ++ other ∷ []) ≡ b =
        any-other key other keys apart ∙ sym here in
        ap (λ c. cond c (index_among key keys + 1) 0) (sym here)
        ∙ by b here
        ∙ ap (λ c. cond c (index_among key (keys ++ other ∷ []) + 1) 0) (sym after)
      where
        by : (b : Bool) → b ≡ list_any (λ k. is_same_key k key) keys
            → cond b (index_among key keys + 1) 0
            ≡ cond b (index_among key (keys ++ other ∷ []) + 1) 0
        by true there = ap (λ n. n + 1) (sym (place-more keys (other ∷ []) key (sym there)))
        by false there = refl

-- keys that differ are told apart
told_apart : (a b : Key) → (is_same_key a b ≡ true → a ≡ b) → (a ≡ b → ⊥)
    → is_same_key a b ≡ false
told_apart a b tells differ = go (is_same_key a b) refl
  where
    go : (c : Bool) → is_same_key a b ≡ c → is_same_key a b ≡ false
    go true e = absurd (differ (tells e))
    go false e = e

-- ---- slots

-- a point of a leaf by its slot: quotients and remainders by 17
point-from : (p q : Point) → AreAtMost 16 p → AreAtMost 16 q → point_slot p ≡ point_slot q → p ≡ q
point-from p q p_in q_in same =
    let z : p.z ≡ q.z = omega (arith, p_in, q_in, same) in
    let y : p.y ≡ q.y = omega (arith, p_in, q_in, same) in
    let x : p.x ≡ q.x = omega (arith, p_in, q_in, same) in
    λ i. record { z = z i; y = y i; x = x i }

-- the next point on an axis is a step further
pub point_slot-next : (at : Point) (axis : Axis)
    → point_slot at + point_step axis ≡ point_slot (moved axis 1 at)
point_slot-next at X = omega arith
point_slot-next at Y = omega arith
point_slot-next at Z = omega arith

-- an edge by its slot
pub slot-from : (p q : Point) (a b : Axis) → AreAtMost 16 p → AreAtMost 16 q
    → edge_slot p a ≡ edge_slot q b → (p ≡ q) × (a ≡ b)
slot-from p q X X p_in q_in same = (point-from p q p_in q_in (omega (arith, same)), refl)
slot-from p q X Y p_in q_in same = absurd (omega (arith, same))
slot-from p q X Z p_in q_in same = absurd (omega (arith, same))
slot-from p q Y X p_in q_in same = absurd (omega (arith, same))
slot-from p q Y Y p_in q_in same = (point-from p q p_in q_in (omega (arith, same)), refl)
slot-from p q Y Z p_in q_in same = absurd (omega (arith, same))
slot-from p q Z X p_in q_in same = absurd (omega (arith, same))
slot-from p q Z Y p_in q_in same = absurd (omega (arith, same))
slot-from p q Z Z p_in q_in same = (point-from p q p_in q_in (omega (arith, same)), refl)

-- a key of a leaf by its coordinates
steps-from : (level low a b : ℕ) → low + 2 ^ level * a ≡ low + 2 ^ level * b → a ≡ b
steps-from level low a b same =
    let some : 0 < 2 ^ level = pow_pos level in
    let up : 2 ^ level * a ≤ 2 ^ level * b = omega (arith, same) in
    let down : 2 ^ level * b ≤ 2 ^ level * a = omega (arith, same) in
    let le : a ≤ b = le_of_mul-le-mul_left up some in
    let ge : b ≤ a = le_of_mul-le-mul_left down some in
    omega arith

-- a key of a leaf by its steps
steps-of : (level : ℕ) (n : Node) (p q : Point) (a b : Axis)
    → key_at level n p a ≡ key_at level n q b → (p ≡ q) × (a ≡ b)
steps-of level n p q a b same =
    let low = low_corner n in
    let z = steps-from level low.z p.z q.z (ap (λ (k : Key). k.at.z) same) in
    let y = steps-from level low.y p.y q.y (ap (λ (k : Key). k.at.y) same) in
    let x = steps-from level low.x p.x q.x (ap (λ (k : Key). k.at.x) same) in
    ((λ i. record { z = z i; y = y i; x = x i }), ap (λ (k : Key). k.axis) same)

-- ---- tables

-- one more number, at a place of the table
pub IsEdgeTable-more : (size base count : ℕ) (table : List ℕ) (slot : ℕ) → slot < length table
    → IsEdgeTable size base count table
    → IsEdgeTable size base (count + 1) (set table slot (base + count + 1))
IsEdgeTable-more size base count table slot within is =
    let new = base + count + 1 in
    let same : get_or (set table slot new) slot 0 ≡ new = get_or-set_same table slot new 0 within in
    record {
      whole = length-set table slot new ∙ is.whole;
      most = λ k. elim (cases_eq k slot) [
        | inl here ↦ omega (arith, ap (λ j. get_or (set table slot new) j 0) here, same)
        | inr other ↦ omega (arith, get_or-set_other table slot k new 0 other, is.most k)
      ];
    }

-- a greater count
pub IsEdgeTable-later : (size base count : ℕ) (table : List ℕ) → IsEdgeTable size base count table
    → IsEdgeTable size base (count + 1) table
IsEdgeTable-later size base count table is = record {
  whole = is.whole;
  most = λ k. omega (arith, is.most k);
}

-- a table of which no number is above the base
pub IsEdgeTable-empty : (size base count : ℕ) (table : List ℕ) → length table ≡ size
    → ((slot : ℕ) → get_or table slot 0 ≤ base) → IsEdgeTable size base count table
IsEdgeTable-empty size base count table whole most = record {
  whole = whole;
  most = λ slot. omega (arith, most slot);
}

-- one more key of the table's level
pub HasEntries-more : (n : Node) (level : ℕ) (IsAmong : Point → Type 0)
    (slot_of : Point → Axis → ℕ) (base : ℕ) (table : List ℕ) (keys : List Key) (at : Point)
    (axis : Axis) → ((a b : Key) → is_same_key a b ≡ true → a ≡ b)
    → ((p q : Point) (a b : Axis) → IsAmong p → IsAmong q → slot_of p a ≡ slot_of q b
    → (p ≡ q) × (a ≡ b)) → IsAmong at
    → slot_of at axis < length table → HasEntries n level IsAmong slot_of base table keys
    → entry (key_at level n at axis) keys ≡ 0
    → HasEntries n level IsAmong slot_of base
    (set table (slot_of at axis) (base + length keys + 1)) (keys ++ key_at level n at axis ∷ [])
HasEntries-more n level IsAmong slot_of base table keys at axis tells from at_in within has none =
    let key = key_at level n at axis in
    let slot = slot_of at axis in
    let count = base + length keys + 1 in
    let new = entry-new key keys none in
    let above : base + length keys + 1 - base ≡ length keys + 1 = omega arith in
    let same : get_or (set table slot count) slot 0 ≡ count =
    get_or-set_same table slot count 0 within in
    record {
      each = λ p a p_in. elim (cases_eq (slot_of p a) slot) [
        | inl is_slot ↦
            let is = from p at a axis p_in at_in is_slot in
            let here : key_at level n p a ≡ key = λ i. key_at level n (is.0 i) (is.1 i) in
            ap (λ k. get_or (set table slot count) k 0 - base) is_slot
            ∙ ap (λ e. e - base) same ∙ above
            ∙ new.entry_is ∙ ap (λ k. entry k (keys ++ key ∷ [])) (sym here)
        | inr other ↦
            ap (λ e. e - base) (get_or-set_other table slot (slot_of p a) count 0 other)
            ∙ has.each p a p_in
            ∙ entry-other (key_at level n p a) key keys
            (told_apart key (key_at level n p a) (tells key (key_at level n p a)) (λ e.
            let is = steps-of level n at p axis a e in
            other (λ i. slot_of (sym is.0 i) (sym is.1 i))))
      ];
    }

-- one more key of another level
pub HasEntries-other : (n : Node) (level : ℕ) (IsAmong : Point → Type 0)
    (slot_of : Point → Axis → ℕ) (base : ℕ) (table : List ℕ) (keys : List Key) (key : Key)
    → ((a b : Key) → is_same_key a b ≡ true → a ≡ b) → key.level ≢ level
    → HasEntries n level IsAmong slot_of base table keys
    → HasEntries n level IsAmong slot_of base table (keys ++ key ∷ [])
HasEntries-other n level IsAmong slot_of base table keys key tells other has = record {
  each = λ p a p_in.
      has.each p a p_in
      ∙ entry-other (key_at level n p a) key keys
      (told_apart key (key_at level n p a) (tells key (key_at level n p a)) (λ e.
      other (ap (λ (k : Key). k.level) e)));
}

-- ---- tables of no keys

-- a table of which no number is above the base has the entries of no key
pub HasEntries-empty : (n : Node) (level : ℕ) (IsAmong : Point → Type 0)
    (slot_of : Point → Axis → ℕ) (base : ℕ) (table : List ℕ) (keys : List Key)
    → ((slot : ℕ) → get_or table slot 0 ≤ base) → keys ≡ []
    → HasEntries n level IsAmong slot_of base table keys
HasEntries-empty n level IsAmong slot_of base table keys most none = record {
  each = λ at axis at_in.
      let gone : get_or table (slot_of at axis) 0 - base ≡ 0 =
      omega (arith, most (slot_of at axis)) in
      gone ∙ sym (ap (entry (key_at level n at axis)) none);
}

-- a table of zeros is one
pub zeros-at : (n slot : ℕ) → get_or {A = ℕ} (replicate n 0) slot 0 ≡ 0
zeros-at zero slot = refl
zeros-at (suc n) zero = refl
zeros-at (suc n) (suc slot) = zeros-at n slot
