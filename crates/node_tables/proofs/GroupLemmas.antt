-- What slots have by the places of their groups, when a group gets a place of its own and when one slot is changed.
-- A group that gets the place behind all others leaves room for those that have none (`IsGrouped-given`), and its
-- slots have what they had: nothing (`GivesPlace-new`). A place that isn't the first is one group's, so what is put
-- there is put into one slot (`SetsSlot-own`). At the first place nothing is put, and what is taken out is nothing
-- (`SetsSlot-none`). Last, what that says of the list of all slots (`slot-read`, `slots_in-set`, `slots_in-none`).
use Rattle.std.proofs.Common.{◌≡◌, ◌≢◌, ℕ, zero, suc, ◌+◌, ◌*◌, ◌/◌, ◌%◌, ◌^◌, ◌<◌, ◌≤◌, Bool, false, List, length, get_or, map, set, ◌++◌, None, refl, sym, ap, ◌∙◌, subst, arith, inl, inr, length-set, length-append}
use Rattle.std.specs.Prelude.{Option, ◌==◌, ◌⊎◌, cond, replicate}
use Rattle.std.specs.List.{count_by, range_with_len}
use Rattle.std.specs.Option.{option_map}
use Rattle.std.proofs.lemmas.Bool.{cases_eq, ne_eqb}
use Rattle.std.proofs.lemmas.List.{ext_get_or, get_or_default, get_or-append-add, get_or_append_left, get_or-set_other, get_or-set_same, length-replicate}
use Rattle.std.proofs.lemmas.List.FromFn.{get_or-map-range_with_len, length-map-range_with_len}
use Rattle.std.proofs.lemmas.List.Sums.{count_by-le-length, sum_by-set}
use Rattle.node_tables.specs.Groups.{GivesPlace, IsGrouped, slot_at, slots_in}
use Rattle.node_tables.proofs.TableLemmas.{get_or-none}

-- ---- a group gets a place of its own

-- a place behind the first isn't the first
not_first : (place : ℕ) → 0 < place → (place == 0) ≡ false
not_first place some = ne_eqb place 0 (λ first. omega (arith, first, some))

-- there is one group less that has none of its own
one_less : (places : List ℕ) (group place : ℕ) → group < length places
    → get_or places group 0 ≡ 0 → 0 < place
    → count_by (λ p. p == 0) (set places group place) + 1 ≡ count_by (λ p. p == 0) places
one_less places group place inside none some =
    let counted : Bool → ℕ = λ b. cond b 1 0 in
    let first : ℕ → ℕ = λ p. counted (p == 0) in
    omega (
      arith,
      sum_by-set first places group place 0 inside,
      ap first none,
      ap counted (not_first place some),
    )

-- so there is room for it
pub room_for : {A : Type 0} (places : List ℕ) (items : List (Option A)) (capacity group : ℕ)
    → IsGrouped places items capacity → group < length places → get_or places group 0 ≡ 0
    → length items + 64 ≤ capacity
room_for places items capacity group is inside none =
    omega (arith, is.room, one_less places group 1 inside none (omega arith))

-- the place behind all others isn't the first
behind : {A : Type 0} (places : List ℕ) (items : List (Option A)) (capacity : ℕ)
    → IsGrouped places items capacity → 0 < length items / 64
behind places items capacity is = omega (arith, is.within 0)

-- no slot has anything else than before
slot_at-given : {A : Type 0} (places : List ℕ) (items : List (Option A)) (capacity group : ℕ)
    → IsGrouped places items capacity → group < length places → get_or places group 0 ≡ 0
    → (at : ℕ)
    → slot_at (set places group (length items / 64)) (items ++ replicate 64 None) at
    ≡ slot_at places items at
unfolding slot_at
slot_at-given places items capacity group is inside none at =
    let place = length items / 64 in
    let more = items ++ replicate 64 None in
    elim (cases_eq (at / 64) group) [
      | inl same ↦
          let here : get_or (set places group place) (at / 64) 0 ≡ place =
          ap (λ g. get_or (set places group place) g 0) same
          ∙ get_or-set_same places group place 0 inside in
          let first : get_or places (at / 64) 0 ≡ 0 = ap (λ g. get_or places g 0) same ∙ none in
          let old_index : get_or places (at / 64) 0 * 64 + at % 64 ≡ at % 64 =
          omega (arith, first) in
          let index : get_or (set places group place) (at / 64) 0 * 64 + at % 64
          ≡ length items + at % 64 = omega (arith, here, is.whole) in
          ap (λ k. get_or more k None) index
          ∙ get_or-append-add items (replicate 64 None) (at % 64) None
          ∙ get_or-none None 64 (at % 64)
          ∙ sym (ap (λ k. get_or items k None) old_index ∙ is.empty (at % 64) (omega arith))
      | inr other ↦
          ap (λ p. get_or more (p * 64 + at % 64) None)
          (get_or-set_other places group (at / 64) place 0 other)
          ∙ get_or_append_left items (replicate 64 None) None
          (get_or places (at / 64) 0 * 64 + at % 64) (omega (arith, is.within (at / 64)))
    ]

-- the group has a place of its own
pub GivesPlace-new : {A : Type 0} (places : List ℕ) (items : List (Option A)) (capacity group : ℕ)
    → IsGrouped places items capacity → group < length places → get_or places group 0 ≡ 0
    → GivesPlace group places (set places group (length items / 64)) items
    (items ++ replicate 64 None)
GivesPlace-new places items capacity group is inside none = record {
  own = subst (λ place. 0 < place)
      (sym (get_or-set_same places group (length items / 64) 0 inside))
      (behind places items capacity is);
  slots = slot_at-given places items capacity group is inside none;
}

-- the places are still each one group's
pub IsGrouped-given : {A : Type 0} (places : List ℕ) (items : List (Option A))
    (capacity group : ℕ)
    → IsGrouped places items capacity → group < length places → get_or places group 0 ≡ 0
    → IsGrouped (set places group (length items / 64)) (items ++ replicate 64 None) capacity
IsGrouped-given {A = A} places items capacity group is inside none =
    let place = length items / 64 in
    let long : length (items ++ replicate 64 None) ≡ length items + 64 =
    length-append items (replicate 64 None)
    ∙ ap (λ n. length items + n) (length-replicate {A = Option A} 64 None) in
    let here = get_or-set_same places group place 0 inside in
    let some = behind places items capacity is in
    record {
      few = is.few;
      whole = omega (arith, long, is.whole);
      room = omega (arith, long, is.room, one_less places group place inside none some);
      within = λ g. elim (cases_eq g group) [
        | inl same ↦
            omega (arith, long, here, ap (λ g. get_or (set places group place) g 0) same)
        | inr other ↦
            omega (arith, long, get_or-set_other places group g place 0 other, is.within g)
      ];
      apart = λ g h own same. elim (cases_eq g group) [
        | inl g_is ↦ elim (cases_eq h group) [
          | inl h_is ↦ g_is ∙ sym h_is
          | inr h_not ↦
              absurd (omega (
                arith,
                is.within h,
                is.whole,
                same,
                here,
                ap (λ g. get_or (set places group place) g 0) g_is,
                get_or-set_other places group h place 0 h_not,
              ))
        ]
        | inr g_not ↦ elim (cases_eq h group) [
          | inl h_is ↦
              absurd (omega (
                arith,
                is.within g,
                is.whole,
                same,
                here,
                ap (λ g. get_or (set places group place) g 0) h_is,
                get_or-set_other places group g place 0 g_not,
              ))
          | inr h_not ↦
              is.apart g h
              (omega (arith, own, get_or-set_other places group g place 0 g_not))
              (sym (get_or-set_other places group g place 0 g_not) ∙ same
              ∙ get_or-set_other places group h place 0 h_not)
        ]
      ];
      empty = λ k low.
          get_or_append_left items (replicate 64 None) None k (omega (arith, low, is.within 0))
          ∙ is.empty k low;
    }

-- ---- where a slot is

-- by the place that was read
pub index_read : (places : List ℕ) (at place index : ℕ) → at / 64 < length places
    → place ≡ get_or places (at / 64) place → index ≡ place * 64 + at % 64
    → index ≡ get_or places (at / 64) 0 * 64 + at % 64
index_read places at place index inside read is_index =
    omega (arith, get_or_default places (at / 64) place 0 inside, read, is_index)

-- it is among the slots that were made
pub index_in : {A : Type 0} (places : List ℕ) (items : List (Option A)) (capacity at index : ℕ)
    → IsGrouped places items capacity → index ≡ get_or places (at / 64) 0 * 64 + at % 64
    → index < length items
index_in places items capacity at index is is_index =
    omega (arith, is.within (at / 64), is_index)

-- what is read there is what the slot has
slot_at-read : {A : Type 0} (places : List ℕ) (items : List (Option A)) (at index : ℕ)
    (item : Option A) → index ≡ get_or places (at / 64) 0 * 64 + at % 64 → index < length items
    → item ≡ get_or items index item → slot_at places items at ≡ item
unfolding slot_at
slot_at-read places items at index item is_index inside read =
    ap (λ k. get_or items k None) (sym is_index) ∙ get_or_default items index None item inside
    ∙ sym read

-- ---- one slot is changed

-- a slot has something else, and no other does
pub record SetsSlot {A : Type 0} (at : ℕ) (is : Option A) (places new_places : List ℕ)
    (items new_items : List (Option A)) : Type 0 where
  pub here : slot_at new_places new_items at ≡ is
  pub others : (k : ℕ) → k ≢ at → slot_at new_places new_items k ≡ slot_at places items k

-- what is written is what the slot has
slot_at-here : {A : Type 0} (places : List ℕ) (items : List (Option A)) (capacity at index : ℕ)
    (item : Option A)
    → IsGrouped places items capacity → index ≡ get_or places (at / 64) 0 * 64 + at % 64
    → slot_at places (set items index item) at ≡ item
unfolding slot_at
slot_at-here places items capacity at index item is is_index =
    ap (λ k. get_or (set items index item) k None) (sym is_index)
    ∙ get_or-set_same items index item None
    (index_in places items capacity at index is is_index)

-- in a place of its own group, no other slot has what is written
pub SetsSlot-own : {A : Type 0} (places : List ℕ) (items : List (Option A))
    (capacity at index : ℕ) (item : Option A)
    → IsGrouped places items capacity → index ≡ get_or places (at / 64) 0 * 64 + at % 64
    → 0 < get_or places (at / 64) 0
    → SetsSlot at item places places items (set items index item)
unfolding slot_at
SetsSlot-own places items capacity at index item is is_index own = record {
  here = slot_at-here places items capacity at index item is is_index;
  others = λ k other.
      get_or-set_other items index (get_or places (k / 64) 0 * 64 + k % 64) item None
      (λ same.
      let groups : at / 64 ≡ k / 64 = is.apart (at / 64) (k / 64) own (omega arith) in
      other (omega arith));
}

-- an empty slot is as empty as before where nothing is written
get_or-emptied : {A : Type 0} (items : List (Option A)) (index k : ℕ) → index < length items
    → get_or items index None ≡ None → get_or (set items index None) k None ≡ get_or items k None
get_or-emptied items index k inside none =
    elim (cases_eq k index) [
      | inl same ↦
          ap (λ j. get_or (set items index None) j None) same
          ∙ get_or-set_same items index None None inside
          ∙ sym (ap (λ j. get_or items j None) same ∙ none)
      | inr other ↦ get_or-set_other items index k None None other
    ]

-- what is taken out of a slot is taken out of no other
pub SetsSlot-none : {A : Type 0} (places : List ℕ) (items : List (Option A))
    (capacity at index : ℕ)
    → IsGrouped places items capacity → index ≡ get_or places (at / 64) 0 * 64 + at % 64
    → SetsSlot at None places places items (set items index None)
unfolding slot_at
SetsSlot-none places items capacity at index is is_index =
    elim (cases_eq (get_or places (at / 64) 0) 0) [
      | inl first ↦ record {
        here = slot_at-here places items capacity at index None is is_index;
        others = λ k other.
            get_or-emptied items index (get_or places (k / 64) 0 * 64 + k % 64)
            (index_in places items capacity at index is is_index)
            (is.empty index (omega (arith, first, is_index)));
      }
      | inr own ↦
          SetsSlot-own places items capacity at index None is is_index (omega (arith, own))
    ]

-- and so it is where a group got a place before
pub SetsSlot-given : {A : Type 0} (group at : ℕ) (item : Option A)
    (places new_places : List ℕ) (items given new_items : List (Option A))
    → GivesPlace group places new_places items given
    → SetsSlot at item new_places new_places given new_items
    → SetsSlot at item places new_places items new_items
SetsSlot-given group at item places new_places items given new_items gives sets = record {
  here = sets.here;
  others = λ k other. sets.others k other ∙ gives.slots k;
}

-- the places stay, and the first is still empty
pub IsGrouped-set : {A : Type 0} (places : List ℕ) (items : List (Option A))
    (capacity index : ℕ) (item : Option A)
    → IsGrouped places items capacity → index < length items → (64 ≤ index) ⊎ (item ≡ None)
    → IsGrouped places (set items index item) capacity
IsGrouped-set places items capacity index item is inside may =
    let long = length-set items index item in
    record {
      few = is.few;
      whole = omega (arith, long, is.whole);
      room = omega (arith, long, is.room);
      within = λ g. omega (arith, long, is.within g);
      apart = is.apart;
      empty = λ k low. elim (cases_eq k index) [
        | inl same ↦ elim may [
          | inl high ↦ absurd (omega (arith, same, low, high))
          | inr none ↦
              ap (λ j. get_or (set items index item) j None) same
              ∙ get_or-set_same items index item None inside ∙ none
        ]
        | inr other ↦ get_or-set_other items index k item None other ∙ is.empty k low
      ];
    }

-- ---- the list of all slots

-- what a slot of the list has
listed : {B : Type 0} (f : ℕ → Option B) (count at : ℕ) → at < count
    → get_or (map f (range_with_len 0 count)) at None ≡ f at
listed f count at inside =
    get_or-map-range_with_len f 0 count at at None inside (omega arith)

-- the list with one slot changed
listed-set : {B : Type 0} (f g : ℕ → Option B) (count at : ℕ) (item : Option B)
    → at < count → g at ≡ item → ((k : ℕ) → k ≢ at → g k ≡ f k)
    → map g (range_with_len 0 count) ≡ set (map f (range_with_len 0 count)) at item
listed-set f g count at item inside here others =
    let old = map f (range_with_len 0 count) in
    let long = length-map-range_with_len f 0 count in
    let new_long = length-map-range_with_len g 0 count in
    ext_get_or None (map g (range_with_len 0 count)) (set old at item)
    (new_long ∙ sym (length-set old at item ∙ long))
    (λ k k_in.
    let k_below : k < count = omega (arith, k_in, new_long) in
    listed g count k k_below
    ∙ elim (cases_eq k at) [
      | inl same ↦
          ap g same ∙ here
          ∙ sym (ap (λ j. get_or (set old at item) j None) same
          ∙ get_or-set_same old at item None (omega (arith, inside, long)))
      | inr other ↦
          others k other
          ∙ sym (get_or-set_other old at k item None other ∙ listed f count k k_below)
    ])

-- the list where no slot has anything
listed-none : {B : Type 0} (f : ℕ → Option B) (count : ℕ) → ((k : ℕ) → f k ≡ None)
    → map f (range_with_len 0 count) ≡ replicate count None
listed-none {B = B} f count none =
    let long = length-map-range_with_len f 0 count in
    ext_get_or None (map f (range_with_len 0 count)) (replicate count None)
    (long ∙ sym (length-replicate {A = Option B} count None))
    (λ k k_in.
    listed f count k (omega (arith, k_in, long)) ∙ none k ∙ sym (get_or-none None count k))

-- a slot of the list is one of so many
slot_in : {A B : Type 0} (told : A → B) (count at : ℕ) (places : List ℕ) (items : List (Option A))
    (slots : List (Option B))
    → slots_in told count places items ≡ slots → at < length slots → at < count
slot_in told count at places items slots are inside =
    omega (
      arith,
      ap length are,
      length-map-range_with_len (λ at. option_map told (slot_at places items at)) 0 count,
      inside,
    )

-- its group has a place
pub group_in : {A B : Type 0} (told : A → B) (count at : ℕ) (places : List ℕ)
    (items : List (Option A)) (slots : List (Option B))
    → slots_in told count places items ≡ slots → at < length slots → count ≤ 64 * length places
    → at / 64 < length places
group_in told count at places items slots are inside enough =
    omega (arith, slot_in told count at places items slots are inside, enough)

-- what is read there is what the slot has
pub slot-read : {A B : Type 0} (told : A → B) (count at index : ℕ) (places : List ℕ)
    (items : List (Option A)) (slots : List (Option B)) (item : Option A)
    → slots_in told count places items ≡ slots → at < length slots
    → index ≡ get_or places (at / 64) 0 * 64 + at % 64 → index < length items
    → item ≡ get_or items index item → get_or slots at None ≡ option_map told item
slot-read told count at index places items slots item are inside is_index below read =
    ap (λ xs. get_or xs at None) (sym are)
    ∙ listed (λ at. option_map told (slot_at places items at)) count at
    (slot_in told count at places items slots are inside)
    ∙ ap (option_map told) (slot_at-read places items at index item is_index below read)

-- where one slot is changed, it is one of the list
pub slots_in-set : {A B : Type 0} (told : A → B) (count at : ℕ) (places new_places : List ℕ)
    (items new_items : List (Option A)) (slots : List (Option B)) (item : Option A)
    → slots_in told count places items ≡ slots → at < length slots
    → SetsSlot at item places new_places items new_items
    → slots_in told count new_places new_items ≡ set slots at (option_map told item)
slots_in-set told count at places new_places items new_items slots item are inside sets =
    listed-set (λ k. option_map told (slot_at places items k))
    (λ k. option_map told (slot_at new_places new_items k)) count at (option_map told item)
    (slot_in told count at places items slots are inside) (ap (option_map told) sets.here)
    (λ k other. ap (option_map told) (sets.others k other))
    ∙ ap (λ xs. set xs at (option_map told item)) are

-- ---- slots without items

-- a list of zeros
get_or-zeros : (count k : ℕ) → get_or {A = ℕ} (replicate count 0) k 0 ≡ 0
get_or-zeros zero k = refl
get_or-zeros (suc count) zero = refl
get_or-zeros (suc count) (suc k) = get_or-zeros count k

-- groups that all have the first place
pub IsGrouped-new : {A : Type 0} (groups : ℕ) → groups < 2 ^ 16
    → IsGrouped {A = A} (replicate groups 0) (replicate 64 None) ((groups + 1) * 64)
IsGrouped-new {A = A} groups few =
    let long : length (replicate {A = Option A} 64 None) ≡ 64 =
    length-replicate {A = Option A} 64 None in
    let first : (g : ℕ) → get_or {A = ℕ} (replicate groups 0) g 0 ≡ 0 = get_or-zeros groups in
    record {
      few = omega (arith, few);
      whole = omega (arith, long);
      room = omega (
        arith,
        long,
        count_by-le-length (λ p. p == 0) (replicate groups 0),
        length-replicate {A = ℕ} groups 0,
      );
      within = λ g. omega (arith, first g, long);
      apart = λ g h own same. absurd (omega (arith, first g, own));
      empty = λ k low. get_or-none None 64 k;
    }

-- a slot of theirs has nothing
slot_at-none : {A : Type 0} (places : List ℕ) (at : ℕ)
    → slot_at {A = A} places (replicate 64 None) at ≡ None
unfolding slot_at
slot_at-none places at = get_or-none None 64 (get_or places (at / 64) 0 * 64 + at % 64)

-- and so have all
pub slots_in-none : {A B : Type 0} (told : A → B) (count : ℕ) (places : List ℕ)
    (items : List (Option A))
    → items ≡ replicate 64 None → slots_in told count places items ≡ replicate count None
slots_in-none told count places items are =
    listed-none (λ at. option_map told (slot_at places items at)) count
    (λ at. ap (λ xs. option_map told (slot_at places xs at)) are
    ∙ ap (option_map told) (slot_at-none places at))
