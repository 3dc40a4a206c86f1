-- What a table has in its slots, and what it has after one of them was changed.
-- A table is a list of slots, and its slot of a node is the one at the node's slot number (`item_at-in`); other nodes
-- have none (`item_at-out`). Then: the slots are those of the nodes in order; a new table has nothing; what a call
-- lends or takes out of the list is what the node has; and a list that is changed at a node's slot number is a table
-- that is changed at the node alone (`SetsItem-from`), since no two nodes have one slot.
--
-- Offered to the proofs of the crates above, which import them: `item_at-in`, `item_at-out`, `item_at-none`,
-- `get_or-none`, `slots_listed`, `lent`, `SetsItem-from`, `IsNodeTable-set` and `root_in`.
use Rattle.std.proofs.Common.{Bor, ◌≡◌, ◌≢◌, ℕ, zero, suc, ◌<◌, Bool, true, false, List, length, get_or, map, set, Some, None, refl, sym, ap, ◌∙◌, subst, arith, inl, inr, length-set}
use Rattle.std.specs.Prelude.{MatchOption, Option, replicate, ◌^◌}
use Rattle.std.specs.Option.{option_copied, option_map}
use Rattle.std.proofs.lemmas.Bool.{cases_Bool}
use Rattle.std.proofs.lemmas.List.{ext_get_or, get_or-map, get_or-set_other, get_or-set_same, length-map}
use Rattle.std.proofs.lemmas.Option.{get_or_from_slice_get}
use Rattle.std.proofs.Math.Nat.{sub_self}
use Rattle.lattice.proofs.SlotLemmas.{node_at_slot, same_slot, slot_at_place, slot_in}
use Rattle.lattice.proofs.TestLemmas.{node_test}
use Rattle.lattice.specs.declared.node.Node.{Node}
use Rattle.lattice.specs.Node.{IsNode, is_node, nodes, nodes_across, root, slot}
use Rattle.lattice.specs.Settings.{IsDepth}
use Rattle.node_tables.specs.NodeSlots.{NodeSlots, IsNodeTable, item_at}

-- ---- what a slot has

-- the slot of a node of the world
pub item_at-in : {T : Type 0} (table : NodeSlots T) (n : Node) → is_node table.depth n ≡ true
    → item_at table n ≡ get_or table.slots (slot table.depth n) None
unfolding item_at
item_at-in table n h =
    let there = get_or table.slots (slot table.depth n) None in
    ap (λ (b : Bool). elim b [ true ↦ there | false ↦ None ]) h

-- another node has no slot
pub item_at-out : {T : Type 0} (table : NodeSlots T) (n : Node) → is_node table.depth n ≡ false
    → item_at table n ≡ None
unfolding item_at
item_at-out table n h =
    let there = get_or table.slots (slot table.depth n) None in
    ap (λ (b : Bool). elim b [ true ↦ there | false ↦ None ]) h

-- the slots of a table are those of the nodes in order
pub slots_listed : {T : Type 0} (table : NodeSlots T)
    → length table.slots ≡ length (nodes table.depth)
    → table.slots ≡ map (item_at table) (nodes table.depth)
slots_listed table long =
    let all = nodes table.depth in
    ext_get_or None table.slots (map (item_at table) all)
    (long ∙ sym (length-map all (item_at table)))
    (λ k inside.
    let below : k < length all = omega (arith, inside, long) in
    let node = slot_at_place table.depth k below in
    let there : get_or all k node.0 ≡ node.0 =
    ap (λ j. get_or all j node.0) (sym node.2)
    ∙ get_or_from_slice_get all (slot table.depth node.0) node.0 node.0
    (node_at_slot table.depth node.0 node.1) in
    sym (get_or-map (item_at table) all k node.0 None below ∙ ap (item_at table) there
    ∙ item_at-in table node.0 ((node_test table.depth node.0).1 node.1)
    ∙ ap (λ j. get_or table.slots j None) node.2))

-- ---- a table without items

-- a table of empty slots has no item
pub item_at-none : {T : Type 0} (table : NodeSlots T)
    → ((k : ℕ) → get_or table.slots k None ≡ None) → (n : Node) → item_at table n ≡ None
item_at-none table none n =
    elim (cases_Bool (is_node table.depth n)) [
      | inl on ↦ item_at-in table n on ∙ none (slot table.depth n)
      | inr off ↦ item_at-out table n off
    ]

-- a list of empty slots has no item
pub get_or-none : {X : Type 0} (empty : Option X) (count k : ℕ)
    → get_or (replicate count empty) k empty ≡ empty
get_or-none empty zero k = refl
get_or-none empty (suc count) zero = refl
get_or-none empty (suc count) (suc k) = get_or-none empty count k

-- ---- what is lent of a slot, and what is taken out of it

-- a slot that is lent has what the node has
pub lent : {A D : Type 0} (f : A → D) (r : Option (Bor A)) (item : Option A) (at : Option D)
    → option_copied r ≡ item → at ≡ option_map f item
    → MatchOption r (at ≡ None) (λ x. at ≡ Some (f x.now))
lent f None item at same is = is ∙ ap (option_map f) (sym same)
lent f (Some x) item at same is = is ∙ ap (option_map f) (sym same)

-- what is taken out is what the node had
pub taken : {A D : Type 0} (f : A → D) (r item : Option A) (at : Option D)
    → r ≡ item → at ≡ option_map f item
    → MatchOption r (at ≡ None) (λ x. at ≡ Some (f x))
taken f None item at same is = is ∙ ap (option_map f) (sym same)
taken f (Some x) item at same is = is ∙ ap (option_map f) (sym same)

-- ---- one slot changed

-- a table that has something else in the slot of a node
pub record SetsItem {T : Type 0} (node : Node) (is : Option T) (old new : NodeSlots T)
    : Type 0 where
  pub depth : new.depth ≡ old.depth
  pub here : item_at new node ≡ is
  pub others : (n : Node) → n ≢ node → item_at new n ≡ item_at old n
  pub long : length new.slots ≡ length old.slots

-- a list of slots with another item at the slot of a node
pub SetsItem-from : {T : Type 0} (old : NodeSlots T) (node : Node) (is : Option T)
    (slots : List (Option T))
    → length old.slots ≡ length (nodes old.depth) → IsNode old.depth node
    → slots ≡ set old.slots (slot old.depth node) is
    → SetsItem node is old (record { depth = old.depth; slots = slots })
SetsItem-from old node is slots long node_in slots_are =
    let new : NodeSlots _ = record { depth = old.depth; slots = slots } in
    let below : slot old.depth node < length old.slots =
    omega (arith, slot_in old.depth node node_in, long) in
    let at : (n : Node) → is_node old.depth n ≡ true
    → item_at new n ≡ get_or (set old.slots (slot old.depth node) is) (slot old.depth n) None =
    λ n on.
    item_at-in new n on ∙ ap (λ xs. get_or xs (slot old.depth n) None) slots_are in
    record {
      depth = refl;
      here = at node ((node_test old.depth node).1 node_in)
          ∙ get_or-set_same old.slots (slot old.depth node) is None below;
      others = λ n differ. elim (cases_Bool (is_node old.depth n)) [
        | inl on ↦
            at n on
            ∙ get_or-set_other old.slots (slot old.depth node) (slot old.depth n) is None
            (λ same.
            differ (same_slot old.depth n node ((node_test old.depth n).0 on) node_in same))
            ∙ sym (item_at-in old n on)
        | inr off ↦ item_at-out new n off ∙ sym (item_at-out old n off)
      ];
      long = ap length slots_are ∙ length-set old.slots (slot old.depth node) is;
    }

-- it is a table too
pub IsNodeTable-set : {T : Type 0} (old new : NodeSlots T) (node : Node) (is : Option T)
    → IsNodeTable old → SetsItem node is old new → IsNodeTable new
IsNodeTable-set old new node is table changed =
    let depths : new.depth ≡ old.depth = changed.depth in
    record {
      depth = subst IsDepth (sym depths) table.depth;
      long = changed.long ∙ table.long ∙ ap (λ d. length (nodes d)) (sym depths);
    }

-- ---- the root

-- the root is a node of the world
pub root_in : (depth : ℕ) → IsNode depth (root depth)
root_in depth =
    let one : nodes_across depth depth ≡ 1 = ap (λ d. 2 ^ d) (sub_self depth) in
    let some : 0 < nodes_across depth depth = omega (arith, one) in
    record { level = omega arith; k = some; j = some; i = some }
