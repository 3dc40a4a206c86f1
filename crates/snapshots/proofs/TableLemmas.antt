-- Tables as lists of what the slots of nodes have.
-- A table that lists a function's values has them in the slots of the world's nodes (`item_at-listed`), so a table and
-- its list have the same items (`listed_item`), and two tables with the same items are the same (`same_tables`). Where
-- one node's slot is changed, one item of the list is (`listed-set`).
use Rattle.std.proofs.Common.{◌≡◌, ◌≢◌, ℕ, ◌<◌, List, [], ◌∷◌, All, get_or, length, map, set, Some, None, refl, sym, ap, subst, ◌∙◌, inl, inr, arith, length-set}
use Rattle.std.specs.Prelude.{Option}
use Rattle.std.proofs.lemmas.Bool.{cases_Bool}
use Rattle.std.proofs.lemmas.List.{ext_get_or, get_or-map, get_or-set_other, get_or-set_same, length-map}
use Rattle.std.proofs.lemmas.List.Elements.{All-head, All-tail}
use Rattle.std.proofs.lemmas.Option.{get_or_from_slice_get, none-some}
use Rattle.lattice.specs.declared.node.Node.{Node}
use Rattle.lattice.specs.Node.{IsNode, is_node, nodes, slot}
use Rattle.lattice.proofs.FamilyLemmas.{cases_Node}
use Rattle.lattice.proofs.SlotLemmas.{all_are_nodes, node_at_slot, same_slot, slot_at_place, slot_in}
use Rattle.lattice.proofs.TestLemmas.{node_test}
use Rattle.node_tables.specs.NodeSlots.{NodeSlots, item_at}
use Rattle.node_tables.proofs.TableLemmas.{item_at-in, item_at-out, slots_listed}
use Rattle.block_mesh.specs.Done.{DoneState}
use Rattle.snapshots.specs.Blocks.{listed}

-- the slot of a node of the world has what the list has for the node
pub item_at-listed : {T : Type 0} (f : Node → Option T) (depth : ℕ) (n : Node) → IsNode depth n
    → item_at (record { depth = depth; slots = map f (nodes depth) }) n ≡ f n
item_at-listed f depth n node =
    let all = nodes depth in
    item_at-in (record { depth = depth; slots = map f all }) n ((node_test depth n).1 node)
    ∙ get_or-map f all (slot depth n) n None (slot_in depth n node)
    ∙ ap f (get_or_from_slice_get all (slot depth n) n n (node_at_slot depth n node))

-- a table and its list have the same items
pub listed_item : (table : NodeSlots DoneState) (n : Node)
    → item_at (listed table) n ≡ item_at table n
listed_item table n =
    elim (cases_Bool (is_node table.depth n)) [
      | inl on ↦ item_at-listed (item_at table) table.depth n ((node_test table.depth n).0 on)
      | inr off ↦ item_at-out (listed table) n off ∙ sym (item_at-out table n off)
    ]

-- a node with an item is one of the world
pub item_in : (table : NodeSlots DoneState) (depth : ℕ) (n : Node) (done : DoneState)
    → depth ≡ table.depth → item_at table n ≡ Some done → IsNode depth n
item_in table depth n done same at =
    elim (cases_Bool (is_node table.depth n)) [
      | inl on ↦ subst (λ d. IsNode d n) (sym same) ((node_test table.depth n).0 on)
      | inr off ↦ absurd (none-some done (sym (item_at-out table n off) ∙ at))
    ]

-- functions that agree on what a list has map it to the same
pub map-agree : {A B : Type 0} (P : A → Type 0) (f g : A → B) (xs : List A) → All P xs
    → ((x : A) → P x → f x ≡ g x) → map f xs ≡ map g xs
map-agree P f g [] all agree = refl
map-agree P f g (x ∷ xs) all agree =
    λ i. agree x (All-head P x xs all) i ∷ map-agree P f g xs (All-tail P x xs all) agree i

-- a table of a world is the one that lists what its slots have
pub table-listed : {T : Type 0} (table : NodeSlots T) (depth : ℕ) (f : Node → Option T)
    → length table.slots ≡ length (nodes table.depth) → table.depth ≡ depth
    → ((n : Node) → IsNode depth n → item_at table n ≡ f n)
    → table ≡ record { depth = depth; slots = map f (nodes depth) }
table-listed table depth f long is each =
    let slots = slots_listed table long ∙ ap (λ d. map (item_at table) (nodes d)) is
    ∙ map-agree (IsNode depth) (item_at table) f (nodes depth) (all_are_nodes depth) each in
    λ i. record { depth = is i; slots = slots i }

-- two tables of one world with the same items are the same
pub same_tables : {T : Type 0} (a b : NodeSlots T)
    → length a.slots ≡ length (nodes a.depth) → length b.slots ≡ length (nodes b.depth)
    → a.depth ≡ b.depth → ((n : Node) → item_at a n ≡ item_at b n) → a ≡ b
same_tables a b long_a long_b depth each =
    table-listed a b.depth (item_at b) long_a depth (λ n node. each n)
    ∙ sym (table-listed b b.depth (item_at b) long_b refl (λ n node. refl))

-- one item of the list is changed
pub listed-set : (old new : NodeSlots DoneState) (node : Node) (is : Option DoneState)
    → new.depth ≡ old.depth → IsNode old.depth node → item_at new node ≡ is
    → ((n : Node) → n ≢ node → item_at new n ≡ item_at old n)
    → (listed new).slots ≡ set (listed old).slots (slot old.depth node) is
listed-set old new node is depth node_in here others =
    let all = nodes old.depth in
    let was = map (item_at old) all in
    let place = slot old.depth node in
    let inside : place < length was =
    omega (arith, slot_in old.depth node node_in, length-map all (item_at old)) in
    ap (λ d. map (item_at new) (nodes d)) depth
    ∙ ext_get_or None (map (item_at new) all) (set was place is)
    (length-map all (item_at new) ∙ sym (length-map all (item_at old))
    ∙ sym (length-set was place is))
    (λ k below.
    let in_all : k < length all = omega (arith, below, length-map all (item_at new)) in
    let at = slot_at_place old.depth k in_all in
    let there : get_or all k at.0 ≡ at.0 =
    ap (λ j. get_or all j at.0) (sym at.2)
    ∙ get_or_from_slice_get all (slot old.depth at.0) at.0 at.0
    (node_at_slot old.depth at.0 at.1) in
    let item : (table : NodeSlots DoneState)
    → get_or (map (item_at table) all) k None ≡ item_at table at.0 =
    λ table. get_or-map (item_at table) all k at.0 None in_all ∙ ap (item_at table) there in
    item new
    ∙ (elim (cases_Node at.0 node) [
      | inl same ↦
          ap (item_at new) same ∙ here
          ∙ sym (ap (λ j. get_or (set was place is) j None)
          (sym at.2 ∙ ap (slot old.depth) same)
          ∙ get_or-set_same was place is None inside)
      | inr differ ↦
          others at.0 differ ∙ sym (item old)
          ∙ sym (get_or-set_other was place k is None (λ same.
          differ (same_slot old.depth at.0 node at.1 node_in (at.2 ∙ same))))
    ]))
