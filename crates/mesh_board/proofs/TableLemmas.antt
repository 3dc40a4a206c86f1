-- The states of a table's nodes follow from its blocks and sets, and each call of `LeafTable` changes them as it
-- says. The state that contracts see for a node is the one that its block and the sets give (`state_at-in`). So a
-- call that changes the parts at one node changes the state of that node alone, and what the table keeps has to be
-- shown there only (`IsLeafTable-changed`, `ChangesState-changed`). The rest reads the sets: just the wanted leaves
-- are in the first one (`listed-is`), all is settled where two are empty (`all_settled`, `none_wanted`, `none_out`),
-- the first member is the first wanted leaf (`first_wanted`), and a fresh leaf's block is found (`block-found`,
-- `block-there`).
use Rattle.std.proofs.Common.{◌≡◌, ◌≢◌, ℕ, Bool, true, false, Some, None, Option, refl, sym, ap, ◌∙◌, subst, inl, inr, ◌⊎◌}
use Rattle.std.specs.Prelude.{◌||◌, IsSome, MatchOption, map}
use Rattle.std.specs.Option.{option_map}
use Rattle.std.proofs.lemmas.Bool.{cases_Bool, false≢true, or_right}
use Rattle.std.proofs.lemmas.Option.{get_or_from_slice_get, none-some, slice_get-map}
use Rattle.std.proofs.Math.Bool.{or-false}
use Rattle.lattice.proofs.FamilyLemmas.{cases_Node}
use Rattle.lattice.specs.declared.node.Node.{Node}
use Rattle.lattice.specs.Node.{IsNode, is_node, nodes, slot}
use Rattle.node_tables.specs.Members.{IsFirst}
use Rattle.node_tables.specs.NodeBits.{NodeBits, has}
use Rattle.node_tables.specs.NodeSlots.{NodeSlots, item_at}
use Rattle.lattice.proofs.SlotLemmas.{node_at_slot}
use Rattle.lattice.proofs.TestLemmas.{node_test}
use Rattle.node_tables.proofs.SetLemmas.{has-off}
use Rattle.node_tables.proofs.TableLemmas.{item_at-out}
use Rattle.block_mesh.specs.Done.{DoneState}
use Rattle.mesh_board.specs.LeafStates.{ChangesState, IsFirstWanted, IsFresh, IsSettled, LeafState, LeafStates, fresh, is_leaf_state, is_wanted_state, no_leaf, out, recalled, state_at, wanted}
use Rattle.mesh_board.specs.LeafTable.{IsLeafTable, state_by, state_in, states_of}
use Rattle.mesh_board.proofs.StateLemmas.{recalled-leaf}
use Rattle.mesh_board.specs.declared.leaf_table.LeafTable.TheInside.{Inside}

-- ---- the states of a table

-- a node that isn't in the world is in no set
off_set : (set : NodeBits) (depth : ℕ) (n : Node) → set.depth ≡ depth → is_node depth n ≡ false
    → has set n ≡ false
off_set set depth n same off = has-off set n (ap (λ d. is_node d n) same ∙ off)

-- the state of a node follows from its block and the sets
pub state_at-in : (table : Inside) (n : Node) → IsLeafTable table
    → state_at (states_of table) n ≡ state_in table n
unfolding state_at
state_at-in table n sound =
    let depth = table.blocks.depth in
    elim (cases_Bool (is_node depth n)) [
      | inl inside ↦
          let there = slice_get-map (state_in table) (nodes depth) (slot depth n)
          ∙ ap (option_map (state_in table))
          (node_at_slot depth n ((node_test depth n).0 inside)) in
          rw (inside, state_at) (get_or_from_slice_get (map (state_in table) (nodes depth))
          (slot depth n) (state_in table n) no_leaf there)
      | inr off ↦
          rw (off, state_at) (sym (λ t. state_by (item_at-out table.blocks n off t)
          (off_set table.wanted depth n sound.wanted_depth off t)
          (off_set table.out depth n sound.out_depth off t)))
    ]

-- ---- the state of one node changes

-- the parts of a table are as they were but for a node
pub record KeepsOthers (old new : Inside) (n : Node) : Type 0 where
  pub depth : new.blocks.depth ≡ old.blocks.depth
  pub wanted_depth : new.wanted.depth ≡ old.wanted.depth
  pub out_depth : new.out.depth ≡ old.out.depth
  pub leaves_depth : new.leaves.depth ≡ old.leaves.depth
  pub blocks : (m : Node) → m ≢ n → item_at new.blocks m ≡ item_at old.blocks m
  pub wanted_set : (m : Node) → m ≢ n → has new.wanted m ≡ has old.wanted m
  pub out_set : (m : Node) → m ≢ n → has new.out m ≡ has old.out m
  pub leaves : (m : Node) → m ≢ n → has new.leaves m ≡ has old.leaves m

-- another node's state is as it was
state_in-others : (old new : Inside) (n m : Node) → KeepsOthers old new n → m ≢ n
    → state_in new m ≡ state_in old m
state_in-others old new n m keeps other =
    λ t. state_by (keeps.blocks m other t) (keeps.wanted_set m other t) (keeps.out_set m other t)

-- such a table is sound where it is so at the node
pub IsLeafTable-changed : (old new : Inside) (n : Node) → IsLeafTable old → KeepsOthers old new n
    → ((done : DoneState) → item_at new.blocks n ≡ Some done
    → (has new.wanted n || has new.out n) ≡ false)
    → has new.leaves n ≡ is_leaf_state (state_in new n) → IsLeafTable new
IsLeafTable-changed old new n sound keeps alone listed = record {
  wanted_depth = keeps.wanted_depth ∙ sound.wanted_depth ∙ sym keeps.depth;
  out_depth = keeps.out_depth ∙ sound.out_depth ∙ sym keeps.depth;
  leaves_depth = keeps.leaves_depth ∙ sound.leaves_depth ∙ sym keeps.depth;
  alone = λ m done there.
      elim (cases_Node m n) [
        | inl same ↦
            let P : Node → Type 0 = λ k. (has new.wanted k || has new.out k) ≡ false in
            subst P (sym same) (alone done (ap (item_at new.blocks) (sym same) ∙ there))
        | inr other ↦
            (λ t. keeps.wanted_set m other t || keeps.out_set m other t)
            ∙ sound.alone m done (sym (keeps.blocks m other) ∙ there)
      ];
  listed = λ m.
      elim (cases_Node m n) [
        | inl same ↦
            let P : Node → Type 0 = λ k. has new.leaves k ≡ is_leaf_state (state_in new k) in
            subst P (sym same) listed
        | inr other ↦
            keeps.leaves m other ∙ sound.listed m
            ∙ ap is_leaf_state (sym (state_in-others old new n m keeps other))
      ];
}

-- and the state of the node alone changes
pub ChangesState-changed : (old new : Inside) (n : Node) (state : LeafState) → IsLeafTable old
    → IsLeafTable new → KeepsOthers old new n
    → state_in new n ≡ state → ChangesState (states_of old) (states_of new) n state
ChangesState-changed old new n state sound sound' keeps is = record {
  depth = keeps.depth;
  here = state_at-in new n sound' ∙ is;
  others = λ m other.
      state_at-in new m sound' ∙ state_in-others old new n m keeps other
      ∙ sym (state_at-in old m sound);
}

-- ---- what a state says

-- a node that is wanted, or out, or fresh is in the world
pub in_world : (leaves : LeafStates) (n : Node) → is_leaf_state (state_at leaves n) ≡ true
    → IsNode leaves.depth n
unfolding state_at
in_world leaves n leaf =
    elim (cases_Bool (is_node leaves.depth n)) [
      | inl inside ↦ (node_test leaves.depth n).0 inside
      | inr off ↦
          let none : state_at leaves n ≡ no_leaf = rw (off, state_at) refl in
          absurd (false≢true (sym (ap is_leaf_state none) ∙ leaf))
    ]

-- a node that is wanted has no block, and is in the set
pub wanted-parts : (block : Option DoneState) (is_wanted is_out : Bool)
    → state_by block is_wanted is_out ≡ wanted → (block ≡ None) × (is_wanted ≡ true)
wanted-parts (Some done) is_wanted is_out h = absurd (cc)
wanted-parts None true is_out h = (refl, refl)
wanted-parts None false true h = absurd (cc)
wanted-parts None false false h = absurd (cc)

-- without a block a node is what the sets say
pub state_by-block : (block : Option DoneState) (done : DoneState) (is_wanted is_out : Bool)
    → block ≡ Some done → state_by block is_wanted is_out ≡ fresh done
state_by-block block done is_wanted is_out there = ap (λ b. state_by b is_wanted is_out) there

-- a node of the first set without a block is wanted
pub state_by-wanted : (block : Option DoneState) (is_wanted is_out : Bool) → block ≡ None
    → is_wanted ≡ true → state_by block is_wanted is_out ≡ wanted
state_by-wanted block is_wanted is_out none is = λ t. state_by (none t) (is t) is_out

-- one of the second set alone is out
pub state_by-out : (block : Option DoneState) (is_wanted is_out : Bool) → block ≡ None
    → is_wanted ≡ false → is_out ≡ true → state_by block is_wanted is_out ≡ out
state_by-out block is_wanted is_out none off is = λ t. state_by (none t) (off t) (is t)

-- one of neither is no leaf
pub state_by-none : (block : Option DoneState) (is_wanted is_out : Bool) → block ≡ None
    → is_wanted ≡ false → is_out ≡ false → state_by block is_wanted is_out ≡ no_leaf
state_by-none block is_wanted is_out none off off' =
    λ t. state_by (none t) (off t) (off' t)

-- ---- what the sets say

-- a slot has a block or none
cases_block : (block : Option DoneState)
    → (block ≡ None) ⊎ ((done : DoneState) × (block ≡ Some done))
cases_block None = inl refl
cases_block (Some done) = inr (done, refl)

-- a node that is wanted or out has no block
pub no_block : (table : Inside) (n : Node) → IsLeafTable table
    → (has table.wanted n || has table.out n) ≡ true → item_at table.blocks n ≡ None
no_block table n sound listed =
    elim (cases_block (item_at table.blocks n)) [
      | inl none ↦ none
      | inr there ↦ absurd (false≢true (sym (sound.alone n there.0 there.1) ∙ listed))
    ]

-- a node of the set of the wanted is wanted
pub state_in-wanted : (table : Inside) (n : Node) → IsLeafTable table → has table.wanted n ≡ true
    → state_in table n ≡ wanted
state_in-wanted table n sound listed =
    state_by-wanted _ _ _ (no_block table n sound (ap (λ b. b || has table.out n) listed)) listed

-- no other node is
pub wanted-listed : (table : Inside) (n : Node) → state_in table n ≡ wanted
    → has table.wanted n ≡ true
wanted-listed table n is = (wanted-parts _ _ _ is).1

-- a node that isn't in the set of the wanted isn't wanted
unwanted : (block : Option DoneState) (w is_out : Bool) → w ≡ false
    → is_wanted_state (state_by block w is_out) ≡ false
unwanted (Some done) w is_out off = refl
unwanted None true is_out off = absurd (false≢true (sym off))
unwanted None false true off = refl
unwanted None false false off = refl

-- so the set has just the nodes that are wanted
pub listed-is : (table : Inside) (n : Node) → IsLeafTable table
    → has table.wanted n ≡ is_wanted_state (state_in table n)
listed-is table n sound =
    elim (cases_Bool (has table.wanted n)) [
      | inl listed ↦ listed ∙ ap is_wanted_state (sym (state_in-wanted table n sound listed))
      | inr off ↦ off ∙ sym (unwanted _ _ _ off)
    ]

-- a state is told to be wanted where it is
pub is_wanted-from : (state : LeafState) → is_wanted_state state ≡ true → state ≡ wanted
is_wanted-from no_leaf is = absurd (false≢true is)
is_wanted-from wanted is = refl
is_wanted-from out is = absurd (false≢true is)
is_wanted-from (fresh done) is = absurd (false≢true is)

-- where no node is wanted or out, all are settled
settled-from : (block : Option DoneState) (is_wanted is_out : Bool) → is_wanted ≡ false
    → is_out ≡ false → IsSettled (state_by block is_wanted is_out)
settled-from (Some done) is_wanted is_out off off' = tt
settled-from None is_wanted is_out off off' =
    subst IsSettled (sym (state_by-none None is_wanted is_out refl off off')) tt

-- all is settled where both sets are empty
pub all_settled : (table : Inside) → IsLeafTable table
    → ((n : Node) → has table.wanted n ≡ false) → ((n : Node) → has table.out n ≡ false)
    → (n : Node) → IsSettled (state_at (states_of table) n)
all_settled table sound none none' n =
    subst IsSettled (sym (state_at-in table n sound))
    (settled-from _ _ _ (none n) (none' n))

-- where all nodes are settled, none is wanted, and none is out
pub none_wanted : (table : Inside) → IsLeafTable table
    → ((n : Node) → IsSettled (state_at (states_of table) n)) → (n : Node)
    → has table.wanted n ≡ false
none_wanted table sound settled n =
    elim (cases_Bool (has table.wanted n)) [
      | inl listed ↦
          absurd (subst IsSettled (state_at-in table n sound
          ∙ state_in-wanted table n sound listed) (settled n))
      | inr off ↦ off
    ]

-- where all is settled no node is out
pub none_out : (table : Inside) → IsLeafTable table
    → ((n : Node) → IsSettled (state_at (states_of table) n)) → (n : Node)
    → has table.out n ≡ false
none_out table sound settled n =
    elim (cases_Bool (has table.out n)) [
      | inl listed ↦
          let off = none_wanted table sound settled n in
          let none = no_block table n sound (or_right (has table.wanted n) _ listed) in
          absurd (subst IsSettled (state_at-in table n sound
          ∙ state_by-out _ _ _ none off listed) (settled n))
      | inr off ↦ off
    ]

-- ---- the first wanted leaf

-- the first member of the set of wanted nodes is the first wanted leaf
pub first_wanted : (table : Inside) (found : Option Node) → IsLeafTable table
    → MatchOption found ((n : Node) → has table.wanted n ≡ false) (IsFirst table.wanted)
    → MatchOption found ((n : Node) → state_at (states_of table) n ≢ wanted)
    (IsFirstWanted (states_of table))
first_wanted table None sound none = λ n is.
    false≢true (sym (none n)
    ∙ wanted-listed table n (sym (state_at-in table n sound) ∙ is))
first_wanted table (Some n) sound first = record {
  wanted_is = state_at-in table n sound
      ∙ state_in-wanted table n sound first.member;
  least = λ m is.
      first.least m
      (wanted-listed table m (sym (state_at-in table m sound) ∙ is));
}

-- so it is in a table as contracts see it
pub first_wanted_seen : (table : Inside) (seen : LeafStates) (found : Option Node)
    → IsLeafTable table → states_of table ≡ seen
    → MatchOption found ((n : Node) → has table.wanted n ≡ false) (IsFirst table.wanted)
    → MatchOption found ((n : Node) → state_at seen n ≢ wanted) (IsFirstWanted seen)
first_wanted_seen table seen found sound is first =
    subst (λ (s : LeafStates).
    MatchOption found ((n : Node) → state_at s n ≢ wanted) (IsFirstWanted s)) is
    (first_wanted table found sound first)

-- ---- all leaves that are out are called back

-- what is out is wanted once both sets are one
pub recalled-from : (block : Option DoneState) (is_wanted is_out : Bool)
    → ((done : DoneState) → block ≡ Some done → (is_wanted || is_out) ≡ false)
    → state_by block (is_wanted || is_out) false ≡ recalled (state_by block is_wanted is_out)
recalled-from (Some done) is_wanted is_out alone = refl
recalled-from None true is_out alone = refl
recalled-from None false true alone = refl
recalled-from None false false alone = refl

-- a node without a block isn't fresh
not_fresh : (is_wanted is_out : Bool) (done : DoneState)
    → state_by None is_wanted is_out ≡ fresh done → ⊥
not_fresh true is_out done h = cc
not_fresh false true done h = cc
not_fresh false false done h = cc

-- ---- the block of a node

-- the block that is found for a node is its state
pub block-found : {A : Type 0} (value : A → DoneState) (table : Inside) (n : Node)
    (found : Option A) → IsLeafTable table
    → MatchOption found (item_at table.blocks n ≡ None)
    (λ block. item_at table.blocks n ≡ Some (value block))
    → MatchOption found ((done : DoneState) → state_at (states_of table) n ≢ fresh done)
    (λ block. state_at (states_of table) n ≡ fresh (value block))
block-found value table n None sound none = λ done is.
    not_fresh (has table.wanted n) (has table.out n) done
    (ap (λ b. state_by b (has table.wanted n) (has table.out n)) (sym none)
    ∙ sym (state_at-in table n sound) ∙ is)
block-found value table n (Some block) sound there =
    state_at-in table n sound ∙ state_by-block _ _ _ _ there

-- a fresh state is fresh with a block
pub fresh-with : (state : LeafState) → IsFresh state → (done : DoneState) × (state ≡ fresh done)
fresh-with no_leaf h = absurd h
fresh-with wanted h = absurd h
fresh-with out h = absurd h
fresh-with (fresh done) h = (done, refl)

-- so a fresh node has its block
pub block-there : {A : Type 0} (value : A → DoneState) (leaves : LeafStates) (n : Node)
    (found : Option A) → IsFresh (state_at leaves n)
    → MatchOption found ((done : DoneState) → state_at leaves n ≢ fresh done)
    (λ block. state_at leaves n ≡ fresh (value block)) → IsSome found
block-there value leaves n None is none =
    let there = fresh-with (state_at leaves n) is in absurd (none there.0 there.1)
block-there value leaves n (Some block) is there = refl

-- ---- a table of one leaf, or of none

-- where there is no block and no member, the parts make a table
pub IsLeafTable-empty : (table : Inside) → table.wanted.depth ≡ table.blocks.depth
    → table.out.depth ≡ table.blocks.depth → table.leaves.depth ≡ table.blocks.depth
    → ((n : Node) → item_at table.blocks n ≡ None) → ((n : Node) → has table.wanted n ≡ false)
    → ((n : Node) → has table.out n ≡ false) → ((n : Node) → has table.leaves n ≡ false)
    → IsLeafTable table
IsLeafTable-empty table wanted_depth out_depth leaves_depth none off off' off'' = record {
  wanted_depth = wanted_depth;
  out_depth = out_depth;
  leaves_depth = leaves_depth;
  alone = λ n done there. absurd (none-some done (sym (none n) ∙ there));
  listed = λ n. off'' n ∙ ap is_leaf_state (sym (state_by-none _ _ _ (none n) (off n) (off' n)));
}

-- and where all that is out becomes wanted they do too
pub IsLeafTable-recalled : (old new : Inside) → IsLeafTable old → new.blocks ≡ old.blocks
    → new.leaves ≡ old.leaves → new.wanted.depth ≡ old.wanted.depth
    → new.out.depth ≡ old.out.depth
    → ((n : Node) → has new.wanted n ≡ (has old.wanted n || has old.out n))
    → ((n : Node) → has new.out n ≡ false) → IsLeafTable new
IsLeafTable-recalled old new sound blocks leaves wanted_depth out_depth both none = record {
  wanted_depth = wanted_depth ∙ sound.wanted_depth ∙ ap (λ (b : NodeSlots _). b.depth) (sym blocks);
  out_depth = out_depth ∙ sound.out_depth ∙ ap (λ (b : NodeSlots _). b.depth) (sym blocks);
  leaves_depth = ap (λ (s : NodeBits). s.depth) leaves ∙ sound.leaves_depth
      ∙ ap (λ (b : NodeSlots _). b.depth) (sym blocks);
  alone = λ n done there.
      (λ t. both n t || none n t)
      ∙ or-false (has old.wanted n || has old.out n)
      ∙ sound.alone n done (ap (λ b. item_at b n) (sym blocks) ∙ there);
  listed = λ n.
      ap (λ s. has s n) leaves ∙ sound.listed n
      ∙ sym (recalled-leaf (state_in old n))
      ∙ ap is_leaf_state (sym ((λ t. state_by (item_at (blocks t) n) (both n t) (none n t))
      ∙ recalled-from _ _ _ (sound.alone n)));
}
