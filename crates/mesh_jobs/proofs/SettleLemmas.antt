-- What the loop of `mesh_wanted` keeps, and that it ends: each turn takes the first wanted leaf and keeps its block.
-- A turn changes that leaf alone, from wanted by way of out to fresh. So the world and the mark stay, what is fresh
-- stays fresh (`fresh-same`), nothing is out (`none-out`), and fewer leaves are wanted (`fewer-wanted`), which are
-- counted over the list of nodes. Where nothing is wanted or out, every leaf is fresh (`settled`).
use Rattle.std.proofs.Common.{◌≡◌, ◌≢◌, ℕ, ◌<◌, Bool, true, false, length, get_or, refl, sym, ap, ◌∙◌, subst, inl, inr}
use Rattle.std.specs.Prelude.{filter, slice_index_or}
use Rattle.std.proofs.lemmas.Bool.{false≢true}
use Rattle.std.proofs.lemmas.Option.{get_or_from_slice_get, slice_get_within}
use Rattle.block_mesh.specs.Done.{DoneState}
use Rattle.lattice.proofs.FamilyLemmas.{cases_Node}
use Rattle.lattice.proofs.SlotLemmas.{node_at_slot}
use Rattle.lattice.proofs.TestLemmas.{node_test}
use Rattle.lattice.specs.declared.node.Node.{Node}
use Rattle.lattice.specs.Node.{is_node, nodes, slot}
use Rattle.terrain.specs.Blocks.{Brick}
use Rattle.mesh_board.specs.Board.{BoardState, ChangesOnly, IsPresentBrick, Takes, state_of}
use Rattle.mesh_board.specs.LeafStates.{IsSettled, LeafState, LeafStates, fresh, is_wanted_state, no_leaf, out, recalled, state_at, wanted}
use Rattle.mesh_jobs.proofs.PresentLemmas.{present-there}
use Rattle.mesh_jobs.proofs.WantedLemmas.{fewer}

-- how many leaves are wanted
pub wanted_count : LeafStates → ℕ
wanted_count leaves =
    length (filter (λ n. is_wanted_state (state_at leaves n)) (nodes leaves.depth))

-- a state that is wanted is read from a slot, and not from past the world
state_or : (inside : Bool) (state : LeafState)
    → ◌≡◌ {A = LeafState} (elim inside [ true ↦ state | false ↦ no_leaf ]) wanted → inside ≡ true
state_or true state is = refl
state_or false state is = absurd (false≢true (ap is_wanted_state is))

-- so such a node is in the world
node-in : (leaves : LeafStates) (n : Node) → state_at leaves n ≡ wanted
    → is_node leaves.depth n ≡ true
unfolding state_at
node-in leaves n is =
    state_or (is_node leaves.depth n)
    (slice_index_or leaves.states (slot leaves.depth n) no_leaf) is

-- recalling leaves nothing out
pub recalled-in : (state : LeafState) → recalled state ≢ out
recalled-in no_leaf h = cc
recalled-in wanted h = cc
recalled-in out h = cc
recalled-in (fresh done) h = cc

-- where nothing is wanted or out, all is settled
pub settled : (state : LeafState) → state ≢ wanted → state ≢ out → IsSettled state
settled no_leaf w o = tt
settled wanted w o = absurd (w refl)
settled out w o = absurd (o refl)
settled (fresh done) w o = tt

-- the brick that was taken is the present one still
pub present : (old took : BoardState) (brick : Brick) → Takes old took brick
    → IsPresentBrick took brick
present old took brick takes = present-there old took takes.changes.world brick takes.present

module _ (old took new : BoardState) (brick : Brick) (done : DoneState)
    (takes : Takes old took brick) (same : done.brick ≡ brick)
    (changes : ChangesOnly took new done.brick.node (fresh done)) where
  -- the leaf is fresh with its brick's block
  kept : ChangesOnly took new brick.node (fresh done)
  kept = subst (λ b. ChangesOnly took new b.node (fresh done)) same changes

  -- the world stays
  pub world-same : new.world ≡ old.world
  world-same = kept.world ∙ takes.changes.world

  -- and so does what was published
  pub marked-same : new.marked ≡ old.marked
  marked-same = kept.marked ∙ takes.changes.marked

  -- the depth stays
  depth-same : new.leaves.depth ≡ old.leaves.depth
  depth-same = kept.leaves.depth ∙ takes.changes.leaves.depth

  -- each other leaf is as it was
  others : (n : Node) → n ≢ brick.node → state_of new n ≡ state_of old n
  others n apart = kept.leaves.others n apart ∙ takes.changes.leaves.others n apart

  -- what is fresh stays fresh
  pub fresh-same : (n : Node) (d : DoneState) → state_of old n ≡ fresh d → state_of new n ≡ fresh d
  fresh-same n d is = elim (cases_Node n brick.node) [
    | inl here ↦
        absurd (false≢true
        (ap is_wanted_state (sym is ∙ ap (state_of old) here ∙ takes.first.wanted_is)))
    | inr apart ↦ others n apart ∙ is
  ]

  -- nothing is out after it, where nothing was
  pub none-out : ((n : Node) → state_of old n ≢ out) → (n : Node) → state_of new n ≢ out
  none-out none n is = elim (cases_Node n brick.node) [
    | inl here ↦ fresh≢out (sym kept.leaves.here ∙ ap (state_of new) (sym here) ∙ is)
    | inr apart ↦ none n (sym (others n apart) ∙ is)
  ]
    where
      fresh≢out : fresh done ≢ out
      fresh≢out h = cc

  -- whether a node is wanted after it
  -- whether a node is wanted after the turn
  abbrev wanted_new : Node → Bool
  wanted_new n = is_wanted_state (state_of new n)

  -- and before it
  -- the same before it
  abbrev wanted_old : Node → Bool
  wanted_old n = is_wanted_state (state_of old n)

  -- the leaf isn't wanted then
  here-new : wanted_new brick.node ≡ false
  here-new = ap is_wanted_state kept.leaves.here

  -- and it was before
  here-old : wanted_old brick.node ≡ true
  here-old = ap is_wanted_state takes.first.wanted_is

  -- what is wanted then was wanted before
  less : (n : Node) → wanted_new n ≡ true → wanted_old n ≡ true
  less n is = elim (cases_Node n brick.node) [
    | inl here ↦ absurd (false≢true (sym here-new ∙ ap wanted_new (sym here) ∙ is))
    | inr apart ↦ ap is_wanted_state (sym (others n apart)) ∙ is
  ]

  -- fewer are wanted
  pub fewer-wanted : wanted_count new.leaves < wanted_count old.leaves
  unfolding wanted_count
  fewer-wanted =
      let depth = old.leaves.depth in
      let xs = nodes depth in
      let k = slot depth brick.node in
      let at = node_at_slot depth brick.node
      ((node_test depth brick.node).0 (node-in old.leaves brick.node takes.first.wanted_is)) in
      let is : get_or xs k brick.node ≡ brick.node =
      get_or_from_slice_get xs k brick.node brick.node at in
      let few = fewer wanted_old wanted_new less xs k brick.node
      (slice_get_within xs k brick.node at) (ap wanted_old is ∙ here-old)
      (ap wanted_new is ∙ here-new) in
      subst (λ d. length (filter wanted_new (nodes d)) < length (filter wanted_old xs))
      (sym depth-same) few
