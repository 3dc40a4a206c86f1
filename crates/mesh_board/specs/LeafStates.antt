-- How each node of a world is: no leaf, or a leaf whose mesh is wanted, is being made, or is there.
-- Source: this project's rule.
use Rattle.std.specs.Prelude.{◌≡◌, ◌≢◌, ◌⊎◌, ℕ, Bool, true, false, List, slice_index_or}
use Rattle.lattice.specs.declared.node.Node.{Node}
use Rattle.lattice.specs.Node.{is_node, slot}
use Rattle.lattice.specs.Orders.{NodeIsBefore}
use Rattle.block_mesh.specs.Done.{DoneState}

-- a node is no leaf; or it is a leaf that is wanted, for its mesh is to be made; that is out with somebody who makes
-- it; or that is fresh, with its brick and mesh
pub data LeafState : Type 0 where
  no_leaf : LeafState
  wanted : LeafState
  out : LeafState
  fresh : DoneState → LeafState

-- the depth of a world, and the states of its nodes in the order of nodes
pub record LeafStates : Type 0 where
  pub depth : ℕ
  pub states : List LeafState

-- the state of a node; one that isn't in the world is no leaf
unfoldable pub state_at : LeafStates → Node → LeafState
state_at leaves n = elim (is_node leaves.depth n) [
  | true ↦ slice_index_or leaves.states (slot leaves.depth n) no_leaf
  | false ↦ no_leaf
]

-- whether a state is a leaf's
abbrev pub is_leaf_state : LeafState → Bool
is_leaf_state no_leaf = false
is_leaf_state wanted = true
is_leaf_state out = true
is_leaf_state (fresh done) = true

-- whether a state is wanted
abbrev pub is_wanted_state : LeafState → Bool
is_wanted_state no_leaf = false
is_wanted_state wanted = true
is_wanted_state out = false
is_wanted_state (fresh done) = false

-- a state is neither wanted nor out
abbrev pub IsSettled : LeafState → Type 0
IsSettled no_leaf = Unit {0}
IsSettled wanted = ⊥
IsSettled out = ⊥
IsSettled (fresh done) = Unit {0}

-- a state is fresh
abbrev pub IsFresh : LeafState → Type 0
IsFresh no_leaf = ⊥
IsFresh wanted = ⊥
IsFresh out = ⊥
IsFresh (fresh done) = Unit {0}

-- what is out becomes wanted, and all else stays
abbrev pub recalled : LeafState → LeafState
recalled no_leaf = no_leaf
recalled wanted = wanted
recalled out = wanted
recalled (fresh done) = fresh done

-- one node is in this state, and the others are as they were
pub record ChangesState (old new : LeafStates) (n : Node) (state : LeafState) : Type 0 where
  pub depth : new.depth ≡ old.depth
  pub here : state_at new n ≡ state
  pub others : (m : Node) → m ≢ n → state_at new m ≡ state_at old m

-- a node is the first wanted one in the order of nodes
pub record IsFirstWanted (leaves : LeafStates) (n : Node) : Type 0 where
  pub wanted_is : state_at leaves n ≡ wanted
  pub least : (m : Node) → state_at leaves m ≡ wanted → (m ≡ n) ⊎ NodeIsBefore n m
