-- The members of a set of nodes: the first of them, and all of them in the order of nodes.
-- Source: this project's rule.
use Rattle.std.specs.Prelude.{ℕ, ◌≡◌, ◌≤◌, ◌⊎◌, IsTrue, List, drop, filter}
use Rattle.lattice.specs.declared.node.Node.{Node}
use Rattle.lattice.specs.Node.{nodes, slot}
use Rattle.lattice.specs.Orders.{NodeIsBefore}
use Rattle.node_tables.specs.declared.members.Members.{Members}
use Rattle.node_tables.specs.NodeBits.{NodeBits, has}

-- the members of a set in the order of nodes
abbrev pub members : NodeBits → List Node
members set = filter (has set) (nodes set.depth)

-- a node is the first member of a set: it is a member, and each member is it or after it
pub record IsFirst (set : NodeBits) (n : Node) : Type 0 where
  pub member : IsTrue (has set n)
  pub least : (m : Node) → IsTrue (has set m) → (m ≡ n) ⊎ NodeIsBefore n m

-- a node is the first member of a set among the nodes from a slot on
pub record IsFirstFrom (set : NodeBits) (from : ℕ) (n : Node) : Type 0 where
  pub member : IsTrue (has set n)
  pub after : from ≤ slot set.depth n
  pub least : (m : Node) → IsTrue (has set m) → from ≤ slot set.depth m
      → slot set.depth n ≤ slot set.depth m

-- the members that an iterator hasn't given yet
abbrev pub members_left : Members → List Node
members_left it = filter (has it.set.now) (drop it.next (nodes it.set.now.depth))
