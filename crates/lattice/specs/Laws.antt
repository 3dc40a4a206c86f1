-- The laws of nodes, slots and sizes as statements with names, for the law's own clause and for the proofs that rest on
-- it.
-- Source: this project's rule.
use Rattle.std.specs.Prelude.{◌≡◌, ℕ, ◌+◌, ◌*◌, ◌<◌, ◌↔◌, IsTrue, Contains, AllPairs, Some, length, slice_get}
use Rattle.lattice.specs.declared.node.Node.{Node}
use Rattle.lattice.specs.declared.point.Point.{Point}
use Rattle.lattice.specs.declared.region.Region.{Region}
use Rattle.lattice.specs.declared.settings.TheConstants.{MAX_DEPTH}
use Rattle.lattice.specs.Lists.{joined}
use Rattle.lattice.specs.Node.{IsNode, high_corner, is_node, level_nodes, nodes, nodes_across, slot}
use Rattle.lattice.specs.Orders.{NodeIsBefore}
use Rattle.lattice.specs.Point.{IsInWorld}
use Rattle.lattice.specs.Region.{IsWithin, is_within}
use Rattle.lattice.specs.Settings.{IsDepth}

-- ---- nodes and points of a world

-- a node of a world is one of the deepest world
abbrev pub NodesAreOfTheDeepest : Type 0
NodesAreOfTheDeepest = (depth : ℕ) (n : Node) → IsDepth depth → IsNode depth n → IsNode MAX_DEPTH n

-- a point of a world is one of the deepest world
abbrev pub PointsAreOfTheDeepest : Type 0
PointsAreOfTheDeepest = (depth : ℕ) (p : Point) → IsDepth depth → IsInWorld depth p
    → IsInWorld MAX_DEPTH p

-- a node's high corner is a point of its world
abbrev pub CornersAreInWorld : Type 0
CornersAreInWorld = (depth : ℕ) (n : Node) → IsNode depth n → IsInWorld depth (high_corner n)

-- the test of a node of the world passes exactly for the nodes of the world
abbrev pub NodesAreTested : Type 0
NodesAreTested = (depth : ℕ) (n : Node) → IsTrue (is_node depth n) ↔ IsNode depth n

-- the test of a point in a box passes exactly for the points in it
abbrev pub PointsAreTested : Type 0
PointsAreTested = (box : Region) (p : Point) → IsTrue (is_within box p) ↔ IsWithin box p

-- ---- the list of nodes, and slots

-- the list of nodes has each node of the world and no other
abbrev pub NodesAreListed : Type 0
NodesAreListed = (depth : ℕ) (n : Node) → IsNode depth n ↔ Contains (nodes depth) n

-- each node of the list is before all later ones
abbrev pub NodesRise : Type 0
NodesRise = (depth : ℕ) → AllPairs NodeIsBefore (nodes depth)

-- a node of the world stands in the list at its slot
abbrev pub NodesHaveSlots : Type 0
NodesHaveSlots = (depth : ℕ) (n : Node) → IsNode depth n
    → slice_get (nodes depth) (slot depth n) ≡ Some n

-- each number below that of the nodes is a node's slot
abbrev pub SlotsHaveNodes : Type 0
SlotsHaveNodes = (depth place : ℕ) → place < length (nodes depth)
    → (n : Node) × IsNode depth n × (slot depth n ≡ place)

-- nodes of the world with one slot are the same
abbrev pub SlotsAreApart : Type 0
SlotsAreApart = (depth : ℕ) (a b : Node) → IsNode depth a → IsNode depth b
    → slot depth a ≡ slot depth b → a ≡ b

-- a slot is the number of the nodes of the lower levels, and of those of the node's own level that are in the planes,
-- the rows and the places before it
abbrev pub SlotsAreNumbers : Type 0
SlotsAreNumbers = (depth : ℕ) (n : Node) → IsNode depth n → slot depth n
    ≡ length (joined n.level (level_nodes depth))
    + ((n.k * nodes_across depth n.level + n.j) * nodes_across depth n.level + n.i)
