-- Lists of leaves.
-- Source: this project's rule.
use Rattle.std.specs.Prelude.{ℕ, Bool, ◌&&◌, ◌||◌, ◌==◌, List, [], ◌∷◌, ◌↔◌, Contains, AllPairs}
use Rattle.lattice.specs.declared.node.Node.{Node}
use Rattle.lattice.specs.Lists.{joined}
use Rattle.lattice.specs.Node.{is_node, nodes_across, parent}
use Rattle.lattice.specs.Orders.{NodeIsBefore}
use Rattle.terrain.specs.Levels.{LevelMap, IsLeaf}

-- a list has each leaf of a level map and no other node, and each of its nodes is before all later ones
pub record ListsLeaves (depth : ℕ) (m : LevelMap) (ns : List Node) : Type 0 where
  pub each : (n : Node) → IsLeaf depth m n ↔ Contains ns n
  pub rising : AllPairs NodeIsBefore ns

-- so many nodes of a row, the nodes of a row, and those of a plane
abbrev pub first_of_row : ℕ → ℕ → ℕ → ℕ → List Node
first_of_row level k j count =
    joined count (λ i. record { level = level; k = k; j = j; i = i } ∷ [])

abbrev pub nodes_of_row : ℕ → ℕ → ℕ → ℕ → List Node
nodes_of_row depth level k j = first_of_row level k j (nodes_across depth level)

abbrev pub nodes_of_plane : ℕ → ℕ → ℕ → List Node
nodes_of_plane depth level k = joined (nodes_across depth level) (nodes_of_row depth level k)

-- whether a node is the root or has a split parent
abbrev pub is_held : ℕ → LevelMap → Node → Bool
is_held depth m n = is_node depth n && (n.level == depth || m (parent n))
