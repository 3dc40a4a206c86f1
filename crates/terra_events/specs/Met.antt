-- The leaves of a level map that meet a box, level by level, by planes and rows of nodes.
-- Source: this project's rule.
use Rattle.std.specs.Prelude.{ℕ, ◌+◌, ◌*◌, ◌<◌, ◌≤◌, ◌↔◌, Bool, ◌&&◌, List, [], ◌∷◌, filter}
use Rattle.lattice.specs.declared.node.Node.{Node}
use Rattle.lattice.specs.declared.region.Region.{Region}
use Rattle.lattice.specs.Lists.{joined}
use Rattle.lattice.specs.Node.{node_side, nodes_across}
use Rattle.terrain.specs.Blocks.{meets}
use Rattle.terrain.specs.Levels.{LevelMap, is_leaf, leaves}
use Rattle.octree.specs.declared.indices.Indices.{Indices}

-- the leaves whose closed cubes meet a box, in the order of nodes
abbrev pub met_leaves : ℕ → LevelMap → Region → List Node
met_leaves depth m box = filter (meets box) (leaves depth m)

-- whether a node is such a leaf
abbrev pub is_met : ℕ → LevelMap → Region → Node → Bool
is_met depth m box n = is_leaf depth m n && meets box n

-- on an axis, the closed cubes of a level's nodes with this index meet a range of coordinates
abbrev pub IsMet : ℕ → ℕ → ℕ → ℕ → Type 0
IsMet level low high index =
    (index * node_side level ≤ high) × (low ≤ (index + 1) * node_side level)

-- an index is one of those from a low one to just below an end
abbrev pub IsIndexOf : Indices → ℕ → Type 0
IsIndexOf indices index = (indices.low ≤ index) × (index < indices.end)

-- these are the indices of the nodes of a level that meet a range of coordinates
pub record AreMet (depth level low high : ℕ) (indices : Indices) : Type 0 where
  pub order : indices.low ≤ indices.end
  pub within : indices.end ≤ nodes_across depth level
  pub met : (index : ℕ) → index < nodes_across depth level
      → IsIndexOf indices index ↔ IsMet level low high index

-- the nodes of a row, and of a plane, of a level
abbrev pub row_nodes : ℕ → ℕ → ℕ → ℕ → List Node
row_nodes depth level k j =
    joined (nodes_across depth level) (λ i.
    record { level = level; k = k; j = j; i = i } ∷ [])

abbrev pub plane_nodes : ℕ → ℕ → ℕ → List Node
plane_nodes depth level k = joined (nodes_across depth level) (row_nodes depth level k)
