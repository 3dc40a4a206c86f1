-- Nodes: their place in the world, what holds them, what they hold, and their order.
-- Source: blocks of 16 x 16 x 16 cells in levels by Lengyel (2010); the names and numbers are this project's rule.
use Rattle.std.specs.Prelude.{ℕ, ◌+◌, ◌-◌, ◌*◌, ◌/◌, ◌^◌, ◌<◌, ◌≤◌, Bool, ◌&&◌, ◌||◌, List, [], ◌∷◌, filter, length, nat_lt, nat_le, ◌==◌}
use Rattle.std.specs.List.{list_any}
use Rattle.lattice.specs.declared.node.Node.{Node}
use Rattle.lattice.specs.declared.node.TheConstants.{CELLS}
use Rattle.lattice.specs.declared.point.Point.{Point}
use Rattle.lattice.specs.declared.region.Region.{Region}
use Rattle.lattice.specs.Lists.{joined}

-- the side of a node of a level, in fine cells: 16 times 2 to the level
abbrev pub node_side : ℕ → ℕ
node_side level = CELLS * 2 ^ level

-- how many nodes of a level there are in a row: 2 to the (depth - level)
abbrev pub nodes_across : ℕ → ℕ → ℕ
nodes_across depth level = 2 ^ (depth - level)

-- a node of the world: its level is at most the depth, and i, j and k are below the number of nodes in a row
pub record IsNode (depth : ℕ) (n : Node) : Type 0 where
  pub level : n.level ≤ depth
  pub k : n.k < nodes_across depth n.level
  pub j : n.j < nodes_across depth n.level
  pub i : n.i < nodes_across depth n.level

-- the same as a test
abbrev pub is_node : ℕ → Node → Bool
is_node depth n =
    nat_le n.level depth && nat_lt n.k (nodes_across depth n.level)
    && nat_lt n.j (nodes_across depth n.level) && nat_lt n.i (nodes_across depth n.level)

-- the node of the highest level, which is the whole world
abbrev pub root : ℕ → Node
root depth = record { level = depth; k = 0; j = 0; i = 0 }

-- a node's low corner, and its high one
abbrev pub low_corner : Node → Point
low_corner n = record {
  z = n.k * node_side n.level;
  y = n.j * node_side n.level;
  x = n.i * node_side n.level;
}

abbrev pub high_corner : Node → Point
high_corner n = record {
  z = (n.k + 1) * node_side n.level;
  y = (n.j + 1) * node_side n.level;
  x = (n.i + 1) * node_side n.level;
}

-- a node's closed cube, as a box of points
abbrev pub cube : Node → Region
cube n = record { lo = low_corner n; hi = high_corner n }

-- a node's closed cube holds another's
pub record Holds (outer inner : Node) : Type 0 where
  pub z_low : (low_corner outer).z ≤ (low_corner inner).z
  pub z_high : (high_corner inner).z ≤ (high_corner outer).z
  pub y_low : (low_corner outer).y ≤ (low_corner inner).y
  pub y_high : (high_corner inner).y ≤ (high_corner outer).y
  pub x_low : (low_corner outer).x ≤ (low_corner inner).x
  pub x_high : (high_corner inner).x ≤ (high_corner outer).x

-- the node of the next higher level in which a node lies: it has half of each index
abbrev pub parent : Node → Node
parent n = record { level = n.level + 1; k = n.k / 2; j = n.j / 2; i = n.i / 2 }

-- the eight nodes of the next lower level in a node, by z, then y, then x
abbrev pub children : Node → List Node
children n =
    let child : ℕ → ℕ → ℕ → Node = λ z y x.
    record { level = n.level - 1; k = 2 * n.k + z; j = 2 * n.j + y; i = 2 * n.i + x } in
    child 0 0 0 ∷ child 0 0 1 ∷ child 0 1 0 ∷ child 0 1 1
    ∷ child 1 0 0 ∷ child 1 0 1 ∷ child 1 1 0 ∷ child 1 1 1 ∷ []

-- ---- the order of nodes

-- the nodes of a level, by k, then j, then i
abbrev pub level_nodes : ℕ → ℕ → List Node
level_nodes depth level =
    let across = nodes_across depth level in
    joined across (λ k. joined across (λ j. joined across (λ i.
    record { level = level; k = k; j = j; i = i } ∷ [])))

-- all nodes of the world in their order, which is by level, k, j and i
abbrev pub nodes : ℕ → List Node
nodes depth = joined (depth + 1) (level_nodes depth)

-- whether a node is before another: by level, then k, then j, then i
abbrev pub is_before : Node → Node → Bool
is_before a b =
    nat_lt a.level b.level || (a.level == b.level && (nat_lt a.k b.k || (a.k == b.k
    && (nat_lt a.j b.j || (a.j == b.j && nat_lt a.i b.i)))))

-- ---- which nodes are the same

-- whether two nodes are the same
abbrev pub is_same_node : Node → Node → Bool
is_same_node a b = a.level == b.level && a.k == b.k && a.j == b.j && a.i == b.i

-- whether a node is among these
abbrev pub is_among : List Node → Node → Bool
is_among nodes n = list_any (λ m. is_same_node m n) nodes

-- ---- slots

-- a node's slot is the number of nodes of the world before it
unfoldable pub slot : ℕ → Node → ℕ
slot depth n = length (filter (λ m. is_before m n) (nodes depth))
