-- Sets of nodes of a world, by a bit for each node in the order of nodes.
-- Source: this project's rule.
use Rattle.std.specs.Prelude.{ℕ, ◌+◌, ◌-◌, ◌/◌, ◌%◌, ◌<◌, ◌≡◌, Bool, ◌&&◌, ◌==◌, IsTrue, List, length, slice_index}
use Rattle.std.specs.Int.{bit_at}
use Rattle.lattice.specs.declared.node.Node.{Node}
use Rattle.lattice.specs.Node.{is_node, nodes, slot}
use Rattle.lattice.specs.Settings.{IsDepth}
use Rattle.node_tables.specs.declared.words.TheConstants.{WORD}

-- the depth of a world, and a bit for each of its nodes in their order: `WORD` in a word, from its lowest digit up
pub record NodeBits : Type 0 where
  pub depth : ℕ
  pub words : List ℕ

-- whether the bit of a place is set
unfoldable pub has_bit : List ℕ → ℕ → Bool
has_bit words place = bit_at (slice_index words (place / WORD)) (place % WORD) == 1

-- whether a node is in a set; a node that isn't in the world isn't
unfoldable pub has : NodeBits → Node → Bool
has set n = is_node set.depth n && has_bit set.words (slot set.depth n)

-- there are as many words as the nodes need, and no bit past the last node's is set
pub record IsNodeSet (set : NodeBits) : Type 0 where
  pub depth : IsDepth set.depth
  pub long : length set.words ≡ (length (nodes set.depth) + WORD - 1) / WORD
  pub spare : (place : ℕ) → IsTrue (has_bit set.words place) → place < length (nodes set.depth)
