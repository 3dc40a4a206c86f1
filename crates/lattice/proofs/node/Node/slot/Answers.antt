-- The nodes of lower levels are counted by `nodes_below`, and in its level a node stands by its plane, its row and its
-- place there: that is its slot, by `slot_is` of `SlotLemmas`. No sum overflows, since a world has few nodes.
use Rattle.std.proofs.Common.{◌<◌, ◌≡◌, ℕ, ◌+◌, ◌*◌, ◌^◌, ap, arith, length, subst, sym, ◌∙◌}
use Rattle.std.specs.Prelude.{slice_get}
use Rattle.lattice.specs.declared.node.Node.{Node}
use Rattle.lattice.specs.declared.settings.TheConstants.{MAX_DEPTH}
use Rattle.lattice.specs.Lists.{joined}
use Rattle.lattice.specs.Node.{IsNode, level_nodes, nodes, nodes_across, slot}
use Rattle.lattice.specs.Settings.{IsDepth}
use Rattle.lattice.proofs.CountLemmas.{level_most, levels_most}
use Rattle.lattice.proofs.NodeLemmas.{place_below}
use Rattle.lattice.proofs.SlotLemmas.{node_at_slot, same_slot, slot_in, slot_is}
use Rattle.lattice.proofs.node.Node.slot.Goals as goal

-- the place in the level's cube is below the number of its nodes
in_cube : (depth a : ℕ) (n : Node) → IsDepth depth → a ≡ nodes_across depth n.level
    → IsNode depth n → (n.k * a + n.j) * a + n.i < (2 ^ MAX_DEPTH) ^ 3
in_cube depth a n allowed across_is h =
    let P : ℕ → Type 0 = λ m. (n.k * m + n.j) * m + n.i < (2 ^ MAX_DEPTH) ^ 3 in
    subst P (sym across_is) (omega (
      arith,
      place_below (nodes_across depth n.level) n.k n.j n.i h.k h.j h.i,
      level_most depth n.level allowed,
    ))

pub overflow_add-result-2 : goal.overflow_add-result-2
overflow_add-result-2 c =
    omega (
      arith,
      c.nodes_below.ensures,
      levels_most c.args.depth c.args.self.now.level c.requires.depth,
      in_cube c.args.depth c.nodes_across-across.result c.args.self.now c.requires.depth
          c.nodes_across-across.ensures c.requires.node,
    )

pub overflow_add-result-3 : goal.overflow_add-result-3
overflow_add-result-3 c =
    omega (
      arith,
      c.nodes_below.ensures,
      levels_most c.args.depth c.args.self.now.level c.requires.depth,
      in_cube c.args.depth c.nodes_across-across.result c.args.self.now c.requires.depth
          c.nodes_across-across.ensures c.requires.node,
    )

-- the code's sum is the node's slot
is_slot : (depth a before : ℕ) (n : Node) → a ≡ nodes_across depth n.level
    → before ≡ length (joined n.level (level_nodes depth)) → IsNode depth n
    → before + (n.k * a + n.j) * a + n.i ≡ slot depth n
is_slot depth a before n across_is before_is h =
    ap (λ m. before + (n.k * m + n.j) * m + n.i) across_is
    ∙ omega (arith, before_is, slot_is depth n h)

pub returns-clause-before : goal.returns-clause-before
returns-clause-before c =
    is_slot c.args.depth c.nodes_across-across.result c.nodes_below.result
    c.args.self.now c.nodes_across-across.ensures c.nodes_below.ensures
    c.requires.node

pub returns-clause-place : goal.returns-clause-place
returns-clause-place c =
    ap (slice_get (nodes c.args.depth)) (returns-clause-before c)
    ∙ node_at_slot c.args.depth c.args.self.now c.requires.node

pub returns-clause-below : goal.returns-clause-below
returns-clause-below c =
    subst (λ s. s < length (nodes c.args.depth)) (sym (returns-clause-before c))
    (slot_in c.args.depth c.args.self.now c.requires.node)

pub returns-clause-apart : goal.returns-clause-apart
returns-clause-apart c = λ n node same.
    same_slot c.args.depth n c.args.self.now node c.requires.node (same ∙ returns-clause-before c)
