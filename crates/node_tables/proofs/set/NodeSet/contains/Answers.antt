-- A node of the world is a member where its bit is set, and no other node is.
use Rattle.std.proofs.Common.{ap, sym, ◌∙◌}
use Rattle.node_tables.specs.NodeBits.{NodeBits, has, has_bit}
use Rattle.node_tables.proofs.SetLemmas.{has-node, has-off}
use Rattle.node_tables.proofs.set.NodeSet.contains.Goals as goal

pub returns-then-is_in_world : goal.returns-then-is_in_world
returns-then-is_in_world c =
    let set : NodeBits = record {
      depth = c.self.inside.depth;
      words = c.self.inside.bits;
    } in
    let node = c.is_in_world.ensures.fact.0 c.if-is_in_world.true in
    c.has.ensures ∙ ap (has_bit set.words) c.slot.ensures.before
    ∙ sym (has-node set c.args.node node)
    ∙ ap (λ s. has s c.args.node) c.self.view_is

pub returns-else-is_in_world : goal.returns-else-is_in_world
returns-else-is_in_world c =
    let set : NodeBits = record {
      depth = c.self.inside.depth;
      words = c.self.inside.bits;
    } in
    c.is_in_world.ensures.test
    ∙ (let off = sym c.is_in_world.ensures.test ∙ c.if-is_in_world.false in
    off ∙ sym (has-off set c.args.node off)) ∙ ap (λ s. has s c.args.node) c.self.view_is
