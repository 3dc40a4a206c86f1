-- Member by member, the block of a fresh leaf is there.
use Rattle.std.proofs.Common.{[], ◌∷◌, ◌++◌, map, sym, ap, ◌∙◌, append_assoc}
use Rattle.std.specs.Arc.{arc_value}
use Rattle.lattice.specs.Node.{nodes}
use Rattle.node_tables.specs.Members.{members_left}
use Rattle.node_tables.specs.NodeBits.{has}
use Rattle.mesh_board.specs.LeafStates.{fresh, state_at}
use Rattle.mesh_board.proofs.ListLemmas.{map-more, passes}
use Rattle.mesh_board.proofs.patching.blocks_of.Goals as goal

pub block-requires : goal.block-requires
block-requires c =
    c.requires c.in-Some.leaf (passes (has c.args.nodes.now) (nodes c.args.nodes.now.depth)
    c.loop-leaf.yielded (members_left c.next.new.self) c.in-Some.leaf
    (c.loop-leaf.invariant.rest ∙ ap (λ ns. c.loop-leaf.yielded ++ ns) c.in-Some.ensures.steps))

pub loop-leaf-preserved : goal.loop-leaf-preserved
loop-leaf-preserved c = record {
  made = ap (map (λ done. fresh (arc_value done))) c.in_ok-push.ensures.items
      ∙ map-more (λ done. fresh (arc_value done)) (state_at c.args.leaves.now)
      c.loop-leaf.blocks.items c.loop-leaf.yielded c.in_ok-try_clone.field-0 c.in-Some.leaf
      c.loop-leaf.invariant.made (ap fresh c.in_ok-try_clone.ensures ∙ sym c.block.ensures);
  rest = c.loop-leaf.invariant.rest
      ∙ ap (λ ns. c.loop-leaf.yielded ++ ns) c.in-Some.ensures.steps
      ∙ sym (append_assoc c.loop-leaf.yielded (c.in-Some.leaf ∷ []) (members_left c.next.new.self));
}
