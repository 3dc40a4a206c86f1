-- The levels together have all nodes of the world.
use Rattle.std.proofs.Common.{◌≡◌, ◌+◌, [], filter, ap, ◌∙◌, arith}
use Rattle.lattice.specs.Lists.{joined}
use Rattle.lattice.specs.Node.{level_nodes}
use Rattle.octree.proofs.LeafLemmas.{filtered-none, filtered-more}
use Rattle.patch_wire.specs.Written.{has_block}
use Rattle.patch_wire.proofs.text.nodes_with_blocks.Goals as goal

pub loop-level-init : goal.loop-level-init
loop-level-init c = c.new-list.ensures.items ∙ filtered-none _ _ []

pub loop-level-preserved : goal.loop-level-preserved
loop-level-preserved c =
    filtered-more _ (level_nodes c.args.depth) [] c.loop-level.list.items
    c.push_level.new.list.items c.loop-level.level c.loop-level.invariant
    c.in_ok-push_level.ensures

pub returns : goal.returns
returns c =
    let all : c.loop-level.level ≡ c.args.depth + 1 = omega arith in
    c.loop-level.invariant
    ∙ ap (λ l. filter (has_block c.args.replica.now) (joined l (level_nodes c.args.depth))) all
