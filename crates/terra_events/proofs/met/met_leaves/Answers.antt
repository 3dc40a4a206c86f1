-- Each level is one more of all nodes.
use Rattle.std.proofs.Common.{◌≡◌, ◌+◌, [], ap, ◌∙◌, arith, filter}
use Rattle.lattice.specs.Lists.{joined}
use Rattle.lattice.specs.Node.{level_nodes}
use Rattle.octree.specs.SplitBits.{split_at}
use Rattle.octree.proofs.LeafLemmas.{filtered-more}
use Rattle.terra_events.specs.Met.{is_met}
use Rattle.terra_events.proofs.MetLemmas.{filtered-begin, met_leaves-nodes}
use Rattle.terra_events.proofs.met.met_leaves.Goals as goal

pub loop-level-init : goal.loop-level-init
loop-level-init c =
    filtered-begin (is_met c.args.levels.now.depth (split_at c.args.levels.now) c.args.region)
    (level_nodes c.args.levels.now.depth) [] c.new-list.result.items 0 c.new-list.ensures.items
    (λ k below. absurd (omega arith))

pub loop-level-preserved : goal.loop-level-preserved
loop-level-preserved c =
    filtered-more (is_met c.args.levels.now.depth (split_at c.args.levels.now) c.args.region)
    (level_nodes c.args.levels.now.depth) [] c.loop-level.list.items c.push_level.new.list.items
    c.loop-level.level c.loop-level.invariant c.in_ok-push_level.ensures

pub returns : goal.returns
returns c =
    let depth = c.args.levels.now.depth in
    let m = split_at c.args.levels.now in
    let ended : c.loop-level.level ≡ depth + 1 = omega (arith, c.depth-level-end.ensures.value) in
    c.loop-level.invariant
    ∙ ap (λ n. filter (is_met depth m c.args.region) (joined n (level_nodes depth))) ended
    ∙ met_leaves-nodes depth m c.args.region
