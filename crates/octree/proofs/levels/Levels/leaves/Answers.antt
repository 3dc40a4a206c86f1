-- The leaves of all levels are those of the world.
use Rattle.std.proofs.Common.{◌≡◌, ◌+◌, [], filter, sym, ap, ◌∙◌, subst, arith}
use Rattle.lattice.specs.Lists.{joined}
use Rattle.lattice.specs.Node.{level_nodes}
use Rattle.terrain.specs.Levels.{is_leaf}
use Rattle.octree.specs.SplitBits.{SplitBits, split_at}
use Rattle.octree.specs.LeafLists.{ListsLeaves}
use Rattle.octree.proofs.LeafLemmas.{leaves_listed, filtered-none, filtered-more}
use Rattle.octree.proofs.levels.Levels.leaves.Goals as goal

pub loop-level-init : goal.loop-level-init
loop-level-init c = c.new-list.ensures.items ∙ filtered-none _ _ []

pub loop-level-preserved : goal.loop-level-preserved
loop-level-preserved c = filtered-more _ (level_nodes c.args.self.now.depth)
    [] c.loop-level.list.items c.push_leaves.new.list.items c.loop-level.level
    c.loop-level.invariant c.in_ok-push_leaves.ensures

pub returns-clause-value : goal.returns-clause-value
returns-clause-value c =
    let levels = c.args.self.now in
    let same : c.self.inside.depth ≡ levels.depth =
    ap (λ (l : SplitBits). l.depth) c.self.view_is in
    let all : c.loop-level.level ≡ levels.depth + 1 = omega (arith, same) in
    c.loop-level.invariant
    ∙ ap (λ l. filter (is_leaf levels.depth (split_at levels))
    (joined l (level_nodes levels.depth))) all

pub returns-clause-each : goal.returns-clause-each
returns-clause-each c =
    let levels = c.args.self.now in
    let listed = leaves_listed levels.depth (split_at levels)
    (c.nodes_in_order.ensures.each levels.depth) (c.nodes_in_order.ensures.rising levels.depth)
    in
    subst (ListsLeaves levels.depth (split_at levels)) (sym (returns-clause-value c)) listed
