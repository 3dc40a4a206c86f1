-- The changed leaves of all levels are those of the leaves that changed, and so are the lost ones.
use Rattle.std.proofs.Common.{◌≡◌, ◌+◌, [], filter, sym, ap, ◌∙◌, subst, arith}
use Rattle.std.specs.Prelude.{not}
use Rattle.lattice.specs.Lists.{joined}
use Rattle.lattice.specs.Node.{level_nodes, nodes}
use Rattle.terrain.specs.Levels.{is_leaf}
use Rattle.octree.specs.Changes.{AddsChanges, is_lost, is_new_leaf, is_renewed}
use Rattle.octree.specs.Layers.{PairOf}
use Rattle.octree.specs.SplitBits.{split_at}
use Rattle.octree.proofs.LeafLemmas.{filter_both, filtered-more, filtered-none}
use Rattle.octree.proofs.changed.leaf_change.Goals as goal

pub loop-level-init : goal.loop-level-init
loop-level-init c = record {
  changed = c.new.ensures.items ∙ filtered-none _ _ [];
  lost = c.new-2.ensures.items ∙ filtered-none _ _ [];
}

pub loop-level-preserved : goal.loop-level-preserved
loop-level-preserved c =
    let before = c.args.before.now in
    let after = c.args.after.now in
    let adds : AddsChanges before after (level_nodes after.depth c.loop-level.level)
    c.loop-level.change c.push_changes.new.change =
    subst (λ (pair : PairOf). AddsChanges pair.before pair.after
    (level_nodes pair.after.depth pair.level) c.loop-level.change c.push_changes.new.change)
    c.of.ensures c.in_ok-push_changes.ensures in
    record {
      changed = filtered-more (is_new_leaf before after) (level_nodes after.depth) []
          c.loop-level.change.changed.items c.push_changes.new.change.changed.items
          c.loop-level.level c.loop-level.invariant.changed adds.changed;
      lost = filtered-more (is_lost before after) (level_nodes after.depth) []
          c.loop-level.change.lost.items c.push_changes.new.change.lost.items c.loop-level.level
          c.loop-level.invariant.lost adds.lost;
    }

pub returns-clause-changed : goal.returns-clause-changed
returns-clause-changed c =
    let before = c.args.before.now in
    let after = c.args.after.now in
    let all : c.loop-level.level ≡ after.depth + 1 =
    omega (arith, c.depth-level-end.ensures.value) in
    c.loop-level.invariant.changed
    ∙ ap (λ l. filter (is_new_leaf before after) (joined l (level_nodes after.depth))) all
    ∙ filter_both (is_leaf after.depth (split_at after))
    (is_renewed after.depth (split_at before) (split_at after)) (nodes after.depth)

pub returns-clause-lost : goal.returns-clause-lost
returns-clause-lost c =
    let before = c.args.before.now in
    let after = c.args.after.now in
    let all : c.loop-level.level ≡ after.depth + 1 =
    omega (arith, c.depth-level-end.ensures.value) in
    c.loop-level.invariant.lost
    ∙ ap (λ l. filter (is_lost before after) (joined l (level_nodes after.depth))) all
    ∙ ap (λ d. filter (is_lost before after) (nodes d)) (sym c.requires)
    ∙ filter_both (is_leaf before.depth (split_at before))
    (λ n. not (is_leaf after.depth (split_at after) n)) (nodes before.depth)
