-- The changed and the lost leaves of the levels so far are listed.
use Rattle.std.proofs.Common.{◌≡◌, filter}
use Rattle.lattice.specs.Lists.{joined}
use Rattle.lattice.specs.Node.{level_nodes}
use Rattle.octree.specs.Changes.{is_lost, is_new_leaf}
use Rattle.octree.proofs.changed.leaf_change.Given as goal

abbrev pub invariant-loop-level : goal.invariant-loop-level
invariant-loop-level l = record {
  changed : l.change.changed.items
      ≡ filter (is_new_leaf l.before l.after) (joined l.level (level_nodes l.after.depth));
  lost : l.change.lost.items
      ≡ filter (is_lost l.before l.after) (joined l.level (level_nodes l.after.depth));
}
