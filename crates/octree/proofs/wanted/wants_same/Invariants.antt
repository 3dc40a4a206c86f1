-- The nodes of the levels so far are wanted for both cameras or for none.
use Rattle.std.proofs.Common.{◌≡◌, ◌<◌}
use Rattle.std.specs.Prelude.{option_to_list}
use Rattle.lattice.specs.declared.node.Node.{Node}
use Rattle.lattice.specs.Node.{IsNode}
use Rattle.terrain.specs.Levels.{is_wanted}
use Rattle.octree.proofs.wanted.wants_same.Given as goal

abbrev pub invariant-loop-level : goal.invariant-loop-level
invariant-loop-level l = (n : Node) → IsNode l.settings.depth n → n.level < l.level
    → is_wanted l.settings (option_to_list l.a) n ≡ is_wanted l.settings (option_to_list l.b) n
