-- The viewpoints so far want the same nodes.
use Rattle.std.proofs.Common.{ℕ, ◌<◌}
use Rattle.std.specs.Prelude.{option_to_list}
use Rattle.octree.specs.Viewpoints.{place_of}
use Rattle.octree.specs.WantedNodes.{WantSame}
use Rattle.octree.proofs.wanted.want_same.Given as goal

abbrev pub invariant-loop-view : goal.invariant-loop-view
invariant-loop-view l = (view : ℕ) → view < l.view
    → WantSame l.settings (option_to_list (place_of l.before view))
    (option_to_list (place_of l.after view))
