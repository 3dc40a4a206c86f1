-- The points of the viewpoints so far.
use Rattle.std.proofs.Common.{◌≡◌}
use Rattle.std.specs.Prelude.{option_to_list}
use Rattle.lattice.specs.Lists.{joined}
use Rattle.octree.specs.Viewpoints.{place_of}
use Rattle.octree.proofs.viewpoints.Viewpoints.points.Given as goal

abbrev pub invariant-loop-view : goal.invariant-loop-view
invariant-loop-view l =
    l.points.items ≡ joined l.view (λ view. option_to_list (place_of l.self view))
