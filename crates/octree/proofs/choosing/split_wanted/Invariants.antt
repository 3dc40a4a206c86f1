-- The nodes that the cameras so far want are split.
use Rattle.std.proofs.Common.{take}
use Rattle.octree.specs.Growing.{Gains}
use Rattle.octree.specs.WantedNodes.{IsWantedOf}
use Rattle.octree.proofs.choosing.split_wanted.Given as goal

abbrev pub invariant-loop-camera : goal.invariant-loop-camera
invariant-loop-camera l =
    Gains (IsWantedOf l.settings l.level (take l.camera-index l.cameras)) l.fn.levels l.levels
