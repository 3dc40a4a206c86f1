-- The rows so far are split.
use Rattle.std.proofs.Common.{◌≤◌, max}
use Rattle.octree.specs.Growing.{Gains}
use Rattle.octree.specs.WantedNodes.{IsInPlane}
use Rattle.octree.proofs.choosing.split_plane.Given as goal

abbrev pub invariant-loop-j : goal.invariant-loop-j
invariant-loop-j l = record {
  most : l.j ≤ max l.fn.js.low l.fn.js.end;
  gains : Gains (IsInPlane l.level l.k (record { low = l.fn.js.low; end = l.j }) l.fn.is)
      l.fn.levels l.levels;
}
