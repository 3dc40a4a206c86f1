-- The planes so far are split.
use Rattle.std.proofs.Common.{◌≤◌, max}
use Rattle.octree.specs.Growing.{Gains}
use Rattle.octree.proofs.GainsLemmas.{IsInBox}
use Rattle.octree.proofs.choosing.split_near.Given as goal

abbrev pub invariant-loop-k : goal.invariant-loop-k
invariant-loop-k l = record {
  most : l.k ≤ max l.initial.k l.k-end;
  gains : Gains (IsInBox l.level (record { low = l.initial.k; end = l.k }) l.js l.is)
      l.fn.levels l.levels;
}
