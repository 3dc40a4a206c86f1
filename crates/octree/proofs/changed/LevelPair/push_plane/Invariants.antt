-- The rows so far are gone through, and the bits of the row before and of the next one are known.
use Rattle.std.proofs.Common.{◌≡◌, ℕ, ◌↔◌, true}
use Rattle.lattice.specs.Lists.{joined}
use Rattle.octree.specs.Changes.{AddsChanges, IsSwitchedBeside}
use Rattle.octree.specs.LeafLists.{nodes_of_row}
use Rattle.octree.specs.SplitBits.{row_bit}
use Rattle.octree.proofs.ChangedLemmas.{IsSwitchedBefore}
use Rattle.octree.proofs.changed.LevelPair.push_plane.Given as goal

abbrev pub invariant-loop-j : goal.invariant-loop-j
invariant-loop-j l = record {
  low : (i : ℕ) → (row_bit l.low i ≡ true)
      ↔ IsSwitchedBefore l.self.before l.self.after l.self.level l.k l.j i;
  here : (i : ℕ) → (row_bit l.here i ≡ true)
      ↔ IsSwitchedBeside l.self.before l.self.after l.self.level l.k l.j i;
  adds : AddsChanges l.self.before l.self.after
      (joined l.j (nodes_of_row l.self.after.depth l.self.level l.k)) l.fn.change l.change;
}
