-- The planes so far are gone through, and it is known of the last one and of the next whether the maps split the same
-- nodes of it.
use Rattle.std.proofs.Common.{◌≡◌, ℕ, ◌-◌, ◌≤◌, false}
use Rattle.std.specs.Prelude.{IsTrue}
use Rattle.lattice.specs.Lists.{joined}
use Rattle.octree.specs.Changes.{AddsChanges, is_switched}
use Rattle.octree.specs.LeafLists.{nodes_of_plane}
use Rattle.octree.proofs.changed.LevelPair.push_changes.Given as goal

abbrev pub invariant-loop-k : goal.invariant-loop-k
invariant-loop-k l = record {
  low : IsTrue l.low → 1 ≤ l.k → (j i : ℕ) → is_switched l.self.before l.self.after
      (record { level = l.self.level; k = l.k - 1; j = j; i = i }) ≡ false;
  here : IsTrue l.here → (j i : ℕ) → is_switched l.self.before l.self.after
      (record { level = l.self.level; k = l.k; j = j; i = i }) ≡ false;
  adds : AddsChanges l.self.before l.self.after
      (joined l.k (nodes_of_plane l.self.after.depth l.self.level)) l.fn.change l.change;
}
