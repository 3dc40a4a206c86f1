-- The notes that were left so far.
use Rattle.std.proofs.Common.{◌≤◌}
use Rattle.crossbeam_queue.specs.Passes.{IsPassOf, view}
use Rattle.editors.proofs.LeftLemmas.{IsLeftSoFar}
use Rattle.editors.proofs.closing.count_left.Given as goal

abbrev pub invariant-loop-taken : goal.invariant-loop-taken
invariant-loop-taken g l = record {
  pass_of : IsPassOf l.mail.queue l.pass;
  so_far : IsLeftSoFar (view l.fn.pass) (view l.pass) l.left;
  few : l.left ≤ l.taken;
}

abbrev pub invariant-loop : goal.invariant-loop
invariant-loop g l =
    (goal.iterator-loop g).can_next l.iterator' × (goal.iterator-loop g).is_finite l.iterator'
