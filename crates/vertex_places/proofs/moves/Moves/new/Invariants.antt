-- The entries so far are the moves.
use Rattle.std.proofs.Common.{◌≡◌, ℕ, ◌<◌, Some, length}
use Rattle.std.specs.List.{slice_get}
use Rattle.vertex_places.specs.Directions.{direction_numbered}
use Rattle.vertex_places.specs.Moves.{move_at}
use Rattle.vertex_places.proofs.moves.Moves.new.Given as goal

abbrev pub invariant-loop-number : goal.invariant-loop-number
invariant-loop-number l = record {
  long : length l.entry-items ≡ 27;
  moves : (n : ℕ) → n < l.number → slice_get l.entry-items n
      ≡ Some (move_at l.leaf (direction_numbered n));
}
