-- The journal so far; the settings and the mark stay.
use Rattle.std.proofs.Common.{◌≡◌, ◌≤◌, length, take}
use Rattle.mesh_board.specs.Board.{marked_events}
use Rattle.terrain.specs.declared.event.TheConstants.{MAX_EVENTS}
use Rattle.schedules.specs.Playing.{GrowsBy}
use Rattle.schedules.proofs.playing.apply_all.Given as goal

abbrev pub invariant-loop-number : goal.invariant-loop-number
invariant-loop-number g l = record {
  settings : l.board.world.settings ≡ l.fn.board.world.settings;
  marked : l.board.marked ≡ l.fn.board.marked;
  marked_events_ : marked_events l.board ≡ marked_events l.fn.board;
  few : length l.board.world.events ≤ MAX_EVENTS;
  adds : GrowsBy l.fn.board.world.events (take l.number l.events) l.board.world.events;
}
