-- What was read so far was fed to the replica.
use Rattle.std.proofs.Common.{◌-◌, ◌≡◌, vec_len}
use Rattle.mirrors.specs.declared.reading.TheConstants.{PIECE, WIRE_LIMIT}
use Rattle.mirrors.proofs.ReadingLemmas.{HasRead}
use Rattle.mirrors.proofs.reading.read_wire.Given as goal

abbrev pub invariant-loop-count : goal.invariant-loop-count
invariant-loop-count g l = record {
  so_far : HasRead (g.S.Source.state l.fn.source) (g.S.Source.state l.source) l.replica l.count;
  room : vec_len l.piece ≡ PIECE;
}

abbrev pub decreases-loop-count : goal.decreases-loop-count
decreases-loop-count g l = WIRE_LIMIT - l.count
