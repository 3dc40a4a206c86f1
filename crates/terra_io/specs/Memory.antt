-- Sources and sinks in memory: pieces, room, and calls that fail by their number. This project's
-- rule.
use Rattle.std.specs.Prelude.{ℕ, ◌+◌, ◌<◌, ◌≤◌, min, ◌⊎◌, List, ◌++◌, length, drop, Some}
use Rattle.fault_counts.specs.Calls.{Calls, IsToFail}
use Rattle.terra_io.specs.Stream.{Stream}

-- bytes that are given in pieces: those that are left, and how many a call gives at most
pub record Pieces : Type 0 where
  pub left : List ℕ
  pub piece : ℕ

-- how many bytes the next call gives into a buffer with this room
abbrev pub given_count : Pieces → ℕ → ℕ
given_count pieces room = min (min room pieces.piece) (length pieces.left)

-- the pieces once this many bytes are given
abbrev pub after_giving : Pieces → ℕ → Pieces
after_giving pieces count = record pieces { left = drop count pieces.left }

-- bytes in a room of their own, and how many a call takes at most
pub record Room : Type 0 where
  pub bytes : List ℕ
  pub room : ℕ
  pub piece : ℕ

-- what is held fits the room, and the room what is reserved; a piece has a byte at least
pub record FitsReserved (held room reserved piece : ℕ) : Type 0 where
  pub fits : held ≤ room
  pub is_reserved : room ≤ reserved
  pub some_byte : 1 ≤ piece

-- how many bytes the next call takes of this many
abbrev pub taken_count : Room → ℕ → ℕ
taken_count held count = min count held.piece

-- this many bytes, cut to a piece, are more than there is room for
abbrev pub IsOverfull : Room → ℕ → Type 0
IsOverfull held count = held.room < length held.bytes + taken_count held count

-- the bytes that are held once these are written
abbrev pub after_taking : Room → List ℕ → Room
after_taking held bytes = record held { bytes = held.bytes ++ bytes }

-- a source in memory: what it gives, and its calls
pub record SourceState : Type 0 where
  pub pieces : Pieces
  pub calls : Calls

-- the source as its callers see it
abbrev pub source_stream : SourceState → Stream
source_stream source = record { bytes = Some source.pieces.left; faults = source.calls.faults }

-- the same of a source that never fails
abbrev pub plain_stream : Pieces → Stream
plain_stream pieces = record { bytes = Some pieces.left; faults = 0 }

-- a sink in memory: what it holds, and its calls
pub record SinkState : Type 0 where
  pub held : Room
  pub calls : Calls

-- the sink as its callers see it
abbrev pub sink_stream : SinkState → Stream
sink_stream sink = record { bytes = Some sink.held.bytes; faults = sink.calls.faults }

-- a sink refuses a write of this many bytes: the call is to fail, or the bytes don't fit
abbrev pub IsRefused : SinkState → ℕ → Type 0
IsRefused sink count = IsToFail sink.calls ⊎ IsOverfull sink.held count
