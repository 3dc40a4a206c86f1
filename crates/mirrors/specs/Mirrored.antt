-- How a wire is mirrored: the table of how that ends, over what comes of the bytes that were read.
-- This project's rule.
use Rattle.std.specs.Prelude.{◌≡◌, ◌≢◌, ℕ, ◌<◌, ◌≤◌, ◌⊎◌, Bool, true, false, List, [], ◌++◌, length, take, if◌then◌else◌, Option, Some, None, Result, Ok, Err}
use Rattle.std.specs.Io.KnownBytes.{IsAtEnd}
use Rattle.terra_io.specs.Stream.{Stream, Yields, Appends, AppendsPrefix, IsFaultless, HasFailed}
use Rattle.replicas.specs.declared.fault.WireFault.TheVariants as faults
use Rattle.replicas.specs.Following.{Outcome, wire}
use Rattle.replicas.specs.Reading.{ReplicaWorld}
use Rattle.patch_wire.specs.Written.{world_text}
use Rattle.mirrors.specs.declared.reading.TheConstants.{WIRE_LIMIT}
use Rattle.mirrors.specs.declared.refusal.MirrorRefusal.{MirrorRefusal}
use Rattle.mirrors.specs.declared.refusal.MirrorRefusal.TheVariants.{NoMemory, ReadFault, WriteFault, InputLimit, BadWire, CutWire}

-- a mirror: its source and its sink before and after it, how many bytes it read, whether it saw their end, what comes
-- of them, and the bytes that it appended
pub record Mirror : Type 0 where
  pub source : Stream
  pub source' : Stream
  pub sink : Stream
  pub sink' : Stream
  pub count : ℕ
  pub ended : Bool
  pub outcome : Outcome
  pub appended : List ℕ

-- the text of a world, if there is one
abbrev pub text_left : Option ReplicaWorld → List ℕ
text_left None = []
text_left (Some world) = world_text world

-- the text of what comes of a wire: where its end was seen and a replica is at rest there, that of its world
abbrev pub mirror_text : Bool → Outcome → List ℕ
mirror_text false outcome = []
mirror_text true outcome = if outcome.at_rest then text_left outcome.world else []

-- no call failed
pub record IsUndisturbed (mirror : Mirror) : Type 0 where
  pub source : IsFaultless mirror.source mirror.source'
  pub sink : IsFaultless mirror.sink mirror.sink'

-- a first part of the text was appended
pub record AppendsPart (mirror : Mirror) : Type 0 where
  pub rest : List ℕ
  pub parts : mirror_text mirror.ended mirror.outcome ≡ mirror.appended ++ rest

-- no field was refused, and a replica is at rest or isn't
pub record IsUnrefused (outcome : Outcome) (at_rest : Bool) : Type 0 where
  pub fault : outcome.fault ≡ None
  pub at_rest_is : outcome.at_rest ≡ at_rest

-- when each end of a mirror comes, and what was appended
abbrev pub EndsMirror : Mirror → Result (Unit {0}) MirrorRefusal → Type 0
EndsMirror mirror (Ok done) =
    IsUndisturbed mirror × (mirror.ended ≡ true) × IsUnrefused mirror.outcome true
    × (mirror.appended ≡ mirror_text mirror.ended mirror.outcome)
EndsMirror mirror (Err NoMemory) = IsUndisturbed mirror × AppendsPart mirror
EndsMirror mirror (Err ReadFault) =
    HasFailed mirror.source mirror.source' × IsFaultless mirror.sink mirror.sink'
    × (mirror.ended ≡ false) × (mirror.outcome.fault ≡ None) × (mirror.appended ≡ [])
EndsMirror mirror (Err WriteFault) =
    IsFaultless mirror.source mirror.source' × HasFailed mirror.sink mirror.sink'
    × (mirror.ended ≡ true) × IsUnrefused mirror.outcome true × AppendsPart mirror
EndsMirror mirror (Err InputLimit) =
    IsUndisturbed mirror × (mirror.ended ≡ false) × (mirror.count ≡ WIRE_LIMIT)
    × (mirror.outcome.fault ≡ None) × (mirror.appended ≡ [])
EndsMirror mirror (Err (BadWire at fault)) =
    IsUndisturbed mirror × (fault ≢ faults.NoMemory) × (mirror.outcome.fault ≡ Some fault)
    × (mirror.outcome.taken ≡ at) × (mirror.appended ≡ [])
EndsMirror mirror (Err CutWire) =
    IsUndisturbed mirror × (mirror.ended ≡ true) × IsUnrefused mirror.outcome false
    × (mirror.appended ≡ [])

-- these bytes were taken and those appended, and the end is the one for it
pub record Mirrored (source source' sink sink' : Stream)
    (result : Result (Unit {0}) MirrorRefusal) : Type 0 where
  pub read : List ℕ
  pub ended : Bool
  pub appended : List ℕ
  pub taken : Yields source source' read
  pub written : Appends sink sink' appended
  pub within : length read ≤ WIRE_LIMIT
  pub end : ended ≡ true → IsAtEnd source'.bytes × (length read < WIRE_LIMIT)
  pub table : EndsMirror (record {
    source = source;
    source' = source';
    sink = sink;
    sink' = sink';
    count = length read;
    ended = ended;
    outcome = wire read;
    appended = appended;
  }) result

-- ---- the other way round, where the source tells its bytes: the end unless memory runs out or a call fails

-- of a wire that was read to its end
abbrev pub end_of : Outcome → Result (Unit {0}) MirrorRefusal
end_of outcome = elim outcome.fault [
  | None ↦ if outcome.at_rest then Ok tt else Err CutWire
  | Some fault ↦ Err (BadWire outcome.taken fault)
]

-- of one of which all bytes were read that may be
abbrev pub end_at_limit : Outcome → Result (Unit {0}) MirrorRefusal
end_at_limit outcome = elim outcome.fault [
  | None ↦ Err InputLimit
  | Some fault ↦ Err (BadWire outcome.taken fault)
]

-- the end is this one, and the text was appended; or memory ran out, and a first part of it was
abbrev pub IsMirrorEnd : Result (Unit {0}) MirrorRefusal → List ℕ → Stream → Stream
    → Result (Unit {0}) MirrorRefusal → Type 0
IsMirrorEnd this text sink sink' result =
    ((result ≡ this) × Appends sink sink' text)
    ⊎ ((result ≡ Err NoMemory) × AppendsPrefix sink sink' text)

-- of an input below the limit, by what comes of it
abbrev pub IsMirrored : Stream → Stream → Stream → Stream → Result (Unit {0}) MirrorRefusal
    → Type 0
IsMirrored source source' sink sink' result =
    (input : List ℕ) → source.bytes ≡ Some input → length input < WIRE_LIMIT
    → (HasFailed source source' → ⊥) → (HasFailed sink sink' → ⊥)
    → IsMirrorEnd (end_of (wire input)) (mirror_text true (wire input)) sink sink' result

-- of a longer one, by what comes of its first bytes
abbrev pub IsMirroredAtLimit : Stream → Stream → Stream → Stream
    → Result (Unit {0}) MirrorRefusal → Type 0
IsMirroredAtLimit source source' sink sink' result =
    (input : List ℕ) → source.bytes ≡ Some input → WIRE_LIMIT ≤ length input
    → (HasFailed source source' → ⊥) → (HasFailed sink sink' → ⊥)
    → IsMirrorEnd (end_at_limit (wire (take WIRE_LIMIT input))) [] sink sink' result
