-- How a wire is read to its end. This project's rule.
use Rattle.std.specs.Prelude.{◌≡◌, ◌≢◌, ℕ, ◌<◌, ◌≤◌, false, List, ◌++◌, length, Some, None, Result, Ok, Err}
use Rattle.std.specs.Io.KnownBytes.{IsAtEnd}
use Rattle.terra_io.specs.Stream.{Stream, Yields, IsFaultless, HasFailed}
use Rattle.replicas.specs.declared.fault.WireFault.{WireFault}
use Rattle.replicas.specs.declared.fault.WireFault.TheVariants as faults
use Rattle.replicas.specs.Fed.{IsFed}
use Rattle.replicas.specs.Following.{wire}
use Rattle.replicas.specs.Replicas.{Feeds, ReplicaState}
use Rattle.mirrors.specs.declared.reading.TheConstants.{WIRE_LIMIT}
use Rattle.mirrors.specs.declared.refusal.MirrorRefusal.{MirrorRefusal}
use Rattle.mirrors.specs.declared.refusal.MirrorRefusal.TheVariants.{NoMemory, ReadFault, WriteFault, InputLimit, BadWire, CutWire}
use Rattle.mirrors.specs.Refusals.{refusal_of}

-- the refusal of a piece with which a replica was fed, or none
abbrev pub piece_result : ℕ → Result ℕ WireFault → Result (Unit {0}) MirrorRefusal
piece_result taken (Ok patches) = Ok tt
piece_result taken (Err fault) = Err (refusal_of taken fault)

-- a replica was fed with a piece, and what it returned gives the refusal
abbrev pub FeedsPiece : ReplicaState → List ℕ → ReplicaState → Result (Unit {0}) MirrorRefusal
    → Type 0
FeedsPiece old piece new result =
    (fed : Result ℕ WireFault) × Feeds old piece new fed × (result ≡ piece_result new.taken fed)

-- a field of a wire that begins with these bytes is refused, whatever comes behind them
pub record IsRefusedAt (at : ℕ) (fault : WireFault) (bytes : List ℕ) : Type 0 where
  pub fault_is : (more : List ℕ) → (wire (bytes ++ more)).fault ≡ Some fault
  pub taken_is : (more : List ℕ) → (wire (bytes ++ more)).taken ≡ at
  pub rests : (more : List ℕ) → (wire (bytes ++ more)).at_rest ≡ false
  pub other : fault ≢ faults.NoMemory

-- these bytes were read: how that ended
abbrev pub ReadsBytes : Stream → Stream → List ℕ → Result ReplicaState MirrorRefusal → Type 0
ReadsBytes source source' read (Ok replica) =
    IsFaultless source source' × IsAtEnd source'.bytes × (length read < WIRE_LIMIT)
    × (replica.fault ≡ None) × IsFed read replica
ReadsBytes source source' read (Err NoMemory) = IsFaultless source source'
ReadsBytes source source' read (Err ReadFault) =
    HasFailed source source' × ((wire read).fault ≡ None)
ReadsBytes source source' read (Err WriteFault) = ⊥
ReadsBytes source source' read (Err InputLimit) =
    IsFaultless source source' × (length read ≡ WIRE_LIMIT) × ((wire read).fault ≡ None)
ReadsBytes source source' read (Err (BadWire at fault)) =
    IsFaultless source source' × IsRefusedAt at fault read
ReadsBytes source source' read (Err CutWire) = ⊥

-- a wire was read to its end, and a replica fed with it; or not
pub record ReadsWire (source source' : Stream) (result : Result ReplicaState MirrorRefusal)
    : Type 0 where
  pub read : List ℕ
  pub taken : Yields source source' read
  pub within : length read ≤ WIRE_LIMIT
  pub ends : ReadsBytes source source' read result
