-- Replicas: what they keep of the bytes that they were fed, and what comes of more bytes.
-- Source: this project's rule.
use Rattle.std.specs.Prelude.{◌≡◌, ◌≢◌, ℕ, ◌+◌, ◌-◌, ◌<◌, ◌≤◌, Bool, ◌&&◌, List, [], ◌++◌, length, take, if◌then◌else◌, MatchResult, Option, None, Some, Err, Result}
use Rattle.std.specs.Option.{is_none, is_some}
use Rattle.lattice.specs.declared.node.Node.{Node}
use Rattle.lattice.specs.declared.settings.Settings.{Settings}
use Rattle.terrain.specs.declared.event.Event.{Event}
use Rattle.node_tables.specs.NodeSlots.{item_at}
use Rattle.terrain.specs.MeshLists.{MeshLists}
use Rattle.replicas.specs.declared.fault.WireFault.{WireFault}
use Rattle.replicas.specs.declared.fault.WireFault.TheVariants.{NoMemory}
use Rattle.replicas.specs.declared.stage.Stage.{Stage}
use Rattle.replicas.specs.Following.{Outcome, behind_head, follow_all, has_none, proceed, stops, with_patches}
use Rattle.replicas.specs.Held.{HeldState, world_held}
use Rattle.replicas.specs.Reading.{ReplicaWorld, head_at}
use Rattle.replicas.specs.Stages.{DraftState, IsDraft, is_tag, new_draft, read_on, stage_size}

-- what a replica keeps: what it holds once its head is whole, the parts of the patch that isn't whole, the bytes of the
-- field that isn't, the fault if a field was refused, and how many bytes it took
pub record ReplicaState : Type 0 where
  pub held : Option HeldState
  pub draft : DraftState
  pub field : List ℕ
  pub fault : Option WireFault
  pub taken : ℕ

-- before the first byte
abbrev pub new_replica : ReplicaState
new_replica = record { held = None; draft = new_draft 0; field = []; fault = None; taken = 0 }

-- what a replica shows, if its head is whole
abbrev pub shown : Option HeldState → Option ReplicaWorld
shown None = None
shown (Some held) = Some (world_held held)

-- no part of a patch stands
abbrev pub rests : Stage → List ℕ → Bool
rests stage bytes = is_tag stage && has_none bytes

-- what comes of bytes behind those that a replica has taken, where no field was refused: the bytes of the field that
-- isn't whole come first
abbrev pub goes_on : Option HeldState → DraftState → ℕ → List ℕ → Outcome
goes_on None draft total bytes = behind_head total (head_at bytes)
goes_on (Some held) draft total bytes =
    proceed (follow_all total) total (world_held held) (rests draft.stage bytes)
    (read_on (world_held held) draft bytes)

-- what comes of more bytes; behind a field that was refused, nothing
abbrev pub comes_of : ReplicaState → List ℕ → Outcome
comes_of replica bytes = elim replica.fault [
  | Some fault ↦ stops replica.taken (shown replica.held) fault
  | None ↦
      goes_on replica.held replica.draft (replica.taken + length bytes) (replica.field ++ bytes)
]

-- what a replica has done with bytes, so many patches of which took effect: whatever comes behind them, the outcome is
-- the same
pub record HasFed (old : ReplicaState) (bytes : List ℕ) (patches : ℕ) (new : ReplicaState) : Type 0
  where
    pub taken : new.taken ≡ old.taken + length bytes
    pub outcome : (more : List ℕ)
        → comes_of old (bytes ++ more) ≡ with_patches patches (comes_of new more)

-- how many bytes the next field has
abbrev pub field_size : Option HeldState → Stage → ℕ
field_size None stage = 10
field_size (Some held) stage = stage_size stage

-- what holds of the draft behind a head
abbrev pub IsDraftOf : Option HeldState → DraftState → Type 0
IsDraftOf None draft = draft ≡ new_draft 0
IsDraftOf (Some held) draft = IsDraft (world_held held) draft

-- what a replica keeps that has refused no field: the parts that were read are of its world, no whole patch stands, and
-- the field that isn't whole lacks a byte
pub record IsReading (replica : ReplicaState) : Type 0 where
  pub draft : IsDraftOf replica.held replica.draft
  pub short : length replica.field < field_size replica.held replica.draft.stage

-- what it keeps at any time
abbrev pub IsReplica : ReplicaState → Type 0
IsReplica replica = replica.fault ≡ None → IsReading replica

-- ---- one field
-- a field has come whole and was read, whatever comes behind it: the outcome is what comes behind, and a patch more if
-- it took effect; or the field is refused, unless memory ran out, and what is shown stays
abbrev pub ReadsField : Option HeldState → DraftState → List ℕ → Option HeldState → DraftState
    → Result Bool WireFault → Type 0
ReadsField old_held old_draft field held draft result = MatchResult result
    (λ whole. IsDraftOf held draft × (0 < field_size held draft.stage)
    × ((total : ℕ) (more : List ℕ) → goes_on old_held old_draft total (field ++ more)
    ≡ with_patches (if whole then 1 else 0) (goes_on held draft total more)))
    (λ fault. (shown held ≡ shown old_held)
    × (fault ≢ NoMemory → (total : ℕ) (more : List ℕ)
    → goes_on old_held old_draft total (field ++ more)
    ≡ stops (total - length more) (shown held) fault))

-- ---- pieces
-- a replica stopped at a field of some bytes: what it shows is what it showed behind a first part of them, behind which
-- so many patches had taken effect; and unless memory ran out, that is what comes of the bytes
pub record HasStopped (old : ReplicaState) (bytes : List ℕ) (fault : WireFault)
    (new : ReplicaState) : Type 0 where
  pub patches : ℕ
  pub front : List ℕ
  pub rest : List ℕ
  pub parts : bytes ≡ front ++ rest
  pub before : ReplicaState
  pub fed : HasFed old front patches before
  pub same : shown new.held ≡ shown before.held
  pub within : new.taken ≤ old.taken + length bytes
  pub refused : fault ≢ NoMemory → (more : List ℕ) → comes_of old (bytes ++ more)
      ≡ with_patches patches (stops new.taken (shown new.held) fault)

-- some first bytes were taken, and with them a patch took effect or none; or a field was refused
abbrev pub TakesSome : ReplicaState → List ℕ → ReplicaState → Result (ℕ × Bool) WireFault → Type 0
TakesSome old bytes new result = MatchResult result
    (λ some. (0 < some.0) × (some.0 ≤ length bytes) × IsReading new
    × HasFed old (take some.0 bytes) (if some.1 then 1 else 0) new)
    (λ fault. HasStopped old bytes fault new)

-- all bytes were taken, and so many patches took effect; or a field was refused
abbrev pub TakesAll : ReplicaState → List ℕ → ReplicaState → Result ℕ WireFault → Type 0
TakesAll old bytes new result = MatchResult result
    (λ patches. IsReading new × HasFed old bytes patches new)
    (λ fault. HasStopped old bytes fault new)

-- ---- what a replica shows
-- the settings, the events and the block of each node, where the head is whole
abbrev pub settings_shown : ReplicaState → Option Settings
settings_shown replica = elim replica.held [ None ↦ None | Some held ↦ Some held.settings ]

abbrev pub events_shown : ReplicaState → List Event
events_shown replica = elim replica.held [ None ↦ [] | Some held ↦ held.events ]

abbrev pub block_shown : ReplicaState → Node → Option MeshLists
block_shown replica n = elim replica.held [ None ↦ None | Some held ↦ item_at held.blocks n ]

-- whether the head is whole, no part of a patch stands and no field was refused
abbrev pub is_at_rest : ReplicaState → Bool
is_at_rest replica = is_some replica.held && is_none replica.fault && is_tag replica.draft.stage

-- a replica was fed with a piece: it took all of it, or a field is refused, and the fault stays; where a field was
-- refused before, nothing changes
abbrev pub Feeds : ReplicaState → List ℕ → ReplicaState → Result ℕ WireFault → Type 0
Feeds old piece new result = elim old.fault [
  | None ↦
      TakesAll old piece new result
      × MatchResult result (λ _. new.fault ≡ None) (λ fault. new.fault ≡ Some fault)
  | Some fault ↦ (result ≡ Err fault) × (new ≡ old)
]
