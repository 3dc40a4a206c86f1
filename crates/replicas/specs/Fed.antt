-- Replicas that were fed with a wire, and what they show then.
-- Source: this project's rule.
use Rattle.std.specs.Prelude.{◌≡◌, ℕ, List, [], ◌∷◌, Option, None, Some, Result}
use Rattle.lattice.specs.declared.node.Node.{Node}
use Rattle.lattice.specs.declared.settings.Settings.{Settings}
use Rattle.terrain.specs.declared.event.Event.{Event}
use Rattle.terrain.specs.MeshLists.{MeshLists}
use Rattle.replicas.specs.declared.fault.WireFault.{WireFault}
use Rattle.replicas.specs.Following.{Outcome}
use Rattle.replicas.specs.Reading.{ReplicaWorld}
use Rattle.replicas.specs.Replicas.{Feeds, HasFed, HasStopped, IsReading, ReplicaState, block_shown, events_shown, is_at_rest, new_replica, settings_shown}

-- ---- pieces
-- pieces were fed to a replica, one after another
abbrev pub FedInTurn : List (List ℕ) → ReplicaState → ReplicaState → Type 0
FedInTurn [] old new = new ≡ old
FedInTurn (piece ∷ pieces) old new =
    (mid : ReplicaState) × (result : Result ℕ WireFault) × Feeds old piece mid result
    × FedInTurn pieces mid new

-- a new replica was fed with these bytes in some pieces: all of them were taken, or a field stopped it
abbrev pub FedUpTo : Option WireFault → List ℕ → ReplicaState → Type 0
FedUpTo None bytes replica =
    (patches : ℕ) × IsReading replica × HasFed new_replica bytes patches replica
FedUpTo (Some fault) bytes replica = HasStopped new_replica bytes fault replica

abbrev pub IsFed : List ℕ → ReplicaState → Type 0
IsFed bytes replica = FedUpTo replica.fault bytes replica

-- ---- what is shown
-- the settings, the events and the blocks of a world, if there is one
abbrev pub settings_left : Option ReplicaWorld → Option Settings
settings_left None = None
settings_left (Some world) = Some world.settings

abbrev pub events_left : Option ReplicaWorld → List Event
events_left None = []
events_left (Some world) = world.events

abbrev pub block_in : Option ReplicaWorld → Node → Option MeshLists
block_in None n = None
block_in (Some world) n = world.block n

-- a replica shows an outcome
pub record Shows (replica : ReplicaState) (outcome : Outcome) : Type 0 where
  pub settings : settings_shown replica ≡ settings_left outcome.world
  pub events : events_shown replica ≡ events_left outcome.world
  pub block : (n : Node) → block_shown replica n ≡ block_in outcome.world n
  pub at_rest : is_at_rest replica ≡ outcome.at_rest
  pub fault : replica.fault ≡ outcome.fault
  pub taken : replica.taken ≡ outcome.taken
