-- What becomes of a journal on which events are played.
-- Source: this project's rule.
use Rattle.std.specs.Prelude.{◌≡◌, ℕ, ◌<◌, false, List, [], ◌∷◌, ◌++◌, Some, length, slice_get, take}
use Rattle.terrain.specs.declared.event.Event.{Event}
use Rattle.terrain.specs.declared.event.TheConstants.{MAX_EVENTS}
use Rattle.terrain.specs.History.{HasNothingToUndo, in_force, undoes_nothing}
use Rattle.schedules.specs.declared.fault.PlayFault.{PlayFault}
use Rattle.schedules.specs.declared.fault.PlayFault.TheVariants.{Full, NoMemory, NothingToUndo}

-- each undo among events that come behind a journal has an edit in force before it
abbrev pub EachUndoes : List Event → List Event → Type 0
EachUndoes journal [] = Unit {0}
EachUndoes journal (event ∷ events) =
    (undoes_nothing event (in_force journal) ≡ false) × EachUndoes (journal ++ event ∷ []) events

-- events were added to a journal, and each undo among them has an edit in force before it
pub record GrowsBy (old added new : List Event) : Type 0 where
  pub journal : new ≡ old ++ added
  pub undoes : EachUndoes old added

-- the journal at a fault. Where it was full before an event, or the event is an undo with no edit in force before it,
-- the events before that one were added; where memory ran out, some of the events were, from the first one on
abbrev pub StopsAt : List Event → List Event → PlayFault → List Event → Type 0
StopsAt old events (Full accepted) new =
    GrowsBy old (take accepted events) new × (length new ≡ MAX_EVENTS) × (accepted < length events)
StopsAt old events (NothingToUndo accepted) new =
    GrowsBy old (take accepted events) new × ((event : Event)
    × (slice_get events accepted ≡ Some event) × HasNothingToUndo new event)
StopsAt old events NoMemory new = (count : ℕ) × GrowsBy old (take count events) new
