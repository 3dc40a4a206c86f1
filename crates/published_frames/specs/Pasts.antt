-- What somebody has seen of a world, and the frames that come after it.
-- Source: this project's rule.
use Rattle.std.specs.Prelude.{◌≡◌, List, ◌++◌, All}
use Rattle.terrain.specs.declared.event.Event.{Event}
use Rattle.snapshots.specs.Frame.{FrameState}
use Rattle.published_frames.specs.declared.past.Past.{Past}

-- the settings and the journal of a frame
abbrev pub past_of : FrameState → Past
past_of frame = record { settings = frame.settings; events = frame.events }

-- a journal begins with another one: it has more events after those, or none
abbrev pub BeginsWith : List Event → List Event → Type 0
BeginsWith journal front = (rest : List Event) × (journal ≡ front ++ rest)

-- a frame goes on from what was seen: its settings are the same, and its journal begins with the one that was seen
pub record Continues (frame : FrameState) (past : Past) : Type 0 where
  pub settings : frame.settings ≡ past.settings
  pub journal : BeginsWith frame.events past.events

-- a frame goes on from all that was seen
abbrev pub GoesOnFromAll : FrameState → List Past → Type 0
GoesOnFromAll frame seen = All (Continues frame) seen

-- it is as much to have seen the one as the other: the same frames go on from all of it
pub record IsAsMuch (seen other : List Past) : Type 0 where
  pub no_less : (frame : FrameState) → GoesOnFromAll frame seen → GoesOnFromAll frame other
  pub no_more : (frame : FrameState) → GoesOnFromAll frame other → GoesOnFromAll frame seen
