-- What contracts see of publishers, viewers and entered frames.
-- Source: this project's rule.
use Rattle.std.specs.Prelude.{◌≡◌, ℕ, List, [], ◌∷◌}
use Rattle.fault_counts.specs.Counts.{next_count}
use Rattle.snapshots.specs.Frame.{FrameState}
use Rattle.published_frames.specs.declared.past.Past.{Past}
use Rattle.published_frames.specs.Pasts.{GoesOnFromAll, past_of}
use Rattle.published_frames.specs.Series.{Series}

-- a publisher: the series of its frames, the one that it shows, and how many viewers it has given
pub record PublisherState : Type 0 where
  pub series : Series
  pub frame : FrameState
  pub viewers : ℕ

-- a viewer: the series whose frames it enters, and what it has seen and learnt
pub record ViewerState : Type 0 where
  pub series : Series
  pub seen : List Past

-- an entered frame, and the series that it is of
pub record EnteredState : Type 0 where
  pub series : Series
  pub frame : FrameState

-- a publisher that has given one viewer more
abbrev pub with_viewer : PublisherState → PublisherState
with_viewer publisher = record publisher { viewers = next_count publisher.viewers }

-- a viewer of the publisher's own, which has seen the frame that is shown
abbrev pub viewer_of : PublisherState → ViewerState
viewer_of publisher =
    record { series = publisher.series; seen = past_of publisher.frame ∷ [] }

-- a viewer entered this: a frame of its own series, which goes on from all that it has seen and learnt
pub record IsEntry (viewer : ViewerState) (entered : EnteredState) : Type 0 where
  pub series : entered.series ≡ viewer.series
  pub later : GoesOnFromAll entered.frame viewer.seen

-- the viewer that leaves what it has entered
abbrev pub viewer_after : EnteredState → ViewerState
viewer_after entered = record { series = entered.series; seen = past_of entered.frame ∷ [] }
