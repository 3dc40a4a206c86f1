-- What a viewer has seen, and what it has learnt since, as far as that is kept.
-- Source: this project's rule.
use Rattle.std.specs.Prelude.{◌≡◌, List, [], ◌∷◌, drop, take, ⊤}
use Rattle.left_right.specs.Sides.{view as known}
use Rattle.published_frames.specs.declared.known.Known.{Known}
use Rattle.published_frames.specs.declared.learnt.Learnt.{Learnt}
use Rattle.published_frames.specs.declared.learnt.Learnt.TheVariants.{Nothing, Newest, Apart}
use Rattle.published_frames.specs.declared.outside.Outside.{Outside}
use Rattle.published_frames.specs.declared.outside.Outside.TheVariants.{Left, Refused}
use Rattle.published_frames.specs.declared.past.Past.{Past}
use Rattle.published_frames.specs.Pasts.{Continues, GoesOnFromAll, past_of}
use Rattle.published_frames.specs.Series.{Series}
use Rattle.snapshots.specs.Frame.{FrameState, IsSound}

-- what a viewer has seen: the frame that its reader entered last, or the one before, where it was refused that
abbrev pub seen_of : Outside → List Past
seen_of (Left reader) = take 1 (known reader.place).seen
seen_of (Refused reader) = drop 1 (known reader.place).seen

-- the series whose frames a viewer enters
abbrev pub series_of : Outside → Series
series_of (Left reader) = (known reader.place).series
series_of (Refused reader) = (known reader.place).series

-- who has seen this of a series is let in to a frame: it is sound, goes on from what was seen, and is known besides
-- from then on
pub record IsLetIn (series : Series) (seen : List Past) (frame : FrameState) (after : Known)
    : Type 0 where
  pub sound : IsSound frame
  pub later : GoesOnFromAll frame seen
  pub known : after ≡ record { series = series; seen = past_of frame ∷ seen }

-- the pasts of the learnt frames that are kept
abbrev pub pasts_of : Learnt → List Past
pasts_of Nothing = []
pasts_of (Newest frame) = past_of frame ∷ []
pasts_of (Apart one other) = past_of one ∷ past_of other ∷ []

-- two are kept only where neither goes on from the other
abbrev pub AreUnrelated : Learnt → Type 0
AreUnrelated Nothing = ⊤
AreUnrelated (Newest frame) = ⊤
AreUnrelated (Apart one other) =
    (Continues one (past_of other) → ⊥) × (Continues other (past_of one) → ⊥)
