-- The rule of publication, over the published frame and what the publisher and each viewer knows.
-- Source: this project's rule.
use Rattle.std.specs.Prelude.{◌≡◌, ℕ, List, [], ◌∷◌, ◌++◌, None, Some}
use mathlib.Core.Option.{some}
use lib.ListN.{get_elem?}
use Rattle.snapshots.specs.Frame.{IsSound}
use Rattle.published_frames.specs.declared.known.Known.{Known}
use Rattle.published_frames.specs.declared.past.Past.{Past}
use Rattle.published_frames.specs.declared.shown.Shown.{Shown}
use Rattle.published_frames.specs.Pasts.{GoesOnFromAll, past_of}

-- the published frame is sound, and goes on from all that anybody has seen
pub record IsKept (shown : Shown) (views : List Known) : Type 0 where
  pub sound : IsSound shown.frame.value
  pub later : (seat : ℕ) (known : Known) → get_elem? views seat ≡ some known
      → GoesOnFromAll shown.frame.value known.seen

-- nothing is known yet
abbrev pub nothing_known : Known
nothing_known = record { series = None; seen = [] }

-- what a publisher sees by a publication, and a viewer by an entry: the frame that is then published is sound, and goes
-- on from all that was seen before; what is known then follows from what was known before and from what is published
pub record SeesPublished (next : Known → Shown → Known) (before : Known) (old new : Shown)
    (after : Known) : Type 0 where
  pub sound : IsSound new.frame.value
  pub later : GoesOnFromAll new.frame.value before.seen
  pub known : after ≡ next before new

-- the first publication gives the series its name
abbrev pub known_first : Known → Shown → Known
known_first before new = record { series = Some new; seen = past_of new.frame.value ∷ [] }

-- each later one keeps it
abbrev pub known_next : Known → Shown → Known
known_next before new =
    record { series = before.series; seen = past_of new.frame.value ∷ [] }

-- an entry keeps the series, and so many of the frames that were seen are kept in mind
abbrev pub known_entered : (List Past → List Past) → Known → Shown → Known
known_entered kept before new =
    record { series = before.series; seen = past_of new.frame.value ∷ kept before.seen }

-- a viewer takes in what the publisher passes on: the series, and what was seen
abbrev pub known_passed : Known → Known → Known
known_passed before passed =
    record { series = passed.series; seen = before.seen ++ passed.seen }
