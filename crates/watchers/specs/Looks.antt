-- What looks at frames count: cracks, and looks that went back. This project's rule.
use Rattle.std.specs.Prelude.{◌≡◌, ◌+◌, ◌<◌, ℕ, zero, suc, List}
use Rattle.terrain.specs.declared.event.Event.{Event}
use Rattle.terrain.specs.Blocks.{scratch}
use Rattle.snapshots.specs.Frame.{FrameState}
use Rattle.audits.specs.Audit.{audit_of}
use Rattle.audits.specs.declared.counts.Counts.{Counts}
use Rattle.fault_counts.specs.Counts.{next_count}
use Rattle.published_frames.specs.Pasts.{BeginsWith}
use Rattle.watchers.specs.declared.watching.Report.{Report}
use Rattle.watchers.specs.declared.watching.Watched.{Watched}

-- how many cracks the audit of a frame's meshes has
abbrev pub cracks_of : FrameState → ℕ
cracks_of frame =
    (audit_of frame.settings.depth (scratch frame.settings frame.events)).cracks

-- the counts with a look at a frame more, after a look at a journal: the frame's cracks are added, and the look is
-- backward exactly where the frame's journal doesn't begin with that journal
pub record CountsLook (before : Counts) (last : List Event) (frame : FrameState) (after : Counts)
    : Type 0 where
  pub looks : after.looks ≡ before.looks + 1
  pub cracks : after.cracks ≡ before.cracks + cracks_of frame
  pub forward : BeginsWith frame.events last → after.backward ≡ before.backward
  pub backward : (BeginsWith frame.events last → ⊥) → after.backward ≡ before.backward + 1

-- no crack was counted, and no look was backward
pub record IsClean (counts : Counts) : Type 0 where
  pub whole : counts.cracks ≡ 0
  pub forward : counts.backward ≡ 0

-- this many looks were made or are left, and those that were made counted nothing
pub record IsWatched (looks : ℕ) (watched : Watched) : Type 0 where
  pub made_or_left : watched.counts.looks + watched.left ≡ looks
  pub clean : IsClean watched.counts

-- a count after so many more
unfoldable pub count_after : ℕ → ℕ → ℕ
count_after count zero = count
count_after count (suc more) = next_count (count_after count more)

-- a report of so many looks: those that were made are the entries by the watcher's own door, which was used for nothing
-- else, and some are left only where that door refused
pub record IsReport (looks : ℕ) (report : Report) : Type 0 where
  pub watched : IsWatched looks report.watched
  pub entered : report.door.entries ≡ report.watched.counts.looks
  pub refused : 0 < report.watched.left → 0 < report.door.refusals
