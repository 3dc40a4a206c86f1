-- A door that was made for the watcher has counted nothing before.
use Rattle.std.proofs.Common.{◌≤◌, ap, arith, ◌∙◌}
use Rattle.fault_counts.specs.Counts.{greatest_count}
use Rattle.published_frames.specs.Doors.{DoorState}
use Rattle.watchers.specs.Looks.{count_after}
use Rattle.watchers.proofs.LookLemmas.{count_after-from_none, risen_from_none}
use Rattle.watchers.proofs.beside.watch_freely.Goals as goal

pub returns : goal.returns
returns g c =
    let looks = c.in_ok-watched.watched.counts.looks in
    let told = c.in_ok-watched.ensures in
    let few : looks ≤ greatest_count =
    omega (arith, told.watched.made_or_left, c.ranges.looks.fits) in
    record {
      watched = told.watched;
      entered = told.entered
          ∙ ap (λ (door : DoorState). count_after door.entries looks) c.new-door.ensures
          ∙ count_after-from_none looks few;
      refused = λ left.
          risen_from_none _ _ (ap (λ (door : DoorState). door.refusals) c.new-door.ensures)
          (told.refused left);
    }
