-- So many looks so far. The viewer has seen the frame of the last one, and the door has let it in each time.
use Rattle.std.proofs.Common.{◌≡◌, ◌∷◌, []}
use Rattle.std.specs.Prelude.{⊤, MatchOption}
use Rattle.std.specs.Arc.{arc_value}
use Rattle.published_frames.specs.Pasts.{past_of}
use Rattle.snapshots.specs.Frame.{IsSound}
use Rattle.watchers.specs.Looks.{IsClean, count_after}
use Rattle.watchers.proofs.watching.watch.Given as goal

abbrev pub invariant-loop : goal.invariant-loop
invariant-loop g l =
    (l.counts.looks ≡ l.counter) × IsClean l.counts
    × (g.D.Door.refusals l.door ≡ g.D.Door.refusals l.initial.door)
    × (g.D.Door.entries l.door ≡ count_after (g.D.Door.entries l.initial.door) l.counter)
    × MatchOption l.last ⊤ (λ frame. IsSound (arc_value frame)
    × (l.viewer.seen ≡ past_of (arc_value frame) ∷ []))
