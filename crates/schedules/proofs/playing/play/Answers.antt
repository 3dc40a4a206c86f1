-- Where memory runs out behind the last event, all events were accepted.
use Rattle.std.proofs.Common.{◌≤◌, ◌++◌, List, length, arith, ap, subst, sym, ◌∙◌}
use Rattle.std.proofs.lemmas.List.{take_all}
use Rattle.terrain.specs.declared.event.Event.{Event}
use Rattle.terra_events.specs.World.{WorldState}
use Rattle.schedules.specs.Playing.{EachUndoes}
use Rattle.schedules.proofs.playing.play.Goals as goal

pub returns-in-Err-clause-journal : goal.returns-in-Err-clause-journal
returns-in-Err-clause-journal g c =
    let old : List Event = c.args.board.now.world.events in
    let events : List Event = c.args.events.now in
    let all : length events ≤ length events = omega arith in
    let whole = take_all (length events) events all in
    let adds = c.in_ok-apply_all.ensures.journal in (
      length events,
      record {
        journal = ap (λ (world : WorldState). world.events) c.in-Err.ensures.world
            ∙ adds.journal ∙ ap (λ xs. old ++ xs) (sym whole);
        undoes = subst (EachUndoes old) (sym whole) adds.undoes;
      },
    )
