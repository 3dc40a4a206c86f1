-- One event more, or why not.
use Rattle.std.proofs.Common.{◌≡◌, ◌++◌, ◌∷◌, List, Err, [], ap, arith, get_or, length, length-append, subst, sym, take, ◌∙◌}
use Rattle.std.specs.Prelude.{IsErrOf}
use Rattle.std.proofs.lemmas.Grind.{common_steps}
use Rattle.std.proofs.lemmas.Option.{slice_get-get_or}
use Rattle.mesh_board.specs.Board.{BoardState}
use Rattle.terra_events.specs.World.{WorldState}
use Rattle.terra_events.specs.declared.fault.ApplyFault.TheVariants.{NothingToUndo}
use Rattle.terrain.specs.declared.brush.Brush.TheVariants.{Cuboid}
use Rattle.terrain.specs.declared.brush.Mode.TheVariants.{Fill}
use Rattle.terrain.specs.declared.event.Event.{Event}
use Rattle.terrain.specs.declared.event.Event.TheVariants.{Edit}
use Rattle.terrain.specs.History.{HasNothingToUndo}
use Rattle.schedules.specs.Playing.{GrowsBy}
use Rattle.schedules.proofs.PlayLemmas.{GrowsBy-more, taken-room, taken-undoes}
use Rattle.schedules.proofs.playing.apply_all.Goals as goal

-- what a list of events is read as past its end
past_end : Event
past_end = Edit (Cuboid Fill (record { z = 0; y = 0; x = 0 }) (record { z = 0; y = 0; x = 0 }))

pub returns-in-Err-NothingToUndo-clause-journal :
    goal.returns-in-Err-NothingToUndo-clause-journal
unfolding past_end
returns-in-Err-NothingToUndo-clause-journal g c =
    let loop = c.loop-number in
    let old : List Event = c.args.board.now.world.events in
    let events : List Event = c.args.events.now in
    let event : Event = get_or events loop.number past_end in
    let told = c.in-Err-NothingToUndo in
    let refused : IsErrOf c.apply.result NothingToUndo = told.is ∙ ap Err told.field-0-is in
    let bare : HasNothingToUndo loop.board.world.events event = c.apply.ensures.nothing.0 refused in
    let same : c.apply.new.self ≡ loop.board = told.ensures.unchanged in
    let journal : c.apply.new.self.world.events ≡ loop.board.world.events =
    ap (λ (board : BoardState). board.world.events) same in (
      subst (GrowsBy old (take loop.number events)) (sym journal) loop.invariant.adds,
      (
        event,
        slice_get-get_or events loop.number past_end c.loop-number-test.true,
        subst (λ es. HasNothingToUndo es event) (sym journal) bare,
      ),
    )

pub loop-number-preserved : goal.loop-number-preserved
unfolding past_end
loop-number-preserved g c =
    let loop = c.loop-number in
    let old : List Event = c.args.board.now.world.events in
    let events : List Event = c.args.events.now in
    let event : Event = get_or events loop.number past_end in
    let applied = c.in-Ok.ensures in
    let grown : c.feed.new.board.world.events ≡ loop.board.world.events ++ event ∷ [] =
    ap (λ (world : WorldState). world.events) c.feed.ensures.world ∙ applied.stands.journal in
    let room = taken-room loop.board.world.events c.apply.result c.in-Ok.field-0 c.in-Ok.is
    loop.invariant.few c.apply.ensures.full in
    let undoes = taken-undoes loop.board.world.events event c.apply.result c.in-Ok.field-0
    c.in-Ok.is room c.apply.ensures.nothing in record {
      settings = grind (arith, common_steps);
      marked = grind (arith, common_steps);
      marked_events_ = grind (arith, common_steps);
      few = omega (
        arith,
        ap length grown,
        length-append loop.board.world.events (event ∷ []),
        room,
      );
      adds = GrowsBy-more old events loop.board.world.events c.feed.new.board.world.events
          loop.number past_end c.loop-number-test.true loop.invariant.adds grown undoes;
    }
