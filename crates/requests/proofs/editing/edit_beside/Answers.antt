-- The owners of the events that were read are the editors.
use Rattle.std.proofs.Common.{Global, List, Vec, arith, map, ◌∙◌}
use Rattle.requests.proofs.EditingLemmas.{owners-read, vectors-count}
use Rattle.terrain.specs.declared.event.Event.{Event}
use Rattle.requests.proofs.editing.edit_beside.Goals as goal

-- the lists, of vectors
abbrev lists_in : List (Vec Event Global) → List (List Event)
lists_in vectors = map (λ list. list.items) vectors

pub write_beside-owners-requires-clause-some : goal.write_beside-owners-requires-clause-some
write_beside-owners-requires-clause-some g c κs within =
    omega (
      arith,
      vectors-count c.args.asked c.args.lists.now c.requires.lists,
      c.requires.asked.some_editors,
    )

pub write_beside-owners-requires-clause-few : goal.write_beside-owners-requires-clause-few
write_beside-owners-requires-clause-few g c κs within =
    omega (
      arith,
      vectors-count c.args.asked c.args.lists.now c.requires.lists,
      c.requires.asked.few_editors,
    )

pub with_stats-found-requires-clause-edited : goal.with_stats-found-requires-clause-edited
with_stats-found-requires-clause-edited g c = λ κs lives.
    let written = c.write_beside-owners in
    let made = c.in_ok-new in
    owners-read c.args.asked (lists_in c.args.lists.now) made.field-0 written.result.1.board
    written.result.1.is_whole written.result.0 c.requires.lists
    (made.ensures.stands.settings ∙ c.settings_of-settings.ensures) made.ensures.stands.journal
    made.ensures.marked written.ensures.owners written.ensures.read
