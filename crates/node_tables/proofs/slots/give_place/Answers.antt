-- The group gets the place behind all others.
use Rattle.std.proofs.Common.{◌≡◌, ◌/◌, ◌∙◌, ap, length}
use Rattle.node_tables.proofs.GroupLemmas.{GivesPlace-new, IsGrouped-given, room_for}
use Rattle.node_tables.proofs.slots.give_place.Given.{Over}
use Rattle.node_tables.proofs.slots.give_place.Goals as goal

pub add_group-requires : goal.add_group-requires
add_group-requires g c =
    room_for c.args.places.now c.args.items.now.items c.args.items.now.cap c.args.group
    c.requires.grouped c.requires.group c.if-places-group-ne0.false

-- the place is told by the slots that are there
place : (g : Over) (c : goal.After-add_group g)
    → c.len.result / 64 ≡ length c.args.items.now.items / 64
place g c = ap (λ n. n / 64) (c.len.ensures ∙ c.args.items.now.ok.0)

pub returns-clause-grouped : goal.returns-clause-grouped
returns-clause-grouped g c =
    rw (c.add_group.ensures.items, c.add_group.ensures.room, place g c)
    (IsGrouped-given c.args.places.now c.args.items.now.items c.args.items.now.cap c.args.group
    c.requires.grouped c.requires.group c.if-places-group-ne0.false)

pub returns-clause-gives : goal.returns-clause-gives
returns-clause-gives g c =
    rw (c.add_group.ensures.items, place g c)
    (GivesPlace-new c.args.places.now c.args.items.now.items c.args.items.now.cap c.args.group
    c.requires.grouped c.requires.group c.if-places-group-ne0.false)
