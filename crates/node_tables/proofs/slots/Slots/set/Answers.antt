-- The slot is where the place says that its group has or gets, and it alone is changed.
use Rattle.std.proofs.Common.{◌≡◌, ◌<◌, ◌*◌, ◌/◌, ◌%◌, ◌+◌, ◌++◌, ◌∙◌, Some, ap, arith, drop, get_or, inl, length, set, subst, sym, take}
use Rattle.std.specs.Arc.{arc_value}
use Rattle.node_tables.specs.Groups.{GivesPlace, IsGrouped, slots_in}
use Rattle.node_tables.proofs.GroupLemmas.{IsGrouped-set, SetsSlot-given, SetsSlot-own, group_in, index_in, index_read, slots_in-set}
use Rattle.node_tables.proofs.WordLemmas.{written}
use Rattle.node_tables.proofs.slots.Slots.set.Given.{Over}
use Rattle.node_tables.proofs.slots.Slots.set.Goals as goal

-- the group of the slot has a place
in_groups : (g : Over) (c : goal.After-give_place-arg-1 g)
    → c.args.at / 64 < c.self.inside.places.len
in_groups g c =
    omega (
      arith,
      c.self.inside.places.ok.0,
      group_in arc_value c.self.inside.count c.args.at c.self.inside.places.items
          c.self.inside.items.items c.args.self.now c.self.view_is c.requires
          c.self.invariant.enough,
    )

pub give_place-requires-clause-group : goal.give_place-requires-clause-group
give_place-requires-clause-group g c = omega (arith, c.deref_mut.ensures.len, in_groups g c)

pub give_place-requires-clause-grouped : goal.give_place-requires-clause-grouped
give_place-requires-clause-grouped g c =
    subst (λ places. IsGrouped places c.self.inside.items.items c.self.inside.items.cap)
    (sym c.deref_mut.ensures.value) c.self.invariant.grouped

pub index-requires : goal.index-requires
index-requires g c = in_groups g c.before.before.before

-- the places that are written back
places : (g : Over) (c : goal.After-index_mut-arg-1 g)
    → take c.self.inside.places.len
    (c.give_place.new.places ++ drop (length c.give_place.new.places) c.self.inside.places.items)
    ≡ c.give_place.new.places
places g c =
    written c.give_place.new.places c.self.inside.places.items c.self.inside.places.len
    (c.give_place.auto.places ∙ c.deref_mut.ensures.len)

-- where the slot is
is_index : (g : Over) (c : goal.After-index_mut-arg-1 g)
    → c.index_of-index.result
    ≡ get_or c.give_place.new.places (c.args.at / 64) 0 * 64 + c.args.at % 64
is_index g c =
    index_read c.give_place.new.places c.args.at c.index.result.now c.index_of-index.result
    (omega (
      arith,
      c.give_place.auto.places,
      c.deref_mut.ensures.len,
      c.self.inside.places.ok.0,
      group_in arc_value c.self.inside.count c.args.at c.self.inside.places.items
          c.self.inside.items.items c.args.self.now c.self.view_is c.requires
          c.self.invariant.enough,
    ))
    (c.index.ensures ∙ ap (λ xs. get_or xs (c.args.at / 64) c.index.result.now) (places g c))
    c.index_of-index.ensures

below : (g : Over) (c : goal.After-index_mut-arg-1 g)
    → c.index_of-index.result < length c.give_place.new.items.items
below g c =
    let given = c.give_place.new in
    index_in given.places given.items.items given.items.cap c.args.at c.index_of-index.result
    c.give_place.ensures.grouped (is_index g c)

pub index_mut-requires : goal.index_mut-requires
index_mut-requires g c = omega (arith, below g c, c.give_place.new.items.ok.0)

pub invariant_of-self : goal.invariant_of-self
invariant_of-self g c =
    let at = c.before.before.before in
    let given = c.give_place.new in
    let index = c.index_of-index.result in
    record {
      enough = omega (
        arith,
        ap length (places g at),
        c.give_place.auto.places,
        c.deref_mut.ensures.len,
        c.self.inside.places.ok.0,
        c.self.invariant.enough,
      );
      grouped = subst
          (λ xs. IsGrouped xs (set given.items.items index (Some c.args.item)) given.items.cap)
          (sym (places g at))
          (IsGrouped-set given.places given.items.items given.items.cap index (Some c.args.item)
          c.give_place.ensures.grouped (below g at)
          (inl (omega (arith, is_index g at, c.give_place.ensures.gives.own))));
    }

pub returns : goal.returns
returns g c =
    let at = c.before.before.before in
    let old = c.self.inside in
    let given = c.give_place.new in
    let index = c.index_of-index.result in
    let item = Some c.args.item in
    let new_items = set given.items.items index item in
    ap (λ xs. slots_in arc_value old.count xs new_items) (places g at)
    ∙ slots_in-set arc_value old.count c.args.at old.places.items given.places old.items.items
    new_items c.args.self.now item c.self.view_is c.requires
    (SetsSlot-given (c.args.at / 64) c.args.at item old.places.items given.places
    old.items.items given.items.items new_items
    (subst (λ xs. GivesPlace (c.args.at / 64) xs given.places old.items.items given.items.items)
    c.deref_mut.ensures.value c.give_place.ensures.gives)
    (SetsSlot-own given.places given.items.items given.items.cap c.args.at index item
    c.give_place.ensures.grouped (is_index g at) c.give_place.ensures.gives.own))
