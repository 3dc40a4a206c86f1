-- The slot is where its group's place says, and it alone is emptied.
use Rattle.std.proofs.Common.{◌≡◌, ◌<◌, ◌*◌, ◌/◌, ◌%◌, ◌+◌, ◌∙◌, None, ap, arith, get_or, inr, length, set}
use Rattle.std.specs.Arc.{arc_value}
use Rattle.node_tables.specs.Groups.{slots_in}
use Rattle.node_tables.proofs.GroupLemmas.{IsGrouped-set, SetsSlot-none, group_in, index_in, index_read, slot-read, slots_in-set}
use Rattle.node_tables.proofs.TableLemmas.{taken}
use Rattle.node_tables.proofs.slots.Slots.take.Given.{Over}
use Rattle.node_tables.proofs.slots.Slots.take.Goals as goal

pub index-requires : goal.index-requires
index-requires g c =
    omega (
      arith,
      c.self.inside.places.ok.0,
      group_in arc_value c.self.inside.count c.args.at c.self.inside.places.items
          c.self.inside.items.items c.args.self.now c.self.view_is c.requires
          c.self.invariant.enough,
    )

-- where the slot is
is_index : (g : Over) (c : goal.After-index_mut-arg-1 g)
    → c.index_of-index.result
    ≡ get_or c.self.inside.places.items (c.args.at / 64) 0 * 64 + c.args.at % 64
is_index g c =
    index_read c.self.inside.places.items c.args.at c.index.result.now c.index_of-index.result
    (group_in arc_value c.self.inside.count c.args.at c.self.inside.places.items
    c.self.inside.items.items c.args.self.now c.self.view_is c.requires c.self.invariant.enough)
    c.index.ensures c.index_of-index.ensures

below : (g : Over) (c : goal.After-index_mut-arg-1 g)
    → c.index_of-index.result < length c.self.inside.items.items
below g c =
    index_in c.self.inside.places.items c.self.inside.items.items c.self.inside.items.cap c.args.at
    c.index_of-index.result c.self.invariant.grouped (is_index g c)

pub index_mut-requires : goal.index_mut-requires
index_mut-requires g c = omega (arith, below g c, c.self.inside.items.ok.0)

pub invariant_of-self : goal.invariant_of-self
invariant_of-self g c = record {
  enough = c.self.invariant.enough;
  grouped = IsGrouped-set c.self.inside.places.items c.self.inside.items.items
      c.self.inside.items.cap c.index_of-index.result c.take.new.self c.self.invariant.grouped
      (below g c.before.before.before) (inr c.take.ensures.after);
}

pub returns-clause-taken : goal.returns-clause-taken
returns-clause-taken g c =
    taken arc_value c.take.result c.index_mut.result.now (get_or c.args.self.now c.args.at None)
    c.take.ensures.value
    (slot-read arc_value c.self.inside.count c.args.at c.index_of-index.result
    c.self.inside.places.items c.self.inside.items.items c.args.self.now c.index_mut.result.now
    c.self.view_is c.requires (is_index g c.before.before.before) (below g c.before.before.before)
    c.index_mut.ensures.value)

pub returns-clause-slots : goal.returns-clause-slots
returns-clause-slots g c =
    ap (λ item. slots_in arc_value c.self.inside.count c.self.inside.places.items
    (set c.self.inside.items.items c.index_of-index.result item)) c.take.ensures.after
    ∙ slots_in-set arc_value c.self.inside.count c.args.at c.self.inside.places.items
    c.self.inside.places.items c.self.inside.items.items
    (set c.self.inside.items.items c.index_of-index.result None) c.args.self.now None c.self.view_is
    c.requires
    (SetsSlot-none c.self.inside.places.items c.self.inside.items.items c.self.inside.items.cap
    c.args.at c.index_of-index.result c.self.invariant.grouped (is_index g c.before.before.before))
