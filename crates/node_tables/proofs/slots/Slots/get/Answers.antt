-- The slot is where its group's place says.
use Rattle.std.proofs.Common.{◌≡◌, ◌<◌, ◌*◌, ◌/◌, ◌%◌, ◌+◌, None, arith, get_or, length}
use Rattle.std.specs.Arc.{arc_value}
use Rattle.node_tables.proofs.GroupLemmas.{group_in, index_in, index_read, slot-read}
use Rattle.node_tables.proofs.TableLemmas.{lent}
use Rattle.node_tables.proofs.slots.Slots.get.Given.{Over}
use Rattle.node_tables.proofs.slots.Slots.get.Goals as goal

pub index-requires : goal.index-requires
index-requires g c =
    omega (
      arith,
      c.self.inside.places.ok.0,
      group_in arc_value c.self.inside.count c.args.at c.self.inside.places.items
          c.self.inside.items.items c.args.self.now c.self.view_is c.requires
          c.self.invariant.enough,
    )

-- where the slot is
is_index : (g : Over) (c : goal.After-index_of g)
    → c.index_of.result
    ≡ get_or c.self.inside.places.items (c.args.at / 64) 0 * 64 + c.args.at % 64
is_index g c =
    index_read c.self.inside.places.items c.args.at c.index.result.now c.index_of.result
    (group_in arc_value c.self.inside.count c.args.at c.self.inside.places.items
    c.self.inside.items.items c.args.self.now c.self.view_is c.requires c.self.invariant.enough)
    c.index.ensures c.index_of.ensures

below : (g : Over) (c : goal.After-index_of g)
    → c.index_of.result < length c.self.inside.items.items
below g c =
    index_in c.self.inside.places.items c.self.inside.items.items c.self.inside.items.cap c.args.at
    c.index_of.result c.self.invariant.grouped (is_index g c)

pub index-requires-2 : goal.index-requires-2
index-requires-2 g c = omega (arith, below g c, c.self.inside.items.ok.0)

pub returns : goal.returns
returns g c =
    lent arc_value c.as_ref.result c.index-2.result.now (get_or c.args.self.now c.args.at None)
    c.as_ref.ensures.value
    (slot-read arc_value c.self.inside.count c.args.at c.index_of.result
    c.self.inside.places.items c.self.inside.items.items c.args.self.now c.index-2.result.now
    c.self.view_is c.requires (is_index g c.before.before) (below g c.before.before)
    c.index-2.ensures)
