-- The slot of a node of the world is one of the table's.
use Rattle.std.proofs.Common.{◌≡◌, None, Some, ap, arith, get_or, sym, subst, ◌∙◌}
use Rattle.std.specs.Prelude.{MatchOption}
use Rattle.std.specs.Arc.{arc_value}
use Rattle.node_tables.specs.NodeSlots.{item_at}
use Rattle.node_tables.proofs.TableLemmas.{item_at-in, item_at-out}
use Rattle.node_tables.proofs.table.NodeTable.get.Goals as goal

pub returns-then-not-is_in_world : goal.returns-then-not-is_in_world
returns-then-not-is_in_world g c =
    subst (λ table. item_at table c.args.node ≡ None) c.self.view_is
    (item_at-out _ c.args.node (sym c.if-not-is_in_world.ensures.test))

pub get-requires : goal.get-requires
get-requires g c = omega (arith, c.slot.ensures.below, c.self.invariant.long)

pub returns : goal.returns
returns g c =
    subst
    (λ slot. MatchOption c.get.result (slot ≡ None) (λ item. slot ≡ Some (arc_value item.now)))
    (ap (λ at. get_or c.self.inside.slots at None) c.slot.ensures.before
    ∙ sym (item_at-in _ c.args.node (sym c.if-not-is_in_world.ensures.test))
    ∙ ap (λ table. item_at table c.args.node) c.self.view_is)
    c.get.ensures
