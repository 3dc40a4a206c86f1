-- One slot is emptied.
use Rattle.std.proofs.Common.{◌≡◌, None, Some, ap, arith, get_or, refl, set, subst, sym, ◌∙◌}
use Rattle.std.specs.Prelude.{MatchOption}
use Rattle.std.specs.Arc.{arc_value}
use Rattle.node_tables.specs.NodeSlots.{NodeSlots, item_at}
use Rattle.node_tables.proofs.TableLemmas.{IsNodeTable-set, SetsItem, SetsItem-from, item_at-in, item_at-out}
use Rattle.node_tables.proofs.table.NodeTable.clear.Given.{Over}
use Rattle.node_tables.proofs.table.NodeTable.clear.Goals as goal

pub returns-then-not-is_in_world-clause-taken : goal.returns-then-not-is_in_world-clause-taken
returns-then-not-is_in_world-clause-taken g c =
    subst (λ table. item_at table c.args.node ≡ None) c.self.view_is
    (item_at-out _ c.args.node (sym c.if-not-is_in_world.ensures.test))

pub returns-then-not-is_in_world-clause-here : goal.returns-then-not-is_in_world-clause-here
returns-then-not-is_in_world-clause-here g c =
    subst (λ table. item_at table c.args.node ≡ None) c.self.view_is
    (item_at-out _ c.args.node (sym c.if-not-is_in_world.ensures.test))

old : (g : Over) → goal.After-take g → NodeSlots g.row.T.Denot
old g c = record { depth = c.self.inside.depth; slots = c.self.inside.slots }

new : (g : Over) → goal.After-take g → NodeSlots g.row.T.Denot
new g c = record { depth = c.self.inside.depth; slots = c.take.new.self }

pub take-requires : goal.take-requires
take-requires g c = omega (arith, c.slot.ensures.below, c.self.invariant.long)

changed : (g : Over) (c : goal.After-take g) → SetsItem c.args.node None (old g c) (new g c)
unfolding old new
changed g c =
    SetsItem-from (old g c) c.args.node None c.take.new.self c.self.invariant.long
    (c.if-not-is_in_world.ensures.fact.0 refl)
    (c.take.ensures.slots
    ∙ ap (λ at. set c.self.inside.slots at None) c.slot.ensures.before)

pub invariant_of-self : goal.invariant_of-self
unfolding old new
invariant_of-self g c =
    IsNodeTable-set (old g c) (new g c) c.args.node None c.self.invariant (changed g c)

pub returns-clause-taken : goal.returns-clause-taken
returns-clause-taken g c =
    subst
    (λ slot. MatchOption c.take.result (slot ≡ None) (λ item. slot ≡ Some (arc_value item)))
    (ap (λ at. get_or c.self.inside.slots at None) c.slot.ensures.before
    ∙ sym (item_at-in _ c.args.node (sym c.if-not-is_in_world.ensures.test))
    ∙ ap (λ table. item_at table c.args.node) c.self.view_is)
    c.take.ensures.taken

pub returns-clause-here : goal.returns-clause-here
unfolding new
returns-clause-here g c = (changed g c).here

pub returns-clause-others : goal.returns-clause-others
unfolding old new
returns-clause-others g c = λ n differ.
    (changed g c).others n differ ∙ ap (λ table. item_at table n) c.self.view_is
