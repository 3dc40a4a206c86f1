-- One slot is changed.
use Rattle.std.proofs.Common.{Some, ap, arith, set, subst, sym, ◌∙◌}
use Rattle.std.specs.Arc.{arc_value}
use Rattle.lattice.specs.Node.{IsNode}
use Rattle.node_tables.specs.NodeSlots.{NodeSlots, item_at}
use Rattle.node_tables.proofs.TableLemmas.{IsNodeTable-set, SetsItem, SetsItem-from}
use Rattle.node_tables.proofs.table.NodeTable.set.Given.{Over}
use Rattle.node_tables.proofs.table.NodeTable.set.Goals as goal

old : (g : Over) → goal.After-set g → NodeSlots g.row.T.Denot
old g c = record { depth = c.self.inside.depth; slots = c.self.inside.slots }

new : (g : Over) → goal.After-set g → NodeSlots g.row.T.Denot
new g c = record { depth = c.self.inside.depth; slots = c.set.new.self }

pub set-requires : goal.set-requires
set-requires g c = omega (arith, c.slot.ensures.below, c.self.invariant.long)

changed : (g : Over) (c : goal.After-set g)
    → SetsItem c.args.node (Some (arc_value c.args.item)) (old g c) (new g c)
unfolding old new
changed g c =
    SetsItem-from (old g c) c.args.node (Some (arc_value c.args.item)) c.set.new.self
    c.self.invariant.long
    (subst (λ table. IsNode table.depth c.args.node) (sym c.self.view_is) c.requires)
    (c.set.ensures
    ∙ ap (λ at. set c.self.inside.slots at (Some (arc_value c.args.item))) c.slot.ensures.before)

pub invariant_of-self : goal.invariant_of-self
unfolding old new
invariant_of-self g c =
    IsNodeTable-set (old g c) (new g c) c.args.node (Some (arc_value c.args.item))
    c.self.invariant (changed g c)

pub returns-clause-here : goal.returns-clause-here
unfolding new
returns-clause-here g c = (changed g c).here

pub returns-clause-others : goal.returns-clause-others
unfolding old new
returns-clause-others g c = λ n differ.
    (changed g c).others n differ ∙ ap (λ table. item_at table n) c.self.view_is
