-- A node that isn't in the world has no slot; else one slot is emptied, and the stats change with it.
use Rattle.std.proofs.Common.{◌≡◌, None, refl, sym, subst, ap, ◌∙◌}
use Rattle.std.proofs.lemmas.Option.{none-some}
use Rattle.std.specs.Arc.{arc_value}
use Rattle.lattice.specs.Node.{IsNode, is_node}
use Rattle.node_tables.specs.NodeSlots.{item_at}
use Rattle.node_tables.proofs.TableLemmas.{item_at-out}
use Rattle.snapshots.specs.Blocks.{IsBlockTable, listed}
use Rattle.snapshots.proofs.StatsLemmas.{IsPut, IsPut-listed, counted_is}
use Rattle.snapshots.proofs.block_table.BlockTable.clear.Goals as goal
use Rattle.snapshots.proofs.block_table.BlockTable.clear.Goals.{After-count}

pub returns-then-not-is_in_world-clause-here : goal.returns-then-not-is_in_world-clause-here
returns-then-not-is_in_world-clause-here c =
    subst (λ blocks. item_at blocks c.args.node ≡ None) c.self.view_is
    (item_at-out (listed c.self.inside.table) c.args.node
    (ap (λ depth. is_node depth c.args.node) (sym c.depth.ensures.value)
    ∙ sym c.if-not-is_in_world.ensures.test))

pub returns-then-not-is_in_world-clause-table : goal.returns-then-not-is_in_world-clause-table
returns-then-not-is_in_world-clause-table c =
    subst IsBlockTable c.self.view_is c.self.invariant.0

-- what the emptied slot makes of the table and of the stats
put : (c : After-count) → IsPut c.args.node None
    (listed c.self.inside.table) (listed c.clear.new.self) c.self.inside.stats c.count-old.result
    c.count.result
put c =
    IsPut-listed c.triangles_are_few.ensures.leaf c.self.inside.table c.clear.new.self c.args.node
    None c.self.inside.stats c.count-old.result c.count.result
    c.self.invariant.0 c.self.invariant.1
    (subst (λ depth. IsNode depth c.args.node) c.depth.ensures.value
    (c.if-not-is_in_world.ensures.fact.0 refl))
    c.clear.ensures.depth c.clear.ensures.here c.clear.ensures.others
    (λ done is. absurd (none-some done is))
    (counted_is arc_value c.get.result (item_at c.self.inside.table c.args.node) c.count-old.result
    c.get.ensures c.count-old.ensures.value)
    c.count.ensures.value

pub after_change-self-inside-requires : goal.after_change-self-inside-requires
after_change-self-inside-requires c =
    let change = put (goal.at.after_change-self-inside-requires c).After-count in
    record {
      leaves_within = change.leaves_within;
      triangles_within = change.triangles_within;
      keys_within = change.keys_within;
      leaves_fit = change.leaves_fit;
      triangles_fit = change.triangles_fit;
      keys_fit = change.keys_fit;
    }

pub invariant_of-self : goal.invariant_of-self
invariant_of-self c =
    let change = put (goal.at.invariant_of-self c).After-count in
    (change.table, c.after_change-self-inside.ensures ∙ change.counted)

pub returns-clause-table : goal.returns-clause-table
returns-clause-table c = (put (goal.at.returns-clause-table c).After-count).table

pub returns-clause-here : goal.returns-clause-here
returns-clause-here c = (put (goal.at.returns-clause-here c).After-count).changed.here

pub returns-clause-others : goal.returns-clause-others
returns-clause-others c = λ n differ.
    (put (goal.at.returns-clause-others c).After-count).changed.others n differ
    ∙ ap (λ blocks. item_at blocks n) c.self.view_is
