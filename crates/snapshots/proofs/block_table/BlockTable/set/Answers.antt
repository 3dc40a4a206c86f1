-- One slot is changed, and the stats with it.
use Rattle.std.proofs.Common.{Some, ◌∙◌, ap, subst, sym}
use Rattle.std.proofs.lemmas.Option.{same_Some}
use Rattle.std.specs.Arc.{arc_value}
use Rattle.lattice.specs.Node.{IsNode}
use Rattle.block_mesh.specs.Done.{IsDone}
use Rattle.node_tables.specs.NodeSlots.{item_at}
use Rattle.snapshots.specs.Blocks.{listed}
use Rattle.snapshots.proofs.StatsLemmas.{IsPut, IsPut-listed, counted_is}
use Rattle.snapshots.proofs.block_table.BlockTable.set.Goals as goal
use Rattle.snapshots.proofs.block_table.BlockTable.set.Goals.{After-set}

-- what the changed slot makes of the table and of the stats
put : (c : After-set) → IsPut c.args.node (Some (arc_value c.args.done))
    (listed c.self.inside.table) (listed c.set.new.self) c.self.inside.stats c.count-old.result
    c.count-new.result
put c =
    IsPut-listed c.triangles_are_few.ensures.leaf c.self.inside.table c.set.new.self c.args.node
    (Some (arc_value c.args.done)) c.self.inside.stats c.count-old.result c.count-new.result
    c.self.invariant.0 c.self.invariant.1
    (subst (λ blocks. IsNode blocks.depth c.args.node) (sym c.self.view_is) c.requires)
    c.set.ensures.depth c.set.ensures.here c.set.ensures.others
    (λ done is. subst IsDone (same_Some _ done is) c.count-new.ensures.done)
    (counted_is arc_value c.get.result (item_at c.self.inside.table c.args.node) c.count-old.result
    c.get.ensures c.count-old.ensures.value)
    c.count-new.ensures.value

pub after_change-self-inside-requires : goal.after_change-self-inside-requires
after_change-self-inside-requires c =
    let change = put (goal.at.after_change-self-inside-requires c).After-set in
    record {
      leaves_within = change.leaves_within;
      triangles_within = change.triangles_within;
      keys_within = change.keys_within;
      leaves_fit = change.leaves_fit;
      triangles_fit = change.triangles_fit;
      keys_fit = change.keys_fit;
    }

pub invariant_of-self : goal.invariant_of-self
invariant_of-self c =
    let change = put (goal.at.invariant_of-self c).After-set in
    (change.table, c.after_change-self-inside.ensures ∙ change.counted)

pub returns-clause-here : goal.returns-clause-here
returns-clause-here c = (put (goal.at.returns-clause-here c).After-set).changed.here

pub returns-clause-table : goal.returns-clause-table
returns-clause-table c = (put (goal.at.returns-clause-table c).After-set).table

pub returns-clause-others : goal.returns-clause-others
returns-clause-others c = λ n differ.
    (put (goal.at.returns-clause-others c).After-set).changed.others n differ
    ∙ ap (λ blocks. item_at blocks n) c.self.view_is
