-- The stats are those of the nodes' slots in order.
use Rattle.std.proofs.Common.{◌≡◌, ap, map, subst, ◌∙◌}
use Rattle.lattice.specs.Node.{nodes}
use Rattle.node_tables.specs.NodeSlots.{item_at}
use Rattle.snapshots.specs.Blocks.{listed}
use Rattle.snapshots.specs.Stats.{stats_of_slots}
use Rattle.node_tables.proofs.TableLemmas.{slots_listed}
use Rattle.snapshots.proofs.block_table.BlockTable.stats.Goals as goal

pub returns : goal.returns
returns c =
    let table = listed c.self.inside.table in
    c.self.invariant.1
    ∙ ap stats_of_slots
    (subst (λ blocks. table.slots ≡ map (item_at blocks) (nodes blocks.depth)) c.self.view_is
    (slots_listed table c.self.invariant.0.table.long))
