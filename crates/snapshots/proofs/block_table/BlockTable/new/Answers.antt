-- No slot has anything.
use Rattle.std.proofs.Common.{◌≡◌, None, subst, sym, ◌∙◌}
use Rattle.std.proofs.lemmas.List.{length-map}
use Rattle.std.proofs.lemmas.Option.{none-some}
use Rattle.lattice.specs.declared.node.Node.{Node}
use Rattle.lattice.specs.Node.{nodes}
use Rattle.lattice.specs.Settings.{IsDepth}
use Rattle.node_tables.specs.NodeSlots.{item_at}
use Rattle.snapshots.proofs.StatsLemmas.{stats-none}
use Rattle.snapshots.proofs.TableLemmas.{listed_item}
use Rattle.snapshots.proofs.block_table.BlockTable.new.Goals as goal

pub invariant_of-result : goal.invariant_of-result
invariant_of-result c =
    let table = c.in_ok-table.table in
    let none : (n : Node) → item_at table n ≡ None = c.in_ok-table.ensures.none in (
      record {
        table = record {
          depth = subst IsDepth (sym c.in_ok-table.ensures.depth) c.requires;
          long = length-map (nodes table.depth) (item_at table);
        };
        dones = λ n done at. absurd (none-some done (sym (listed_item table n ∙ none n) ∙ at));
      },
      c.count.ensures.value ∙ stats-none (item_at table) none (nodes table.depth),
    )

pub returns-clause-none : goal.returns-clause-none
returns-clause-none c = λ n.
    listed_item c.in_ok-table.table n ∙ c.in_ok-table.ensures.none n
