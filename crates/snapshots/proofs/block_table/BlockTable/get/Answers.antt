-- The slot is that of the list.
use Rattle.std.proofs.Common.{◌≡◌, None, Some, ap, subst, sym, ◌∙◌}
use Rattle.std.specs.Prelude.{MatchOption}
use Rattle.std.specs.Arc.{arc_value}
use Rattle.node_tables.specs.NodeSlots.{item_at}
use Rattle.snapshots.proofs.TableLemmas.{listed_item}
use Rattle.snapshots.proofs.block_table.BlockTable.get.Goals as goal

pub returns : goal.returns
returns c =
    subst (λ held. MatchOption c.get.result (held ≡ None)
    (λ done. held ≡ Some (arc_value done.now)))
    (sym (listed_item c.self.inside.table c.args.node)
    ∙ ap (λ blocks. item_at blocks c.args.node) c.self.view_is)
    c.get.ensures
