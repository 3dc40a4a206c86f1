-- The root is the last node.
use Rattle.std.proofs.Common.{◌+◌, ap, ◌∙◌}
use Rattle.lattice.specs.Node.{slot}
use Rattle.node_tables.proofs.table.slot_count.Goals as goal

pub returns : goal.returns
returns c =
    ap (λ at. at + 1) (c.slot.ensures.before ∙ ap (slot c.args.depth) c.root.ensures)
    ∙ c.slots_of_nodes.ensures.last c.args.depth
