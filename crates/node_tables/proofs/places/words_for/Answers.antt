-- The root is the last node.
use Rattle.std.proofs.Common.{ap, arith, ◌∙◌}
use Rattle.lattice.specs.Node.{slot}
use Rattle.node_tables.proofs.places.words_for.Goals as goal

pub returns-clause-value : goal.returns-clause-value
returns-clause-value c =
    omega (
      arith,
      c.slot.ensures.before ∙ ap (slot c.args.depth) c.root.ensures,
      c.slots_of_nodes.ensures.last c.args.depth,
    )
