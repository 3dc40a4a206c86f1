-- No slot has anything.
use Rattle.std.proofs.Common.{None, ap, arith, get_or, length, ◌∙◌}
use Rattle.std.specs.Prelude.{Option}
use Rattle.std.proofs.lemmas.List.{length-replicate}
use Rattle.node_tables.proofs.TableLemmas.{get_or-none, item_at-none}
use Rattle.node_tables.proofs.table.NodeTable.new.Goals as goal

pub new-requires : goal.new-requires
new-requires g c =
    omega (arith, c.slot_count.ensures, c.counts_of_nodes.ensures.most c.args.depth c.requires)

pub invariant_of-result : goal.invariant_of-result
invariant_of-result g c = record {
  depth = c.requires;
  long = ap length c.in_ok-slots.ensures
      ∙ length-replicate {A = Option g.row.T.Denot} c.slot_count.result None
      ∙ c.slot_count.ensures;
}

pub returns-clause-none : goal.returns-clause-none
returns-clause-none g c =
    item_at-none _ (λ k. ap (λ slots. get_or slots k None) c.in_ok-slots.ensures
    ∙ get_or-none None c.slot_count.result k)
