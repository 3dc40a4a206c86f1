-- No node has a block, or is in a set.
use Rattle.std.proofs.Common.{sym, ◌∙◌}
use Rattle.mesh_board.proofs.TableLemmas.{IsLeafTable-empty, state_at-in, state_by-none}
use Rattle.mesh_board.specs.declared.leaf_table.LeafTable.TheInside.{Inside}
use Rattle.mesh_board.proofs.leaf_table.LeafTable.new.Goals as goal

-- the parts of the table
abbrev parts : goal.In_ok-new-4 → Inside
parts c = record {
  blocks = c.in_ok-new-4.field-0;
  wanted = c.in_ok-new.field-0;
  out = c.in_ok-new-2.field-0;
  leaves = c.in_ok-new-3.field-0;
}

pub invariant_of-result : goal.invariant_of-result
invariant_of-result c =
    let depth = sym c.in_ok-new-4.ensures.depth in
    IsLeafTable-empty (parts c) (c.in_ok-new.ensures.depth ∙ depth)
    (c.in_ok-new-2.ensures.depth ∙ depth) (c.in_ok-new-3.ensures.depth ∙ depth)
    c.in_ok-new-4.ensures.none c.in_ok-new.ensures.none c.in_ok-new-2.ensures.none
    c.in_ok-new-3.ensures.none

pub returns-clause-none : goal.returns-clause-none
returns-clause-none c n =
    state_at-in (parts c) n
    (invariant_of-result c)
    ∙ state_by-none _ _ _ (c.in_ok-new-4.ensures.none n) (c.in_ok-new.ensures.none n)
    (c.in_ok-new-2.ensures.none n)
