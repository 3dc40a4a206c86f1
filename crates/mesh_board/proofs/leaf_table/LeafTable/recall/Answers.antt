-- The nodes of both sets are wanted then.
use Rattle.std.proofs.Common.{refl, sym, ap, ◌∙◌}
use Rattle.node_tables.specs.NodeSlots.{item_at}
use Rattle.mesh_board.specs.LeafStates.{LeafStates, recalled, state_at}
use Rattle.mesh_board.specs.LeafTable.{state_by}
use Rattle.mesh_board.specs.declared.leaf_table.LeafTable.TheInside.{Inside}
use Rattle.mesh_board.proofs.TableLemmas.{IsLeafTable-recalled, recalled-from, state_at-in}
use Rattle.mesh_board.proofs.leaf_table.LeafTable.recall.Goals as goal

pub invariant_of-self : goal.invariant_of-self
invariant_of-self c =
    IsLeafTable-recalled c.self.inside (record {
      blocks = c.self.inside.blocks;
      wanted = c.insert_all.new.self;
      out = c.clear.new.self;
      leaves = c.self.inside.leaves;
    }) c.self.invariant refl refl c.insert_all.ensures.depth c.clear.ensures.depth
    c.insert_all.ensures.each c.clear.ensures.none

pub returns-clause-each : goal.returns-clause-each
returns-clause-each c n =
    let old = c.self.inside in
    let new : Inside = record {
      blocks = old.blocks;
      wanted = c.insert_all.new.self;
      out = c.clear.new.self;
      leaves = old.leaves;
    } in
    state_at-in new n
    (invariant_of-self c)
    ∙ (λ t. state_by (item_at old.blocks n) (c.insert_all.ensures.each n t)
    (c.clear.ensures.none n t))
    ∙ recalled-from _ _ _ (c.self.invariant.alone n)
    ∙ ap recalled (sym (state_at-in old n c.self.invariant)
    ∙ ap (λ (s : LeafStates). state_at s n) c.self.view_is)
