-- The node has a block, and is in the set of the leaves alone.
use Rattle.std.proofs.Common.{◌≡◌, sym, ap, ◌∙◌, subst}
use Rattle.std.specs.Prelude.{◌||◌}
use Rattle.std.specs.Arc.{arc_value}
use Rattle.block_mesh.specs.Done.{DoneState}
use Rattle.mesh_board.specs.LeafStates.{ChangesState, LeafStates, fresh, is_leaf_state}
use Rattle.mesh_board.specs.LeafTable.{state_in, states_of}
use Rattle.mesh_board.specs.declared.leaf_table.LeafTable.TheInside.{Inside}
use Rattle.mesh_board.proofs.TableLemmas.{ChangesState-changed, IsLeafTable-changed, KeepsOthers, state_by-block}
use Rattle.mesh_board.proofs.leaf_table.LeafTable.keep.Goals as goal

-- the parts after the call
abbrev after : goal.After-insert → Inside
after c = record {
  blocks = c.set.new.self;
  wanted = c.remove.new.self;
  out = c.remove-2.new.self;
  leaves = c.insert.new.self;
}

keeps_others : (c : goal.After-insert) → KeepsOthers c.self.inside (after c) c.node-leaf.result
keeps_others c = record {
  depth = c.set.ensures.depth;
  wanted_depth = c.remove.ensures.depth;
  out_depth = c.remove-2.ensures.depth;
  leaves_depth = c.insert.ensures.depth;
  blocks = c.set.ensures.others;
  wanted_set = c.remove.ensures.others;
  out_set = c.remove-2.ensures.others;
  leaves = c.insert.ensures.others;
}

-- the node's state then
here : (c : goal.After-insert)
    → state_in (after c) c.node-leaf.result ≡ fresh (arc_value c.args.done)
here c = state_by-block _ _ _ _ c.set.ensures.here

pub invariant_of-self : goal.invariant_of-self
invariant_of-self c =
    IsLeafTable-changed c.self.inside (after c) c.node-leaf.result c.self.invariant (keeps_others c)
    (λ done there. λ t. c.remove.ensures.here t || c.remove-2.ensures.here t)
    (c.insert.ensures.here ∙ sym (ap is_leaf_state (here c)))

-- the node is the brick's
at : (c : goal.After-insert) → c.node-leaf.result ≡ (arc_value c.args.done).brick.node
at c =
    c.node-leaf.ensures.value ∙ ap (λ (d : DoneState). d.brick.node) c.deref.ensures

pub returns-clause-fresh : goal.returns-clause-fresh
returns-clause-fresh c =
    let done = arc_value c.args.done in
    subst (λ (s : LeafStates). ChangesState s (states_of (after c)) done.brick.node (fresh done))
    c.self.view_is
    (subst (λ n. ChangesState (states_of c.self.inside) (states_of (after c)) n (fresh done)) (at c)
    (ChangesState-changed c.self.inside (after c) c.node-leaf.result (fresh done) c.self.invariant
    (invariant_of-self c) (keeps_others c) (here c)))
