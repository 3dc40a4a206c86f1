-- The node is in the set of the wanted alone.
use Rattle.std.proofs.Common.{◌≡◌, sym, ap, ◌∙◌, subst}
use Rattle.std.proofs.lemmas.Option.{none-some}
use Rattle.mesh_board.specs.LeafStates.{ChangesState, LeafStates, is_leaf_state, wanted}
use Rattle.mesh_board.specs.LeafTable.{state_in, states_of}
use Rattle.mesh_board.specs.declared.leaf_table.LeafTable.TheInside.{Inside}
use Rattle.mesh_board.proofs.TableLemmas.{ChangesState-changed, IsLeafTable-changed, KeepsOthers, state_by-wanted}
use Rattle.mesh_board.proofs.leaf_table.LeafTable.want.Goals as goal

-- the parts after the call
abbrev after : goal.After-insert-2 → Inside
after c = record {
  blocks = c.clear.new.self;
  wanted = c.insert.new.self;
  out = c.remove.new.self;
  leaves = c.insert-2.new.self;
}

keeps_others : (c : goal.After-insert-2) → KeepsOthers c.self.inside (after c) c.args.leaf
keeps_others c = record {
  depth = c.clear.ensures.depth;
  wanted_depth = c.insert.ensures.depth;
  out_depth = c.remove.ensures.depth;
  leaves_depth = c.insert-2.ensures.depth;
  blocks = c.clear.ensures.others;
  wanted_set = c.insert.ensures.others;
  out_set = c.remove.ensures.others;
  leaves = c.insert-2.ensures.others;
}

-- the node's state then
here : (c : goal.After-insert-2) → state_in (after c) c.args.leaf ≡ wanted
here c = state_by-wanted _ _ _ c.clear.ensures.here c.insert.ensures.here

pub invariant_of-self : goal.invariant_of-self
invariant_of-self c =
    IsLeafTable-changed c.self.inside (after c) c.args.leaf c.self.invariant (keeps_others c)
    (λ done there. absurd (none-some done (sym c.clear.ensures.here ∙ there)))
    (c.insert-2.ensures.here ∙ sym (ap is_leaf_state (here c)))

pub returns : goal.returns
returns c =
    subst (λ (s : LeafStates). ChangesState s (states_of (after c)) c.args.leaf (wanted))
    c.self.view_is
    (ChangesState-changed c.self.inside (after c) c.args.leaf (wanted) c.self.invariant
    (invariant_of-self c) (keeps_others c) (here c))
