-- The node has no block, and is in no set.
use Rattle.std.proofs.Common.{◌≡◌, sym, ap, ◌∙◌, subst}
use Rattle.std.proofs.lemmas.Option.{none-some}
use Rattle.mesh_board.specs.LeafStates.{ChangesState, LeafStates, is_leaf_state, no_leaf}
use Rattle.mesh_board.specs.LeafTable.{state_in, states_of}
use Rattle.mesh_board.specs.declared.leaf_table.LeafTable.TheInside.{Inside}
use Rattle.mesh_board.proofs.TableLemmas.{ChangesState-changed, IsLeafTable-changed, KeepsOthers, state_by-none}
use Rattle.mesh_board.proofs.leaf_table.LeafTable.forget.Goals as goal

-- the parts after the call
abbrev after : goal.After-remove-3 → Inside
after c = record {
  blocks = c.clear.new.self;
  wanted = c.remove.new.self;
  out = c.remove-2.new.self;
  leaves = c.remove-3.new.self;
}

keeps_others : (c : goal.After-remove-3) → KeepsOthers c.self.inside (after c) c.args.leaf
keeps_others c = record {
  depth = c.clear.ensures.depth;
  wanted_depth = c.remove.ensures.depth;
  out_depth = c.remove-2.ensures.depth;
  leaves_depth = c.remove-3.ensures.depth;
  blocks = c.clear.ensures.others;
  wanted_set = c.remove.ensures.others;
  out_set = c.remove-2.ensures.others;
  leaves = c.remove-3.ensures.others;
}

-- the node's state then
here : (c : goal.After-remove-3) → state_in (after c) c.args.leaf ≡ no_leaf
here c = state_by-none _ _ _ c.clear.ensures.here c.remove.ensures.here c.remove-2.ensures.here

pub invariant_of-self : goal.invariant_of-self
invariant_of-self c =
    IsLeafTable-changed c.self.inside (after c) c.args.leaf c.self.invariant (keeps_others c)
    (λ done there. absurd (none-some done (sym c.clear.ensures.here ∙ there)))
    (c.remove-3.ensures.here ∙ sym (ap is_leaf_state (here c)))

pub returns : goal.returns
returns c =
    subst (λ (s : LeafStates). ChangesState s (states_of (after c)) c.args.leaf (no_leaf))
    c.self.view_is
    (ChangesState-changed c.self.inside (after c) c.args.leaf (no_leaf) c.self.invariant
    (invariant_of-self c) (keeps_others c) (here c))
