-- The node goes from the set of the wanted to that of the leaves that are out.
use Rattle.std.proofs.Common.{◌≡◌, ℕ, true, None, refl, sym, ap, ◌∙◌, subst}
use Rattle.std.proofs.lemmas.Option.{none-some}
use Rattle.lattice.specs.declared.node.Node.{Node}
use Rattle.lattice.specs.Node.{IsNode}
use Rattle.node_tables.specs.NodeBits.{has}
use Rattle.node_tables.specs.NodeSlots.{item_at}
use Rattle.mesh_board.specs.LeafStates.{ChangesState, LeafStates, is_leaf_state, out, state_at, wanted}
use Rattle.mesh_board.specs.LeafTable.{state_in, states_of}
use Rattle.mesh_board.specs.declared.leaf_table.LeafTable.TheInside.{Inside}
use Rattle.mesh_board.proofs.TableLemmas.{ChangesState-changed, IsLeafTable-changed, KeepsOthers, in_world, state_at-in, state_by-out, wanted-parts}
use Rattle.mesh_board.proofs.leaf_table.LeafTable.send_out.Goals as goal

-- the parts after the call
abbrev after : goal.After-insert → Inside
after c = record {
  blocks = c.self.inside.blocks;
  wanted = c.remove.new.self;
  out = c.insert.new.self;
  leaves = c.self.inside.leaves;
}

keeps_others : (c : goal.After-insert) → KeepsOthers c.self.inside (after c) c.args.leaf
keeps_others c = record {
  depth = refl;
  wanted_depth = c.remove.ensures.depth;
  out_depth = c.insert.ensures.depth;
  leaves_depth = refl;
  blocks = λ m other. refl;
  wanted_set = c.remove.ensures.others;
  out_set = c.insert.ensures.others;
  leaves = λ m other. refl;
}

-- before it the node was wanted: it is a node of the world, has no block, and is in the set
was_wanted : (c : goal.After-insert) → state_in c.self.inside c.args.leaf ≡ wanted
was_wanted c =
    sym (state_at-in c.self.inside c.args.leaf c.self.invariant)
    ∙ ap (λ (s : LeafStates). state_at s c.args.leaf) c.self.view_is ∙ c.requires

was : (c : goal.After-insert) → (item_at c.self.inside.blocks c.args.leaf ≡ None)
    × (has c.self.inside.wanted c.args.leaf ≡ true)
was c = wanted-parts (item_at c.self.inside.blocks c.args.leaf)
    (has c.self.inside.wanted c.args.leaf) (has c.self.inside.out c.args.leaf) (was_wanted c)

leaf_before : (c : goal.After-insert) → has c.self.inside.leaves c.args.leaf ≡ true
leaf_before c =
    c.self.invariant.listed c.args.leaf ∙ ap is_leaf_state (was_wanted c)

-- the node's state then
here : (c : goal.After-insert) → state_in (after c) c.args.leaf ≡ out
here c = state_by-out _ _ _ (was c).0 c.remove.ensures.here c.insert.ensures.here

-- the node is one of the world
in_its_world : (depth : ℕ) (leaves : LeafStates) (n : Node)
    → depth ≡ leaves.depth → state_at leaves n ≡ wanted → IsNode depth n
in_its_world depth leaves n same is =
    subst (λ d. IsNode d n) (sym same) (in_world leaves n (ap is_leaf_state is))

pub remove-requires : goal.remove-requires
remove-requires c =
    in_its_world c.self.inside.wanted.depth c.args.self.now c.args.leaf
    (c.self.invariant.wanted_depth ∙ ap (λ (s : LeafStates). s.depth) c.self.view_is) c.requires

pub insert-requires : goal.insert-requires
insert-requires c =
    in_its_world c.self.inside.out.depth c.args.self.now c.args.leaf
    (c.self.invariant.out_depth ∙ ap (λ (s : LeafStates). s.depth) c.self.view_is) c.requires

pub invariant_of-self : goal.invariant_of-self
invariant_of-self c =
    IsLeafTable-changed c.self.inside (after c) c.args.leaf c.self.invariant (keeps_others c)
    (λ done there. absurd (none-some done (sym (was c).0 ∙ there)))
    (leaf_before c ∙ sym (ap is_leaf_state (here c)))

pub returns : goal.returns
returns c =
    subst (λ (s : LeafStates). ChangesState s (states_of (after c)) c.args.leaf (out))
    c.self.view_is
    (ChangesState-changed c.self.inside (after c) c.args.leaf (out) c.self.invariant
    (invariant_of-self c) (keeps_others c) (here c))
