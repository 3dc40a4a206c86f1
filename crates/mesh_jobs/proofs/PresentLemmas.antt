-- What is present on a board is so on each board of the same world.
use Rattle.std.proofs.Common.{◌≡◌, ◌≢◌, sym, ap, ◌∙◌, subst, inl, inr}
use Rattle.std.specs.Prelude.{IsTrue}
use Rattle.event_laws.specs.Changes.{brick_after}
use Rattle.terrain.specs.Blocks.{Brick}
use Rattle.terrain.specs.Levels.{is_leaf, levels}
use Rattle.block_mesh.specs.Done.{DoneState}
use Rattle.lattice.proofs.FamilyLemmas.{cases_Node}
use Rattle.lattice.specs.declared.node.Node.{Node}
use Rattle.mesh_board.specs.Board.{BoardState, ChangesOnly, IsPresentBrick, state_of}
use Rattle.mesh_board.specs.LeafStates.{fresh, out}

-- a brick stays present while the world stays
pub present-there : (old new : BoardState) → new.world ≡ old.world → (brick : Brick)
    → IsPresentBrick old brick → IsPresentBrick new brick
present-there old new same brick is = record {
  leaf = subst (λ w. IsTrue (is_leaf w.settings.depth (levels w.settings w.events) brick.node))
      (sym same) is.leaf;
  same = is.same ∙ ap (λ w. brick_after w.settings w.events brick.node) (sym same);
}

-- where no leaf was out none is once one became fresh
pub none_out-kept : (old new : BoardState) (n : Node) (done : DoneState)
    → ChangesOnly old new n (fresh done) → ((m : Node) → state_of old m ≢ out)
    → (m : Node) → state_of new m ≢ out
none_out-kept old new n done changes none m is = elim (cases_Node m n) [
  | inl here ↦ fresh≢out (sym changes.leaves.here ∙ ap (state_of new) (sym here) ∙ is)
  | inr apart ↦ none m (sym (changes.leaves.others m apart) ∙ is)
]
  where
    fresh≢out : fresh done ≢ out
    fresh≢out h = cc
