-- What is fresh stays fresh, over the steps in which a board's leaves are meshed.
-- A leaf that is delivered may have been fresh already. Then it had its present brick, as the delivered block has; two
-- blocks of one brick are the same, by a law of block_mesh, so the leaf is fresh with the block that it had.
use Rattle.std.proofs.Common.{◌≡◌, ◌∙◌, sym, ap, inl, inr}
use Rattle.std.proofs.lemmas.Bool.{false≢true}
use Rattle.lattice.proofs.FamilyLemmas.{cases_Node}
use Rattle.lattice.specs.declared.node.Node.{Node}
use Rattle.terrain.specs.Blocks.{Brick}
use Rattle.block_mesh.specs.Done.{DoneState, IsDone}
use Rattle.mesh_board.specs.Board.{BoardState, Delivers, IsBoard, Takes, present_brick, state_of}
use Rattle.mesh_board.specs.LeafStates.{LeafState, fresh, is_wanted_state, recalled}
use Rattle.mesh_board.specs.declared.verdict.Verdict.{Verdict}
use Rattle.mesh_board.specs.declared.verdict.Verdict.TheVariants.{Kept, Stale}
use Rattle.mesh_board.specs.Keeping.{KeepsFresh}

-- recalling keeps what is fresh
recalled-fresh : (state : LeafState) (done : DoneState) → state ≡ fresh done
    → recalled state ≡ fresh done
recalled-fresh state done is = ap recalled is

-- what was fresh is so once a leaf was taken
fresh-taken : (old took : BoardState) (brick : Brick) → Takes old took brick → (n : Node)
    (d : DoneState) → state_of old n ≡ fresh d → state_of took n ≡ fresh d
fresh-taken old took brick takes n d is = elim (cases_Node n brick.node) [
  | inl here ↦
      absurd (false≢true
      (ap is_wanted_state (sym is ∙ ap (state_of old) here ∙ takes.first.wanted_is)))
  | inr apart ↦ takes.changes.leaves.others n apart ∙ is
]

-- where nothing was done
pub keeps-none : (old new : BoardState) → new ≡ old → KeepsFresh old new
keeps-none old new same = record {
  world = ap (λ (b : BoardState). b.world) same;
  marked = ap (λ (b : BoardState). b.marked) same;
  fresh_leaves = λ n done is. ap (λ (b : BoardState). state_of b n) same ∙ is;
}

-- over two steps
pub keeps-both : (old mid new : BoardState) → KeepsFresh old mid → KeepsFresh mid new
    → KeepsFresh old new
keeps-both old mid new first then = record {
  world = then.world ∙ first.world;
  marked = then.marked ∙ first.marked;
  fresh_leaves = λ n done is. then.fresh_leaves n done (first.fresh_leaves n done is);
}

-- a brick is taken
pub keeps-taken : (old took : BoardState) (brick : Brick) → Takes old took brick
    → KeepsFresh old took
keeps-taken old took brick takes = record {
  world = takes.changes.world;
  marked = takes.changes.marked;
  fresh_leaves = λ n done is. fresh-taken old took brick takes n done is;
}

-- what is out is recalled
pub keeps-recalled : (old new : BoardState) → new.world ≡ old.world → new.marked ≡ old.marked
    → ((n : Node) → state_of new n ≡ recalled (state_of old n)) → KeepsFresh old new
keeps-recalled old new world marked states = record {
  world = world;
  marked = marked;
  fresh_leaves = λ n done is. states n ∙ recalled-fresh (state_of old n) done is;
}

-- a block is delivered
pub keeps-delivered : (law : (a b : DoneState) → IsDone a → IsDone b → a.brick ≡ b.brick → a ≡ b)
    (old new : BoardState) (done : DoneState) (verdict : Verdict) → IsBoard old → IsDone done
    → Delivers old new done verdict → KeepsFresh old new
keeps-delivered law old new done Stale board is_done delivers =
    keeps-none old new delivers.1
keeps-delivered law old new done Kept board is_done delivers =
    let changes = delivers.1 in record {
      world = changes.world;
      marked = changes.marked;
      fresh_leaves = λ n was is. elim (cases_Node n done.brick.node) [
        | inl here ↦
            let brick : was.brick ≡ done.brick =
            board.brick n was is ∙ ap (present_brick old) here ∙ sym delivers.0.same in
            let same = law was done (board.mesh n was is) is_done brick in
            ap (state_of new) here ∙ changes.leaves.here ∙ ap fresh (sym same)
        | inr apart ↦ changes.leaves.others n apart ∙ is
      ];
    }
