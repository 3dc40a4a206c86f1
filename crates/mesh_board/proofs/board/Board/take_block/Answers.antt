-- The first wanted leaf is out then, and its block is made of its present brick.
use Rattle.std.proofs.Common.{refl, sym, ap, ◌∙◌, subst}
use Rattle.std.specs.Arc.{arc_value}
use Rattle.std.specs.Prelude.{IsTrue}
use Rattle.mesh_board.specs.Board.{BoardState, IsPresentBrick, Takes, is_leaf_of}
use Rattle.mesh_board.specs.LeafStates.{ChangesState, IsFirstWanted, is_leaf_state, out}
use Rattle.mesh_board.specs.Parts.{board_of}
use Rattle.mesh_board.proofs.BoardLemmas.{AreParts-changed}
use Rattle.mesh_board.proofs.board.Board.take_block.Goals as goal

-- the first wanted leaf is a leaf
pub leaf_block-requires : goal.leaf_block-requires
leaf_block-requires c =
    subst (λ b. IsTrue (is_leaf_of b c.in-Some.first)) c.self.view_is
    (sym (c.self.invariant.board.leaf c.in-Some.first)
    ∙ ap is_leaf_state c.in-Some.ensures.wanted_is)

pub invariant_of-self : goal.invariant_of-self
invariant_of-self c =
    AreParts-changed c.self.inside c.send_out.new.self c.in-Some.first out c.self.invariant
    c.send_out.ensures
    (sym (ap is_leaf_state c.in-Some.ensures.wanted_is)
    ∙ c.self.invariant.board.leaf c.in-Some.first)
    (λ done there. absurd (cc)) (λ done there. absurd (cc))

pub returns-clause-taken : goal.returns-clause-taken
returns-clause-taken c =
    let made = c.in_ok-block.ensures in
    let leaves = c.self.inside.leaves in
    let P : BoardState → Type 0 = λ b.
    Takes b (board_of (record c.self.inside { leaves = c.send_out.new.self }))
    (arc_value c.in_ok-block.block).brick in
    subst P c.self.view_is (record {
      first = subst (IsFirstWanted leaves) (sym made.node) c.in-Some.ensures;
      present = subst (λ b. IsPresentBrick b (arc_value c.in_ok-block.block).brick)
          (sym c.self.view_is) made.present;
      changes = record {
        world = refl;
        marked = refl;
        leaves = subst (λ n. ChangesState leaves c.send_out.new.self n out) (sym made.node)
            c.send_out.ensures;
      };
    })
