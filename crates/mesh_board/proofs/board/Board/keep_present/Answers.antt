-- The leaf is fresh with its present brick.
use Rattle.std.proofs.Common.{refl, sym, subst}
use Rattle.std.specs.Arc.{arc_value}
use Rattle.mesh_board.specs.Board.{BoardState, ChangesOnly, IsPresentBrick}
use Rattle.mesh_board.specs.LeafStates.{fresh}
use Rattle.mesh_board.specs.Parts.{board_of}
use Rattle.mesh_board.proofs.BoardLemmas.{AreParts-kept}
use Rattle.mesh_board.proofs.board.Board.keep_present.Goals as goal

present : (c : goal.After-keep)
    → IsPresentBrick (board_of c.self.inside) (arc_value c.args.done).brick
present c =
    subst (λ b. IsPresentBrick b (arc_value c.args.done).brick) (sym c.self.view_is) c.requires

pub invariant_of-self : goal.invariant_of-self
invariant_of-self c =
    AreParts-kept c.self.inside c.keep.new.self (arc_value c.args.done) c.self.invariant
    c.keep.ensures.fresh (present c) c.keep.ensures.done

pub returns : goal.returns
returns c =
    let done = arc_value c.args.done in
    let P : BoardState → Type 0 = λ b.
    ChangesOnly b (board_of (record c.self.inside { leaves = c.keep.new.self })) done.brick.node
    (fresh done) in
    subst P c.self.view_is (record { world = refl; marked = refl; leaves = c.keep.ensures.fresh })
