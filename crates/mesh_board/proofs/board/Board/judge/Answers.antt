-- A brick is kept exactly where it is the present one of a leaf, and then the leaf is fresh with it.
use Rattle.std.proofs.Common.{◌≡◌, refl, sym, ap, ◌∙◌, subst}
use Rattle.std.specs.Arc.{arc_value}
use Rattle.std.proofs.lemmas.Bool.{false≢true}
use Rattle.mesh_board.specs.Board.{BoardState, ChangesOnly, IsPresentBrick}
use Rattle.mesh_board.specs.LeafStates.{fresh}
use Rattle.mesh_board.specs.Parts.{board_of}
use Rattle.block_mesh.specs.Done.{DoneState}
use Rattle.mesh_board.proofs.BoardLemmas.{AreOf, AreOf-lent, AreParts-kept, matches-present}
use Rattle.mesh_board.proofs.board.Board.judge.Goals as goal

pub returns-then-not-matches-clause-verdict : goal.returns-then-not-matches-clause-verdict
returns-then-not-matches-clause-verdict c =
    let are : AreOf c.self.inside.world.settings c.self.inside.world.events c.deref.result.now
    c.deref-2.result.now =
    AreOf-lent c.self.inside.world c.version.result.now.value c.deref.result.now
    c.levels.result.now.value c.deref-2.result.now c.deref.ensures
    c.version.ensures.depth c.version.ensures.samples c.deref-2.ensures c.levels.ensures.depth
    c.levels.ensures.split in
    let brick : c.args.brick.now ≡ (arc_value c.args.done).brick = sym c.requires in
    let told = matches-present (board_of c.self.inside) c.args.brick.now
    c.deref.result.now c.deref-2.result.now c.bricks_read_their_leaf.ensures.world are in (
      (λ present.
          let here : IsPresentBrick (board_of c.self.inside) c.args.brick.now =
          subst (λ b. IsPresentBrick b c.args.brick.now) (sym c.self.view_is)
          (subst (IsPresentBrick c.args.self.now) (sym brick) present) in
          false≢true (sym c.if-not-matches.true ∙ c.matches.ensures.1 (told.1 here))),
      refl,
    )

-- the brick is the present one
present : (c : goal.After-keep)
    → IsPresentBrick (board_of c.self.inside) (arc_value c.args.done).brick
present c =
    let are : AreOf c.self.inside.world.settings c.self.inside.world.events c.deref.result.now
    c.deref-2.result.now =
    AreOf-lent c.self.inside.world c.version.result.now.value c.deref.result.now
    c.levels.result.now.value c.deref-2.result.now c.deref.ensures
    c.version.ensures.depth c.version.ensures.samples c.deref-2.ensures c.levels.ensures.depth
    c.levels.ensures.split in
    let brick : c.args.brick.now ≡ (arc_value c.args.done).brick = sym c.requires in
    let told = matches-present (board_of c.self.inside) c.args.brick.now
    c.deref.result.now c.deref-2.result.now c.bricks_read_their_leaf.ensures.world are in
    subst (IsPresentBrick (board_of c.self.inside)) brick
    (told.0 (c.matches.ensures.0 c.if-not-matches.false))

pub invariant_of-self : goal.invariant_of-self
invariant_of-self c =
    AreParts-kept c.self.inside c.keep.new.self (arc_value c.args.done) c.self.invariant
    c.keep.ensures.fresh (present c) c.keep.ensures.done

pub returns-clause-verdict : goal.returns-clause-verdict
returns-clause-verdict c =
    let done = arc_value c.args.done in
    let P : BoardState → Type 0 = λ b.
    IsPresentBrick b done.brick
    × ChangesOnly b (board_of (record c.self.inside { leaves = c.keep.new.self })) done.brick.node
    (fresh done) in
    subst P c.self.view_is (
      present c,
      record { world = refl; marked = refl; leaves = c.keep.ensures.fresh },
    )
