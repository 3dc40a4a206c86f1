-- What is gathered is the present brick of the leaf.
use Rattle.std.proofs.Common.{◌≡◌, sym, subst}
use Rattle.std.specs.Prelude.{IfOk, IsTrue}
use Rattle.std.proofs.lemmas.Result.{IfOk-weaker}
use Rattle.field_pages.specs.Pages.{sample_at}
use Rattle.octree.specs.SplitBits.{split_at}
use Rattle.terrain.specs.Blocks.{brick}
use Rattle.terrain.specs.Levels.{IsLeaf, levels}
use Rattle.mesh_board.specs.Board.{IsBrickOf, is_leaf_of}
use Rattle.mesh_board.specs.Parts.{board_of}
use Rattle.level_laws.proofs.LeafLemmas.{leaf_test}
use Rattle.mesh_board.proofs.BoardLemmas.{AreOf, AreOf-lent, made-is}
use Rattle.mesh_board.proofs.board.Board.brick.Goals as goal

is_tested : (c : goal.After-gather) → IsTrue (is_leaf_of (board_of c.self.inside) c.args.leaf)
is_tested c = subst (λ b. IsTrue (is_leaf_of b c.args.leaf)) (sym c.self.view_is) c.requires

is_leaf : (c : goal.After-gather) → IsLeaf c.self.inside.world.settings.depth
    (levels c.self.inside.world.settings c.self.inside.world.events) c.args.leaf
is_leaf c =
    (leaf_test c.self.inside.world.settings.depth
    (levels c.self.inside.world.settings c.self.inside.world.events) c.args.leaf).0 (is_tested c)

are : (c : goal.After-gather) → AreOf c.self.inside.world.settings c.self.inside.world.events
    c.deref.result.now c.deref-2.result.now
are c =
    AreOf-lent c.self.inside.world c.version.result.now.value c.deref.result.now
    c.levels.result.now.value c.deref-2.result.now c.deref.ensures
    c.version.ensures.depth c.version.ensures.samples c.deref-2.ensures c.levels.ensures.depth
    c.levels.ensures.split

pub returns : goal.returns
returns c =
    let board = board_of c.self.inside in
    let bits = c.deref-2.result.now in
    let leaf = c.args.leaf in
    subst (λ b. IfOk c.gather.result (IsBrickOf b leaf)) c.self.view_is
    (IfOk-weaker c.gather.result
    (λ b. b ≡ brick bits.depth (sample_at c.deref.result.now) (split_at bits) leaf)
    (IsBrickOf board leaf)
    (λ b gathered.
    let made = made-is board b leaf c.deref.result.now bits
    c.bricks_read_their_leaf.ensures.world (are c) (is_leaf c).node gathered in record {
      node = made.0;
      present = record {
        leaf = subst (λ n. IsTrue (is_leaf_of board n)) (sym made.0) (is_tested c);
        same = made.1;
      };
    })
    c.gather.ensures)
