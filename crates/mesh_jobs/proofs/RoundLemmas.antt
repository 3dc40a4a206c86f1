-- What is made in a round of a board is present there.
-- A round has the board's field and level map, which are those of the journal. So a block that is made of them has the
-- present brick of its leaf (`made-present`), as one that `deliver` finds to match.
use Rattle.std.proofs.Common.{◌≡◌, ◌∙◌, sym, ap, subst}
use Rattle.event_laws.specs.Laws.{WorldsGiveBricks}
use Rattle.field_pages.specs.Pages.{HoldsField, Pages, sample_at}
use Rattle.lattice.specs.declared.node.Node.{Node}
use Rattle.octree.specs.SplitBits.{SplitBits, split_at}
use Rattle.terrain.specs.Blocks.{Brick, brick}
use Rattle.terrain.specs.History.{sample}
use Rattle.terrain.specs.Levels.{levels}
use Rattle.terra_events.specs.World.{WorldState}
use Rattle.block_mesh.specs.Done.{DoneState}
use Rattle.mesh_board.specs.Board.{BoardState, IsPresentBrick}
use Rattle.mesh_jobs.specs.Round.{IsRoundLeaf, IsMadeOf, IsRoundOf, RoundState}
use Rattle.mesh_board.proofs.BoardLemmas.{AreOf, AreOf-lent, matches-present}

-- a round of a board is one of each board of the same world
pub round-there : (old new : BoardState) (round : RoundState) → new.world ≡ old.world
    → IsRoundOf old round → IsRoundOf new round
round-there old new round same is = record {
  version = is.version ∙ ap (λ (w : WorldState). w.version) (sym same);
  levels = is.levels ∙ ap (λ (w : WorldState). w.levels) (sym same);
}

-- a block of a leaf's brick is one of the round
pub made-of : (round : RoundState) (leaf : Node) (gathered : Brick) (done : DoneState)
    → IsRoundLeaf round leaf
    → gathered ≡ brick round.levels.depth (sample_at round.version) (split_at round.levels) leaf
    → done.brick ≡ gathered → IsMadeOf round done
unfolding brick
made-of round leaf gathered done is_leaf is same =
    let made = same ∙ is in
    let at : done.brick.node ≡ leaf = ap (λ (b : Brick). b.node) made in record {
      leaf = subst (IsRoundLeaf round) (sym at) is_leaf;
      same = made ∙ ap (λ n. brick round.levels.depth (sample_at round.version)
          (split_at round.levels) n) (sym at);
    }

-- a block of a round has a present brick, by the field and the level map that the world lends
pub made-present : (board : BoardState) (world : WorldState) (pages : Pages) (bits : SplitBits)
    (round : RoundState) (done : DoneState) → WorldsGiveBricks → world ≡ board.world
    → pages ≡ world.version → pages.depth ≡ world.settings.depth
    → HoldsField pages (sample world.settings world.events) → bits ≡ world.levels
    → bits.depth ≡ world.settings.depth
    → ((n : Node) → split_at bits n ≡ levels world.settings world.events n)
    → IsRoundOf board round → IsMadeOf round done → IsPresentBrick board done.brick
made-present board world pages bits round done give same is_pages field_depth field is_bits
    map_depth map of made =
    let lent : AreOf world.settings world.events round.version round.levels =
    AreOf-lent world pages round.version bits round.levels
    (of.version ∙ ap (λ (w : WorldState). w.version) (sym same) ∙ sym is_pages) field_depth field
    (of.levels ∙ ap (λ (w : WorldState). w.levels) (sym same) ∙ sym is_bits) map_depth map in
    let are = subst (λ (w : WorldState). AreOf w.settings w.events round.version round.levels)
    same lent in
    (matches-present board done.brick round.version round.levels give are).0
    (made.leaf, made.same)
