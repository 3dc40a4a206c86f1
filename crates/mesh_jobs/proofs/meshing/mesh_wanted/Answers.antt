-- Each turn makes and keeps the block of a leaf that was wanted.
use Rattle.std.proofs.Common.{◌≡◌, ◌≢◌, ◌∙◌, refl, subst}
use Rattle.std.specs.Arc.{arc_value}
use Rattle.std.specs.Prelude.{MatchOption}
use Rattle.block_mesh.specs.Done.{DoneState}
use Rattle.lattice.specs.declared.node.Node.{Node}
use Rattle.mesh_board.specs.Board.{BoardState, Takes, state_of}
use Rattle.mesh_board.specs.LeafStates.{wanted}
use Rattle.mesh_jobs.proofs.SettleLemmas.{fewer-wanted, fresh-same, marked-same, none-out, present, world-same}
use Rattle.mesh_jobs.proofs.meshing.mesh_wanted.Goals as goal

pub keep_present-requires : goal.keep_present-requires
keep_present-requires c =
    let old = c.loop-block.board in
    let took = c.take_block.new.self in
    let takes = subst (λ o. MatchOption o
    (((n : Node) → state_of old n ≢ wanted) × (took ≡ old))
    (λ block. Takes old took (arc_value {X = DoneState} block).brick))
    c.in-Some.is c.in_ok-block.ensures.taken in
    present old took (arc_value c.in-Some.block).brick takes

pub loop-block-smaller : goal.loop-block-smaller
loop-block-smaller c =
    let old = c.loop-block.board in
    let took = c.take_block.new.self in
    let takes = subst (λ o. MatchOption o
    (((n : Node) → state_of old n ≢ wanted) × (took ≡ old))
    (λ block. Takes old took (arc_value {X = DoneState} block).brick))
    c.in-Some.is c.in_ok-block.ensures.taken in
    let block = arc_value c.in-Some.block in
    fewer-wanted old took c.keep_present.new.self block.brick block takes refl
    c.keep_present.ensures

pub loop-block-preserved : goal.loop-block-preserved
loop-block-preserved c =
    let old = c.loop-block.board in
    let took = c.take_block.new.self in
    let new = c.keep_present.new.self in
    let block = arc_value c.in-Some.block in
    let changes = c.keep_present.ensures in
    let so_far = c.loop-block.invariant in
    let takes = subst (λ o. MatchOption o
    (((n : Node) → state_of old n ≢ wanted) × (took ≡ old))
    (λ block. Takes old took (arc_value {X = DoneState} block).brick))
    c.in-Some.is c.in_ok-block.ensures.taken in record {
      world = world-same old took new block.brick block takes refl changes ∙ so_far.world;
      marked = marked-same old took new block.brick block takes refl changes ∙ so_far.marked;
      fresh_ = λ n d is. fresh-same old took new block.brick block takes refl changes n d
          (so_far.fresh_ n d is);
      none_out = none-out old took new block.brick block takes refl changes so_far.none_out;
    }
