-- The block of a node is there where the node is fresh.
use Rattle.std.proofs.Common.{◌≡◌, ◌≢◌, subst}
use Rattle.std.specs.Arc.{arc_value}
use Rattle.std.specs.Prelude.{MatchOption}
use Rattle.std.proofs.lemmas.Option.{MatchOption-at_some}
use Rattle.block_mesh.specs.Done.{DoneState}
use Rattle.mesh_board.specs.LeafStates.{LeafStates, fresh, state_at}
use Rattle.mesh_board.proofs.TableLemmas.{block-found, block-there}
use Rattle.mesh_board.proofs.leaf_table.LeafTable.block.Goals as goal

pub unwrap-requires : goal.unwrap-requires
unwrap-requires c =
    let P : LeafStates → Type 0 = λ s.
    MatchOption c.get.result ((done : DoneState) → state_at s c.args.leaf ≢ fresh done)
    (λ done. state_at s c.args.leaf ≡ fresh (arc_value done.now)) in
    block-there (λ done. arc_value done.now) c.args.self.now c.args.leaf c.get.result c.requires
    (subst P c.self.view_is (block-found (λ done. arc_value done.now) c.self.inside c.args.leaf
    c.get.result c.self.invariant
    c.get.ensures))

pub returns : goal.returns
returns c =
    let P : LeafStates → Type 0 = λ s.
    MatchOption c.get.result ((done : DoneState) → state_at s c.args.leaf ≢ fresh done)
    (λ done. state_at s c.args.leaf ≡ fresh (arc_value done.now)) in
    MatchOption-at_some ((done : DoneState) → state_at c.args.self.now c.args.leaf ≢ fresh done)
    (λ done. state_at c.args.self.now c.args.leaf ≡ fresh (arc_value done.now)) c.unwrap.result
    c.unwrap.ensures
    (subst P c.self.view_is (block-found (λ done. arc_value done.now) c.self.inside c.args.leaf
    c.get.result c.self.invariant
    c.get.ensures))
