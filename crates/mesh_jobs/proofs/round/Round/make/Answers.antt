-- The block is of the leaf, and has its brick.
use Rattle.std.proofs.Common.{◌≡◌, ◌∙◌, ap, refl, subst, sym}
use Rattle.std.specs.Prelude.{IfOk}
use Rattle.std.specs.Arc.{arc_value}
use Rattle.std.proofs.lemmas.Result.{IfOk-weaker}
use Rattle.block_mesh.specs.Done.{DoneState}
use Rattle.field_pages.specs.Pages.{Pages, sample_at}
use Rattle.octree.specs.SplitBits.{SplitBits, split_at}
use Rattle.terrain.specs.Blocks.{Brick, brick}
use Rattle.mesh_jobs.specs.Round.{IsRoundLeaf, IsMadeOf, RoundState}
use Rattle.mesh_jobs.proofs.RoundLemmas.{made-of}
use Rattle.mesh_jobs.proofs.round.Round.make.Goals as goal

pub returns : goal.returns
returns c =
    let round : RoundState = record {
      version = c.self.inside.version.value;
      levels = c.self.inside.levels.value;
      leaves = c.self.inside.leaves.items;
    } in
    let here : Pages → SplitBits → Brick = λ pages bits.
    brick bits.depth (sample_at pages) (split_at bits) c.args.leaf in
    let same : (done : DoneState) → done.brick ≡ here c.deref.result.now c.deref-2.result.now
    → done.brick ≡ here c.self.inside.version.value c.self.inside.levels.value =
    λ done is. is ∙ ap (λ pages. here pages c.deref-2.result.now) c.deref.ensures
    ∙ ap (λ bits. here c.self.inside.version.value bits) c.deref-2.ensures in
    subst (λ r. IfOk c.leaf_block.result (λ done. IsMadeOf r (arc_value done))) c.self.view_is
    (IfOk-weaker c.leaf_block.result
    (λ done. (arc_value done).brick ≡ here c.deref.result.now c.deref-2.result.now)
    (λ done. IsMadeOf round (arc_value done))
    (λ done is. made-of round c.args.leaf (arc_value done).brick (arc_value done)
    (subst (λ r. IsRoundLeaf r c.args.leaf) (sym c.self.view_is) c.requires)
    (same (arc_value done) is) refl)
    c.leaf_block.ensures)
