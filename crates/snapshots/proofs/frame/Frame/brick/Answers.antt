-- What is gathered is the history's brick of the leaf.
use Rattle.std.proofs.Common.{◌≡◌, ◌∙◌, subst, sym}
use Rattle.std.proofs.lemmas.Result.{IfOk-weaker}
use Rattle.field_pages.specs.Pages.{sample_at}
use Rattle.octree.specs.SplitBits.{split_at}
use Rattle.terrain.specs.Blocks.{brick}
use Rattle.terrain.specs.Levels.{IsBalanced, IsLeaf, levels}
use Rattle.event_laws.specs.Changes.{brick_after}
use Rattle.snapshots.proofs.OpeningLemmas.{brick_held}
use Rattle.snapshots.proofs.frame.Frame.brick.Goals as goal

pub gather-requires-clause-leaf : goal.gather-requires-clause-leaf
gather-requires-clause-leaf c =
    let frame = c.args.self.now in
    let bits = c.levels.result.now in
    let leaf = c.args.leaf in
    subst (λ d. IsLeaf d (split_at bits) leaf) (sym c.levels.ensures.depth)
    (subst (λ m. IsLeaf frame.settings.depth m leaf) (λ t n. sym (c.levels.ensures.split n) t)
    c.requires.leaf)

pub gather-requires-clause-balanced : goal.gather-requires-clause-balanced
gather-requires-clause-balanced c =
    subst (λ d. IsBalanced d (split_at c.levels.result.now)) (sym c.levels.ensures.depth)
    c.levels.ensures.balanced

pub returns : goal.returns
returns c =
    let frame = c.args.self.now in
    let pages = c.version.result.now in
    let bits = c.levels.result.now in
    let leaf = c.args.leaf in
    IfOk-weaker c.gather.result
    (λ b. b ≡ brick bits.depth (sample_at pages) (split_at bits) leaf)
    (λ b. b ≡ brick_after frame.settings frame.events leaf)
    (λ b gathered. gathered
    ∙ brick_held frame.settings frame.events pages bits leaf
    (λ s same. c.bricks_read_their_leaf.ensures.world frame.settings frame.events s leaf
    c.requires.leaf.node same)
    c.version.ensures.depth c.version.ensures.samples c.levels.ensures.depth c.levels.ensures.split)
    c.gather.ensures
