-- Equal rims and equal samples make equal bricks.
use Rattle.std.proofs.Common.{◌≡◌, sym, ap, ◌∙◌, subst}
use Rattle.std.specs.Prelude.{◌↔◌, IsTrue}
use Rattle.std.proofs.lemmas.Bool.{false≢true}
use Rattle.terrain.specs.Blocks.{Brick, brick}
use Rattle.terrain.specs.Levels.{IsLeaf, rim}
use Rattle.field_pages.specs.Pages.{sample_at}
use Rattle.octree.specs.SplitBits.{split_at}
use Rattle.bricks.specs.Samples.{face_list, leaf_list}
use Rattle.bricks.proofs.BrickLemmas.{brick-depth, brick-face_count, brick-faces, brick-from, brick-leaf_count, brick-rim, brick-samples}
use Rattle.bricks.proofs.brick.Brick.matches.Goals as goal
use Rattle.bricks.proofs.brick.Brick.matches.Goals.{then-self-depth-via-then-self-depth, then-self-depth-via-else-self-depth+then-not-is_leaf}

pub returns-then-self-depth : goal.returns-then-self-depth
returns-then-self-depth c =
    let b = c.args.self.now in
    let depth = c.args.levels.now.depth in
    let s = sample_at c.args.version.now in
    let m = split_at c.args.levels.now in
    let depth_is : c.self.inside.depth ≡ b.depth = ap (λ (a : Brick). a.depth) c.self.view_is in
    let node_is : c.self.inside.node ≡ b.node = ap (λ (a : Brick). a.node) c.self.view_is in
    elim c.then-self-depth.branch [
      | then-self-depth-via-then-self-depth w ↦ (
        (λ t. absurd (false≢true t)),
        (λ h. absurd (w.if-self-depth.true (depth_is ∙ brick-depth b depth s m h.1
            ∙ sym c.requires.depth ∙ sym c.depth.ensures.value))),
      )
      | then-self-depth-via-else-self-depth+then-not-is_leaf w ↦ (
        (λ t. absurd (false≢true t)),
        (λ h. sym w.if-not-is_leaf.true
            ∙ w.is_leaf.ensures.fact.1 (subst (IsLeaf depth m) (sym node_is) h.0)),
      )
    ]

pub returns-then-rim-self : goal.returns-then-rim-self
returns-then-rim-self c =
    let b = c.args.self.now in
    let depth = c.args.levels.now.depth in
    let s = sample_at c.args.version.now in
    let m = split_at c.args.levels.now in
    let rim_is : c.self.inside.rim ≡ b.rim = ap (λ (a : Brick). a.rim) c.self.view_is in
    let node_is : c.self.inside.node ≡ b.node = ap (λ (a : Brick). a.node) c.self.view_is in (
      (λ t. absurd (false≢true t)),
      (λ h. absurd (c.if-rim-self.true (c.rim.ensures ∙ ap (rim depth m) node_is
          ∙ sym (brick-rim b depth s m h.1) ∙ sym rim_is))),
    )

pub has_samples-requires-clause-level : goal.has_samples-requires-clause-level
has_samples-requires-clause-level c = c.self.invariant.rim.level

pub has_samples-requires-clause-leaf_count : goal.has_samples-requires-clause-leaf_count
has_samples-requires-clause-leaf_count c = brick-leaf_count _ c.self.invariant

pub has_samples-requires-clause-face_count : goal.has_samples-requires-clause-face_count
has_samples-requires-clause-face_count c =
    brick-face_count _ (sample_at c.args.version.now) c.self.invariant

pub returns : goal.returns
returns c =
    let depth = c.args.levels.now.depth in
    let s = sample_at c.args.version.now in
    let m = split_at c.args.levels.now in
    let i = c.self.inside in
    let view : Brick = record {
      depth = i.depth;
      node = i.node;
      rim = i.rim;
      samples = leaf_list i.samples;
      faces = face_list i.rim i.samples;
    } in
    let leaf = c.is_leaf.ensures.fact.0 c.if-not-is_leaf.false in
    let depth_is : i.depth ≡ depth =
    c.if-self-depth.false ∙ c.depth.ensures.value ∙ c.requires.depth in
    let rim_is : i.rim ≡ rim depth m i.node = sym c.if-rim-self.false ∙ c.rim.ensures in
    subst (λ (b : Brick). IsTrue c.has_samples.result
    ↔ (IsLeaf depth m b.node × (b ≡ brick depth s m b.node))) c.self.view_is (
      (λ on.
          let are = c.has_samples.ensures.0 on in
          (leaf, brick-from view depth s m depth_is rim_is are.leaf are.faces)),
      (λ h. c.has_samples.ensures.1 (record {
        leaf = brick-samples view depth s m h.1;
        faces = brick-faces view depth s m h.1;
      })),
    )
