-- The samples are those of the definition.
use Rattle.std.proofs.Common.{◌≡◌, refl, sym, ap, ◌∙◌, subst}
use Rattle.std.specs.Prelude.{All}
use Rattle.lattice.specs.Node.{IsNode}
use Rattle.terrain.specs.Blocks.{brick, face_samples}
use Rattle.terrain.specs.Levels.{IsBalanced, IsLeaf, rim}
use Rattle.terrain.specs.Samples.{IsSample}
use Rattle.field_pages.specs.Pages.{sample_at}
use Rattle.octree.specs.SplitBits.{split_at}
use Rattle.bricks.specs.Brick.{IsRim, over_rim}
use Rattle.bricks.proofs.BrickLemmas.{brick-from}
use Rattle.bricks.proofs.RimLemmas.{IsRim-rim, over_rim-is}
use Rattle.bricks.proofs.room.Room.gather.Goals as goal

pub fill-requires-clause-level : goal.fill-requires-clause-level
fill-requires-clause-level c = λ level.
    c.rim-rim.ensures
    ∙ (IsRim-rim c.args.levels.now.depth (split_at c.args.levels.now) c.args.leaf
    c.requires.balanced).level level

pub invariant_of-result : goal.invariant_of-result
invariant_of-result c =
    let depth : c.depth-depth.result ≡ c.args.levels.now.depth = c.depth-depth.ensures.value in
    let m = split_at c.args.levels.now in
    let s = sample_at c.args.version.now in
    let rim_is : c.rim-rim.result ≡ rim c.depth-depth.result m c.args.leaf =
    c.rim-rim.ensures ∙ ap (λ d. rim d m c.args.leaf) (sym depth) in
    let leaf = c.deref.ensures.value ∙ c.in_ok-fill.ensures.leaf in
    let faces = c.deref-2.ensures.value ∙ c.in_ok-fill.ensures.faces in
    record {
      depth = c.depth-depth.ensures.most;
      node = subst (λ d. IsNode d c.args.leaf) (sym depth) c.requires.leaf.node;
      rim = subst (λ d. IsRim d c.args.leaf c.rim-rim.result) (sym depth)
          (subst (IsRim c.args.levels.now.depth c.args.leaf) (sym c.rim-rim.ensures)
          (IsRim-rim c.args.levels.now.depth m c.args.leaf c.requires.balanced));
      leaf_range = subst (All IsSample) (sym c.deref.ensures.value)
          c.in_ok-fill.ensures.leaf_range;
      face_range = subst (All IsSample) (sym c.deref-2.ensures.value)
          c.in_ok-fill.ensures.face_range;
      source = ∣ (
        s,
        m,
        record {
          balanced = subst (λ d. IsBalanced d m) (sym depth) c.requires.balanced;
          leaf = subst (λ d. IsLeaf d m c.args.leaf) (sym depth) c.requires.leaf;
          same = brick-from _ c.depth-depth.result s m refl rim_is leaf faces;
        },
      ) ∣₁;
    }

pub returns : goal.returns
unfolding brick
returns c =
    let m = split_at c.args.levels.now in
    let f = face_samples (sample_at c.args.version.now) c.args.leaf in
    let depth = c.depth-depth.ensures.value in
    let rim_is = c.rim-rim.ensures in
    let leaf = c.deref.ensures.value ∙ c.in_ok-fill.ensures.leaf in
    let all = c.deref-2.ensures.value ∙ c.in_ok-fill.ensures.faces
    ∙ ap (λ bits. over_rim bits f) rim_is
    ∙ over_rim-is c.args.levels.now.depth m c.args.leaf f in
    λ i. record {
      depth = depth i;
      node = c.args.leaf;
      rim = rim_is i;
      samples = leaf i;
      faces = all i;
    }
