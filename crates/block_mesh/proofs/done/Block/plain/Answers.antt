-- Such a leaf has a brick whose lists have one sign, and so no triangles.
use Rattle.std.proofs.Common.{subst}
use Rattle.terrain.specs.Levels.{LevelMap}
use Rattle.terrain.specs.Samples.{Field, IsSample}
use Rattle.lattice.specs.declared.point.Point.{Point}
use Rattle.lattice.specs.Point.{IsInWorld}
use Rattle.lattice.specs.Settings.{IsDepth}
use Rattle.field_pages.specs.Pages.{sample_at}
use Rattle.octree.specs.SplitBits.{split_at}
use Rattle.block_mesh.proofs.PlainLemmas.{IsDone-plain, node-of}
use Rattle.block_mesh.proofs.done.Block.plain.Goals as goal

pub invariant_of-block : goal.invariant_of-block
invariant_of-block c =
    let bits = c.args.levels.now in
    let depth = bits.depth in
    let s : Field = sample_at c.args.version.now in
    let m : LevelMap = split_at bits in
    let n = c.args.leaf in
    let allowed : IsDepth depth = subst IsDepth c.depth.ensures.value c.depth.ensures.most in
    let corner = c.nodes_of_worlds.ensures.corner depth n c.requires.leaf.node in
    let range : (p : Point) → IsInWorld depth p → IsSample (s p) =
    subst (λ d. (p : Point) → IsInWorld d p → IsSample (s p)) c.requires.depth
    c.sample.ensures.samples in (
      IsDone-plain depth s m n c.requires.balanced c.requires.leaf allowed corner range
          c.requires.plain c.seen_brick.result.value c.empty.result c.seen_brick.ensures
          c.empty.ensures,
      node-of s m depth n c.seen_brick.result.value c.seen_brick.ensures,
    )
