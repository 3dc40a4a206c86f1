-- The brick of a leaf is of that leaf.
use Rattle.field_pages.specs.Pages.{sample_at}
use Rattle.octree.specs.SplitBits.{split_at}
use Rattle.block_mesh.proofs.PlainLemmas.{node-of}
use Rattle.block_mesh.proofs.bench.Bench.leaf_block.Goals as goal

pub join-requires-clause-node : goal.join-requires-clause-node
join-requires-clause-node c =
    let levels = c.args.levels.now in
    node-of (sample_at c.args.version.now) (split_at levels) levels.depth c.args.leaf
    c.seen_brick.result.value c.seen_brick.ensures
