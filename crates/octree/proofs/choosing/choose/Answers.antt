-- Each level is grown from the one below, and the last has the whole map.
use Rattle.std.proofs.Common.{arith}
use Rattle.octree.specs.SplitBits.{split_at}
use Rattle.octree.proofs.GrownLemmas.{grown_first, grown_last, has_choice}
use Rattle.octree.proofs.choosing.choose.Goals as goal

pub loop-level-init : goal.loop-level-init
loop-level-init c =
    grown_first c.args.settings.now c.args.cameras.now c.in_ok-levels.levels
    c.in_ok-levels.ensures.depth c.in_ok-levels.ensures.none

pub returns : goal.returns
returns c =
    let settings = c.args.settings.now in
    let points = c.args.cameras.now in
    let levels = c.loop-level.levels in
    let each = grown_last settings points c.loop-level.level levels (omega arith)
    c.loop-level.invariant in
    let choice = has_choice settings points (split_at levels) each in
    record {
      depth = c.loop-level.invariant.depth;
      split = each;
      balanced = choice.balanced;
      wanted = choice.wanted;
      least = choice.least;
    }
