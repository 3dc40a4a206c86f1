-- No camera wants a node of level 0, and a level more is one box more that both have.
use Rattle.std.proofs.Common.{sym, ◌∙◌, arith}
use Rattle.octree.proofs.WantedLemmas.{lowest_unwanted}
use Rattle.octree.proofs.wanted.wants_same.Goals as goal

pub loop-level-init : goal.loop-level-init
loop-level-init c n n_in below =
    lowest_unwanted c.args.settings.now c.args.a n (omega arith)
    ∙ sym (lowest_unwanted c.args.settings.now c.args.b n (omega arith))
