-- The nodes above those of the level below are split, and then the wanted ones.
use Rattle.octree.proofs.GrownLemmas.{grown_next}
use Rattle.octree.proofs.choosing.split_level.Goals as goal

pub returns : goal.returns
returns c =
    grown_next c.args.settings.now c.args.cameras.now c.args.level c.requires.low c.requires.high
    c.args.levels.now c.split_above.new.levels c.split_wanted.new.levels c.requires.grown
    c.split_above.ensures c.split_wanted.ensures
