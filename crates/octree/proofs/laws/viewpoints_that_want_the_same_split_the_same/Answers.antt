-- Each of the two maps splits what the others want, and each is the least that does.
use Rattle.octree.proofs.GrownLemmas.{same_wants_split_same}
use Rattle.octree.proofs.laws.viewpoints_that_want_the_same_split_the_same.Goals as goal

pub returns : goal.returns
returns c = same_wants_split_same
