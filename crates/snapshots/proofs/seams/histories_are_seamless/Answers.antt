-- The map of a history is that of its viewpoints.
use Rattle.snapshots.proofs.SeamLemmas.{seamless-from}
use Rattle.snapshots.proofs.seams.histories_are_seamless.Goals as goal

pub returns : goal.returns
returns c = seamless-from c.maps_of_viewpoints_are_balanced.ensures c.no_crack.ensures.pairs
    c.no_crack.ensures.inside
