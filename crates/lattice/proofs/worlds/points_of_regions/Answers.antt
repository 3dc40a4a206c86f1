-- The test has one part for each bound.
use Rattle.lattice.proofs.TestLemmas.{region_test, region_inside}
use Rattle.lattice.proofs.worlds.points_of_regions.Goals as goal

pub returns : goal.returns
returns c = record { test = region_test; world = region_inside }
