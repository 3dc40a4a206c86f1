-- Its slots are those of the patched frame.
use Rattle.snapshots.proofs.AbsorbedLemmas.{absorbed-leads, absorbed-sound}
use Rattle.snapshots.proofs.absorbing.frames_absorb_patches.Goals as goal

pub returns-clause-leads : goal.returns-clause-leads
returns-clause-leads c =
    absorbed-leads c.leaves_keep_their_bricks_until_touched.ensures.leaf
    c.leaves_keep_their_bricks_until_touched.ensures.brick

pub returns-clause-sound : goal.returns-clause-sound
returns-clause-sound c =
    absorbed-sound c.leaves_keep_their_bricks_until_touched.ensures.leaf
    c.leaves_keep_their_bricks_until_touched.ensures.brick
