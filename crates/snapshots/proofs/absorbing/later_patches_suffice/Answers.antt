-- A leaf that the later patch doesn't put was never touched.
use Rattle.snapshots.proofs.AbsorbedLemmas.{last_alone, later_alone}
use Rattle.snapshots.proofs.absorbing.later_patches_suffice.Goals as goal

pub returns-clause-two : goal.returns-clause-two
returns-clause-two c = λ frame patch later rest fits fits_later more few.
    later_alone c.leaves_keep_their_bricks_until_touched.ensures.leaf
    c.leaves_keep_their_bricks_until_touched.ensures.brick frame patch later rest fits fits_later
    more few

pub returns-clause-pending : goal.returns-clause-pending
returns-clause-pending c =
    last_alone c.leaves_keep_their_bricks_until_touched.ensures.leaf
    c.leaves_keep_their_bricks_until_touched.ensures.brick
