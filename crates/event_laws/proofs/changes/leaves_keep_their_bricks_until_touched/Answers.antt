-- By the law of one event, for one event after another.
use Rattle.event_laws.proofs.ChangeLemmas.{brick-untouched, leaf-untouched}
use Rattle.event_laws.proofs.changes.leaves_keep_their_bricks_until_touched.Goals as goal

pub returns : goal.returns
returns c = record {
  leaf = leaf-untouched c.untouched_leaves_keep_their_bricks.ensures.leaf;
  brick = brick-untouched c.untouched_leaves_keep_their_bricks.ensures.leaf
      c.untouched_leaves_keep_their_bricks.ensures.brick;
}
