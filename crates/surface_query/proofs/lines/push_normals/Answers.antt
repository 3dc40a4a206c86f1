-- The brick that is gathered has the field's samples of the leaf.
use Rattle.terrain.specs.History.{sample}
use Rattle.terrain.specs.Levels.{levels}
use Rattle.surface_normals.proofs.InnerLemmas.{brick-has}
use Rattle.surface_query.proofs.lines.push_normals.Goals as goal

pub push_normals_beside-requires-clause-brick : goal.push_normals_beside-requires-clause-brick
push_normals_beside-requires-clause-brick c =
    let frame = c.args.frame.now in
    brick-has frame.settings.depth (sample frame.settings frame.events)
    (levels frame.settings frame.events) c.args.leaf c.in_ok-brick.brick c.requires.leaf.node
    c.in_ok-brick.ensures
