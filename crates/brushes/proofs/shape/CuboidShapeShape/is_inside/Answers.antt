-- A point that is deep inside on each axis has the least value.
use Rattle.std.proofs.Common.{rules}
use Rattle.brushes.proofs.ShapeLemmas.{cuboid-deep}
use Rattle.brushes.proofs.shape.CuboidShapeShape.is_inside.Goals as goal
use Rattle.brushes.proofs.shape.CuboidShapeShape.is_inside.Goals.{then-is_deep, else-is_deep}

pub returns-then-is_deep-2 : goal.returns-then-is_deep-2
returns-then-is_deep-2 c told p within =
    elim c.if-is_deep.branch [
      | then-is_deep w ↦
          cuboid-deep c.args.self.now.lo c.args.self.now.hi p
          (c.is_deep.ensures w.if-is_deep.true p.z within.z within.z_end)
          (w.is_deep-then-is_deep.ensures (search rules) p.y within.y within.y_end)
          (c.is_deep-then-is_deep-2.ensures told p.x within.x within.x_end)
      | else-is_deep w ↦ search rules
    ]
