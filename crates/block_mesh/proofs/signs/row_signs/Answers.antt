-- The signs of sixteen samples and of the last are those of the row.
use Rattle.std.proofs.Common.{arith}
use Rattle.block_mesh.proofs.LaneSigns.{row-parts}
use Rattle.block_mesh.proofs.signs.row_signs.Goals as goal

pub overflow_add-result : goal.overflow_add-result
overflow_add-result c =
    let p = row-parts c.args.row.now c.sixteen_signs.result c.from.result c.requires.count
    c.requires.range c.sixteen_signs.ensures c.from.ensures in
    record { fits = omega (arith, p.1, p.2) }

pub returns : goal.returns
returns c =
    let p = row-parts c.args.row.now c.sixteen_signs.result c.from.result c.requires.count
    c.requires.range c.sixteen_signs.ensures c.from.ensures in
    omega (arith, p.0, p.2)
