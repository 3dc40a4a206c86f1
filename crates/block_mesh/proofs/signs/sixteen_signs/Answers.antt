-- The lanes below 0 are those of solid samples.
use Rattle.std.proofs.Common.{arith, length-take, take}
use Rattle.std.proofs.lemmas.List.Elements.{All-take}
use Rattle.terrain.specs.Samples.{IsSample}
use Rattle.block_mesh.proofs.LaneSigns.{mask-signs}
use Rattle.block_mesh.proofs.signs.sixteen_signs.Goals as goal

pub returns : goal.returns
returns c =
    mask-signs (take 16 c.args.row.now)
    (omega (arith, length-take 16 c.args.row.now, c.requires.count))
    (All-take IsSample 16 c.args.row.now c.requires.range)
