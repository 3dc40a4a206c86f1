-- The signs of twice sixteen samples and of the last are those of the row.
use Rattle.std.proofs.Common.{◌-◌, arith, drop, length, length-take, take}
use Rattle.std.proofs.lemmas.List.Elements.{All-drop, All-take}
use Rattle.terrain.specs.Samples.{IsSample}
use Rattle.block_mesh.proofs.LaneSigns.{fine_row-parts}
use Rattle.block_mesh.proofs.SignLemmas.{signs-below}
use Rattle.block_mesh.proofs.signs.fine_row_signs.Goals as goal

pub sixteen_signs-requires-2-clause-range : goal.sixteen_signs-requires-2-clause-range
sixteen_signs-requires-2-clause-range c =
    All-take IsSample (length c.args.row.now - 16) (drop 16 c.args.row.now)
    (All-drop IsSample 16 c.args.row.now c.requires.range)

pub overflow_add-result : goal.overflow_add-result
overflow_add-result c =
    let row = c.args.row.now in
    let high = take (length row - 16) (drop 16 row) in
    record {
      fits =
          omega (
            arith,
            c.sixteen_signs.ensures,
            signs-below (take 16 row) 16 (omega (arith, length-take 16 row)),
            c.sixteen_signs-2.ensures,
            signs-below (take 16 high) 16 (omega (arith, length-take 16 high)),
          );
    }

pub overflow_add-result-2 : goal.overflow_add-result-2
overflow_add-result-2 c =
    let p = fine_row-parts c.args.row.now c.sixteen_signs.result c.sixteen_signs-2.result
    c.from.result c.requires.count c.requires.range c.sixteen_signs.ensures
    c.sixteen_signs-2.ensures c.from.ensures in
    record { fits = omega (arith, p.1, p.2, p.3) }

pub returns : goal.returns
returns c =
    let p = fine_row-parts c.args.row.now c.sixteen_signs.result c.sixteen_signs-2.result
    c.from.result c.requires.count c.requires.range c.sixteen_signs.ensures
    c.sixteen_signs-2.ensures c.from.ensures in
    omega (arith, p.0, p.2, p.3)
