-- A whole row is the row.
use Rattle.std.proofs.Common.{◌<◌, List, ℤ, length, drop, take, ◌∙◌, arith}
use Rattle.std.proofs.lemmas.List.{get_or_append_left, length-take}
use Rattle.terrain.specs.declared.brush.TheConstants.{MAX_SAMPLE}
use Rattle.brushes.proofs.shape.copy_row.Goals as goal

pub returns-then-values-whole : goal.returns-then-values-whole
returns-then-values-whole c t t_in =
    let values : List ℤ = c.args.values.now in
    let new : List ℤ = c.copy.new.values in
    let there : t < length (take 16 values) = omega (arith, t_in, length-take 16 values) in
    let there_new : t < length new = omega (arith, there, c.copy.auto.values) in
    get_or_append_left new (drop 16 values) MAX_SAMPLE t there_new ∙ c.copy.ensures t there
