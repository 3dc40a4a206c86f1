-- A whole row is the row.
use Rattle.std.proofs.Common.{◌<◌, List, ℤ, length, drop, take, ◌∙◌, arith}
use Rattle.std.proofs.lemmas.List.{get_or-take, get_or_append_left, length-take}
use Rattle.std.specs.Int.{int_min}
use Rattle.terrain.specs.declared.brush.TheConstants.{MAX_SAMPLE}
use Rattle.brushes.proofs.fill_carve.fill_row.Goals as goal

pub fill-requires : goal.fill-requires
fill-requires c =
    omega (arith, length-take 16 c.args.row.now, length-take 16 c.args.values.now)

pub returns-then-row-whole : goal.returns-then-row-whole
returns-then-row-whole c t t_in =
    let row : List ℤ = c.args.row.now in
    let values : List ℤ = c.args.values.now in
    let new : List ℤ = c.fill.new.row in
    let made : ℤ → ℤ → ℤ = λ old v. int_min old v in
    let within : t < 16 = omega arith in
    let there : t < length (take 16 row) = omega (arith, t_in, within, length-take 16 row) in
    let there_new : t < length new = omega (arith, there, c.fill.auto.row) in
    get_or_append_left new (drop 16 row) MAX_SAMPLE t there_new ∙ c.fill.ensures t there
    ∙ (λ i. made (get_or-take 16 row t MAX_SAMPLE within i)
    (get_or-take 16 values t MAX_SAMPLE within i))
