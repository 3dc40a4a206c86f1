-- A whole row is the row.
use Rattle.std.proofs.Common.{◌<◌, List, ℤ, neg_ℤ, length, drop, subst, sym, take, ◌∙◌, arith}
use Rattle.std.proofs.lemmas.List.{get_or-take, get_or_append_left, length-take}
use Rattle.std.specs.Int.{int_max}
use Rattle.terrain.specs.declared.brush.TheConstants.{MAX_SAMPLE}
use Rattle.terrain.specs.Samples.{IsSample}
use Rattle.brushes.proofs.fill_carve.carve_row.Goals as goal

pub carve-requires-clause-range : goal.carve-requires-clause-range
carve-requires-clause-range c t t_in =
    let values = c.args.values.now in
    let within : t < 16 = omega (arith, t_in, length-take 16 values) in
    let there : t < length values = omega (arith, t_in, length-take 16 values) in
    subst IsSample (sym (get_or-take 16 values t MAX_SAMPLE within)) (c.requires.range t there)

pub carve-requires-clause-len : goal.carve-requires-clause-len
carve-requires-clause-len c =
    omega (arith, length-take 16 c.args.row.now, length-take 16 c.args.values.now)

pub returns-then-row-whole : goal.returns-then-row-whole
returns-then-row-whole c t t_in =
    let row : List ℤ = c.args.row.now in
    let values : List ℤ = c.args.values.now in
    let new : List ℤ = c.carve.new.row in
    let made : ℤ → ℤ → ℤ = λ old v. int_max old (neg_ℤ v) in
    let within : t < 16 = omega arith in
    let there : t < length (take 16 row) = omega (arith, t_in, within, length-take 16 row) in
    let there_new : t < length new = omega (arith, there, c.carve.auto.row) in
    get_or_append_left new (drop 16 row) MAX_SAMPLE t there_new ∙ c.carve.ensures t there
    ∙ (λ i. made (get_or-take 16 row t MAX_SAMPLE within i)
    (get_or-take 16 values t MAX_SAMPLE within i))
