-- A whole row is the row.
use Rattle.std.proofs.Common.{rules, ◌<◌, List, ℤ, length, drop, take, get_or, ap, ◌∙◌, arith, SFits, w8}
use Rattle.std.proofs.lemmas.Int.{to_z-of_z}
use Rattle.std.proofs.lemmas.List.{get_or-replicate, get_or_append_left, length-take}
use Rattle.terrain.specs.declared.brush.TheConstants.{MAX_SAMPLE}
use Rattle.brushes.proofs.fill_carve.make_all.Goals as goal

pub returns-then-row-whole : goal.returns-then-row-whole
returns-then-row-whole c t t_in =
    let row : List ℤ = c.args.row.now in
    let new : List ℤ = c.fill.new.self in
    let sample : ℤ = c.args.sample in
    let fits : SFits w8 sample = search rules in
    let there : t < length (take 16 row) = omega (arith, t_in, length-take 16 row) in
    let there_new : t < length new = omega (arith, there, c.fill.auto.self) in
    get_or_append_left new (drop 16 row) MAX_SAMPLE t there_new
    ∙ ap (λ xs. get_or xs t MAX_SAMPLE) (c.fill.ensures.after (λ y same. same))
    ∙ get_or-replicate (length (take 16 row)) t _ MAX_SAMPLE there ∙ to_z-of_z w8 sample fits

pub returns-else-row-whole : goal.returns-else-row-whole
returns-else-row-whole c t t_in =
    let sample : ℤ = c.args.sample in
    let fits : SFits w8 sample = search rules in
    ap (λ xs. get_or xs t MAX_SAMPLE) (c.fill-else-row-whole.ensures.after (λ y same. same))
    ∙ get_or-replicate (length c.args.row.now) t _ MAX_SAMPLE t_in ∙ to_z-of_z w8 sample fits
