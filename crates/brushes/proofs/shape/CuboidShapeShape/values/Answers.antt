-- The values of a row are the box's.
use Rattle.std.proofs.Common.{◌<◌, ◌/◌, ◌-ℤ◌, ◌*ℤ◌, ◌+◌, ℕ, pos, ap, ◌∙◌, arith}
use Rattle.std.specs.Int.{int_max}
use Rattle.field_pages.specs.declared.page.TheConstants.{SIDE}
use Rattle.terrain.specs.declared.brush.TheConstants.{SUBCELLS}
use Rattle.terrain.specs.Samples.{clamped_sample}
use Rattle.brushes.proofs.ShapeLemmas.{apart_is}
use Rattle.brushes.proofs.shape.CuboidShapeShape.values.Goals as goal

pub returns : goal.returns
returns c = λ t t_in.
    let shape = c.args.self.now in
    let x : ℕ = c.args.from.x + t in
    let t_side : t < SIDE = omega (arith, t_in) in
    let along = int_max (pos shape.lo.x -ℤ pos x) (pos x -ℤ pos shape.hi.x) in
    let across_is = apart_is c.greater-across.result c.greater-across.ensures.near
    ∙ c.greater-across.ensures.value
    ∙ (λ i. int_max
    ((apart_is c.beyond.result c.beyond.ensures.near ∙ c.beyond.ensures.value) i)
    ((apart_is c.beyond-2.result c.beyond-2.ensures.near ∙ c.beyond-2.ensures.value) i)) in
    c.copy_row.ensures t t_in ∙ c.row_values.ensures t t_side
    ∙ ap (λ o. clamped_sample ((pos SUBCELLS *ℤ int_max along o) -ℤ pos (SUBCELLS / 2)))
    across_is
