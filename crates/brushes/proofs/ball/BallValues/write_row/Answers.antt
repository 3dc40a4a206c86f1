-- The item at a place is the value at its square distance, or at the nearest one that the list has.
use Rattle.std.proofs.Common.{◌<◌, get_or, ap, sym, subst, ◌∙◌, arith}
use Rattle.terrain.specs.declared.brush.TheConstants.{MAX_SAMPLE}
use Rattle.field_pages.specs.declared.page.TheConstants.{SIDE}
use Rattle.terrain.specs.Samples.{clamped_sample}
use Rattle.brushes.specs.BallValues.{AreBallValues, row_square}
use Rattle.brushes.specs.Values.{value_at_square}
use Rattle.brushes.proofs.BallLemmas.{value_at-square}
use Rattle.brushes.proofs.ball.BallValues.write_row.Goals as goal

pub look_up_row-requires-clause-within : goal.look_up_row-requires-clause-within
look_up_row-requires-clause-within c = λ t t_side.
    let values = c.as_slice-by_square.result.now in
    let r = c.self.inside.r in
    let first = c.self.inside.first in
    let are : AreBallValues r first values =
    subst (AreBallValues r first) (sym c.as_slice-by_square.ensures.value) c.self.invariant in
    let some = are.some in
    omega (arith, c.row_places-places.ensures t t_side, some)

pub returns : goal.returns
returns c = λ t t_in.
    let values = c.as_slice-by_square.result.now in
    let r = c.self.inside.r in
    let first = c.self.inside.first in
    let square = row_square c.args.across c.args.x c.args.centre t in
    let are : AreBallValues r first values =
    subst (AreBallValues r first) (sym c.as_slice-by_square.ensures.value) c.self.invariant in
    let t_side : t < SIDE = omega arith in
    c.look_up_row.ensures t t_in
    ∙ ap (λ n. get_or values n MAX_SAMPLE) (c.row_places-places.ensures t t_side)
    ∙ value_at-square r first square values are
    ∙ ap (λ r. clamped_sample (value_at_square r square)) c.self.view_is
