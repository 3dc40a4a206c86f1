-- No product wraps, nor does the sum.
use Rattle.std.proofs.Common.{◌*ℤ◌, ◌+ℤ◌, ◌∙◌}
use Rattle.surface_normals.proofs.SlopeLemmas.{size-is, size-small, sum_fits, sum_is}
use Rattle.surface_normals.proofs.normals.weighed_sum.Goals as goal

pub overflow_add-result : goal.overflow_add-result
overflow_add-result c =
    let b = size-is c.args.b c.from.result c.unsigned_abs.result c.requires.b
    c.unsigned_abs.ensures.value c.from.ensures in
    let a = size-is c.args.a c.from-2.result c.unsigned_abs-2.result c.requires.a
    c.unsigned_abs-2.ensures.value c.from-2.ensures in
    sum_fits c.from.result c.args.near c.from-2.result c.args.far
    (size-small c.args.b c.from.result c.requires.b b) c.requires.near
    (size-small c.args.a c.from-2.result c.requires.a a) c.requires.far

pub returns : goal.returns
returns c =
    let b = size-is c.args.b c.from.result c.unsigned_abs.result c.requires.b
    c.unsigned_abs.ensures.value c.from.ensures in
    let a = size-is c.args.a c.from-2.result c.unsigned_abs-2.result c.requires.a
    c.unsigned_abs-2.ensures.value c.from-2.ensures in
    sum_is c.from.result c.args.near c.from-2.result c.args.far
    (size-small c.args.b c.from.result c.requires.b b) c.requires.near
    (size-small c.args.a c.from-2.result c.requires.a a) c.requires.far
    ∙ (λ i. (b i *ℤ c.args.near) +ℤ (a i *ℤ c.args.far))
