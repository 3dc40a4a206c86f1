-- The code's numbers fit, so they are the definition's.
use Rattle.std.proofs.Common.{◌≤◌, ◌∙◌, arith}
use Rattle.std.proofs.lemmas.Int.{ints}
use Rattle.vertex_places.specs.Bounds.{MOST}
use Rattle.vertex_places.proofs.BetweenLemmas.{product_fits, quotient, sum_fits, sum_is}
use Rattle.vertex_places.proofs.places.between.Goals as goal

pub overflow_mul-q : goal.overflow_mul-q
overflow_mul-q c =
    let r = c.requires in
    let a : c.args.a ≤ 127 = omega (arith, ints, r.a) in
    let b : c.args.b ≤ 127 = omega (arith, ints, r.b) in
    product_fits c.args.p c.args.q c.args.a c.args.b MOST r.p r.q a b r.some (omega arith)
    c.from-a.result c.from-a.ensures

pub overflow_add-p : goal.overflow_add-p
overflow_add-p c =
    let r = c.requires in
    let a : c.args.a ≤ 127 = omega (arith, ints, r.a) in
    let b : c.args.b ≤ 127 = omega (arith, ints, r.b) in
    let is =
    quotient c.args.p c.args.q c.args.a c.args.b MOST r.p r.q a b r.some (omega arith)
    c.div_euclid.result c.from-a.result c.from-b.result c.from-a.ensures c.from-b.ensures
    c.div_euclid.ensures in
    sum_fits c.args.p c.args.q c.args.a c.args.b MOST r.p r.q a b r.some (omega arith)
    c.div_euclid.result is

pub returns : goal.returns
returns c =
    let r = c.requires in
    let a : c.args.a ≤ 127 = omega (arith, ints, r.a) in
    let b : c.args.b ≤ 127 = omega (arith, ints, r.b) in
    let is =
    quotient c.args.p c.args.q c.args.a c.args.b MOST r.p r.q a b r.some (omega arith)
    c.div_euclid.result c.from-a.result c.from-b.result c.from-a.ensures c.from-b.ensures
    c.div_euclid.ensures in
    c.unsigned_abs.ensures.value
    ∙ sum_is c.args.p c.args.q c.args.a c.args.b MOST r.p r.q a b r.some (omega arith)
    c.div_euclid.result is
