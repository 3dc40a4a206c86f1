-- The table's entry is the reciprocal of the samples' sum.
use Rattle.std.proofs.Common.{◌≡◌, ℕ, ◌+◌, ◌-◌, ◌*◌, ◌/◌, ◌%◌, ◌<◌, ◌≤◌, ◌^◌, get_or, sym, ap, ◌∙◌, subst, arith, Fits, w64}
use Rattle.std.proofs.Math.Nat.{mod-eq_of_lt, mul-le-mul, mul_right_comm}
use Rattle.std.proofs.Math.Pow.{pow_mono}
use Rattle.std.proofs.lemmas.Int.{ints}
use Rattle.lattice.specs.declared.point.TheConstants.{UNITS}
use Rattle.lattice.specs.declared.settings.TheConstants.{MAX_DEPTH}
use Rattle.vertex_places.specs.declared.places.TheConstants.{RECIPROCALS}
use Rattle.vertex_places.proofs.PlaceLemmas.{side-most}
use Rattle.vertex_places.proofs.Reciprocals.{IsReciprocal, part-most, part-of_cells, part-of_side, product-fits, reciprocal-in_table}
use Rattle.vertex_places.proofs.places.part_of_side.Goals as goal

abbrev entry : ℕ → ℕ
entry n = get_or RECIPROCALS n 0

is_small : (a b : ℕ) → a ≤ 127 → b ≤ 127 → 0 < a + b → IsReciprocal (a + b) (entry (a + b))
is_small a b ha hb some = reciprocal-in_table (a + b) some (omega arith)

-- the numbers of the code
cells_are : (c : goal.After-from-4) → c.from-cells.result ≡ c.args.a * 2 ^ c.args.level
cells_are c =
    let a : c.args.a ≤ 127 = omega (arith, ints, c.requires.a) in
    let most : 2 ^ c.args.level ≤ 2 ^ MAX_DEPTH = pow_mono c.requires.level in
    let product : c.args.a * 2 ^ c.args.level ≤ 127 * 2 ^ MAX_DEPTH = mul-le-mul a most in
    c.from-cells.ensures ∙ ap (λ n. n * 2 ^ c.args.level % 2 ^ 32) c.from-3.ensures
    ∙ mod-eq_of_lt (omega (arith, product))

reciprocal_is : (c : goal.After-from-4) → c.from-4.result ≡ entry (c.args.a + c.args.b)
reciprocal_is c = c.from-4.ensures ∙ (λ i. entry (c.from.ensures i + c.from-2.ensures i))

-- what is shifted
product_is : (c : goal.After-from-4) → c.from-cells.result * c.from-4.result
    ≡ c.args.a * 2 ^ c.args.level * entry (c.args.a + c.args.b)
product_is c = λ i. cells_are c i * reciprocal_is c i

product_fits : (c : goal.After-from-4)
    → c.args.a * 2 ^ c.args.level * entry (c.args.a + c.args.b) < 2 ^ 36
product_fits c =
    let a : c.args.a ≤ 127 = omega (arith, ints, c.requires.a) in
    let b : c.args.b ≤ 127 = omega (arith, ints, c.requires.b) in
    let some = c.requires.some in
    let fits = product-fits c.args.a c.args.b _ a b some (is_small c.args.a c.args.b a b some) in
    let most : 2 ^ c.args.level ≤ 2 ^ MAX_DEPTH = pow_mono c.requires.level in
    let part : c.args.a * entry (c.args.a + c.args.b) ≤ 2 ^ 30 - 1 = omega (arith, fits) in
    let whole : c.args.a * entry (c.args.a + c.args.b) * 2 ^ c.args.level
    ≤ (2 ^ 30 - 1) * 2 ^ MAX_DEPTH = mul-le-mul part most in
    omega (arith, whole, mul_right_comm c.args.a (2 ^ c.args.level) (entry (c.args.a + c.args.b)))

value_is : (c : goal.After-from-4) → c.from-cells.result * c.from-4.result / 2 ^ 21
    ≡ UNITS * 2 ^ c.args.level * c.args.a / (c.args.a + c.args.b)
value_is c =
    let a : c.args.a ≤ 127 = omega (arith, ints, c.requires.a) in
    let b : c.args.b ≤ 127 = omega (arith, ints, c.requires.b) in
    let some = c.requires.some in
    let level = c.requires.level in
    ap (λ n. n / 2 ^ 21) (product_is c)
    ∙ part-of_cells c.args.level c.args.a (entry (c.args.a + c.args.b)) (omega (arith, level))
    ∙ part-of_side c.args.level c.args.a c.args.b _ level a b some
    (is_small c.args.a c.args.b a b some)

value-most : (c : goal.After-from-4)
    → c.from-cells.result * c.from-4.result / 2 ^ 21 ≤ UNITS * 2 ^ MAX_DEPTH
value-most c =
    let side = UNITS * 2 ^ c.args.level in
    let most = part-most side c.args.a c.args.b in
    let long = side-most c.args.level c.requires.level in
    subst (λ n. n ≤ UNITS * 2 ^ MAX_DEPTH) (sym (value_is c)) (omega (arith, most, long))

pub overflow_mul-result : goal.overflow_mul-result
overflow_mul-result c =
    subst (λ n. Fits w64 n) (sym (product_is c)) (omega (arith, product_fits c))

pub overflow_cast-result : goal.overflow_cast-result
overflow_cast-result c = omega (arith, value-most c)

pub returns-clause-value : goal.returns-clause-value
returns-clause-value c = value_is c

pub returns-clause-most : goal.returns-clause-most
returns-clause-most c = value-most c
