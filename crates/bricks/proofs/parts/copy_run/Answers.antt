-- The samples of the run are those of the row.
use Rattle.std.proofs.Common.{◌≡◌, ℕ, ◌+◌, ◌-◌, ◌≤◌, pos, length, take, drop, sym, ◌∙◌, arith}
use Rattle.std.proofs.Math.Nat.{mul-add, mul-le-mul_left}
use Rattle.field_pages.proofs.SliceLemmas.{get_or-put_mid, length-part}
use Rattle.bricks.proofs.PartLemmas.{keeps-others}
use Rattle.bricks.proofs.parts.copy_run.Goals as goal

pub copy_steps-requires : goal.copy_steps-requires
copy_steps-requires c = λ k k_in.
    let part_is : (c.args.to + c.args.count) - c.args.to ≡ c.args.count = omega arith in
    let long = length-part c.args.to c.args.count _ c.args.samples.now part_is c.requires.to in
    let next : k + 1 ≤ c.args.count = omega (arith, k_in, long) in
    omega (
      arith,
      mul-add c.args.stride k 1,
      mul-le-mul_left c.args.stride next,
      c.requires.some,
      c.requires.fits,
      c.requires.row,
    )

pub returns-in_default-clause-run : goal.returns-in_default-clause-run
returns-in_default-clause-run c = λ k k_in.
    let n : ℕ = (c.args.to + c.args.count) - c.args.to in
    let old = c.args.samples.now in
    let part_is : n ≡ c.args.count = omega arith in
    let long : length (take n (drop c.args.to old)) ≡ c.args.count =
    length-part c.args.to c.args.count n old part_is c.requires.to in
    get_or-put_mid c.args.to n k old c.copy_steps.new.samples (pos 0)
    (c.copy_steps.ensures.len ∙ long ∙ sym part_is) (omega (arith, part_is, c.requires.to))
    (omega (arith, part_is, k_in))
    ∙ c.copy_steps.ensures.each k (omega (arith, long, k_in))

pub returns-in_default-clause-others : goal.returns-in_default-clause-others
returns-in_default-clause-others c =
    let n : ℕ = (c.args.to + c.args.count) - c.args.to in
    let old = c.args.samples.now in
    let part_is : n ≡ c.args.count = omega arith in
    let new_long : length c.copy_steps.new.samples ≡ n =
    c.copy_steps.ensures.len ∙ length-part c.args.to c.args.count n old part_is c.requires.to
    ∙ sym part_is in
    keeps-others c.args.to c.args.count n old c.copy_steps.new.samples part_is new_long
    c.requires.to
