-- One more value is the ball's, and the list goes from where values are least to where they are greatest.
use Rattle.std.proofs.Common.{◌≡◌, ◌+◌, ◌*◌, ◌/◌, ◌≤◌, ◌-ℤ◌, ℕ, ℤ, pos, length, ap, refl, sym, subst, ◌∙◌, arith, w8, to_z, of_z}
use Rattle.std.proofs.lemmas.List.{length_push}
use Rattle.std.proofs.lemmas.Nat.{mul-le}
use Rattle.terrain.specs.declared.brush.TheConstants.{SUBCELLS}
use Rattle.terrain.specs.Brushes.{floor_root}
use Rattle.terrain.specs.Samples.{clamped_sample}
use Rattle.brushes.specs.declared.ball.TheConstants.{MAX_VALUE}
use Rattle.brushes.specs.Values.{value_at_square}
use Rattle.brushes.proofs.BallLemmas.{AreBallValues-between}
use Rattle.brushes.proofs.RowLemmas.{pushed_more}
use Rattle.brushes.proofs.ShapeLemmas.{sample_is}
use Rattle.brushes.proofs.ball.BallValues.new.Goals as goal

pub loop-apart-preserved : goal.loop-apart-preserved
loop-apart-preserved c =
    let first = c.square.result / (SUBCELLS * SUBCELLS) in
    let before = c.loop-apart.by_square.items in
    let apart = c.loop-apart.apart in
    let root = c.root_from-root.result in
    let n : ℕ = SUBCELLS * SUBCELLS * apart in
    let x = c.clamped_difference.result in
    let root_is : root ≡ floor_root n = c.root_from-root.ensures.value in
    let root_low = subst (λ m. m * m ≤ n) (sym root_is) (c.root_meets_both_bounds.ensures.low n) in
    let items_is = c.in_ok-push.ensures.items in
    let here : n ≡ SUBCELLS * SUBCELLS * (first + length before) =
    ap (λ m. SUBCELLS * SUBCELLS * m) (sym c.loop-apart.invariant.long) in
    let made : to_z w8 (of_z w8 x)
    ≡ clamped_sample (value_at_square c.args.r (first + length before)) =
    sample_is x c.clamped_difference.ensures.range ∙ c.clamped_difference.ensures.value
    ∙ ap (λ m. clamped_sample (pos m -ℤ pos (SUBCELLS * c.args.r)))
    (root_is ∙ ap floor_root here) in
    record {
      long = omega (
        arith,
        ap length items_is,
        length_push before (to_z w8 (of_z w8 x)),
        c.loop-apart.invariant.long,
      );
      root = omega (arith, root_low);
      value = pushed_more (λ (k : ℕ) (v : ℤ).
          v ≡ clamped_sample (value_at_square c.args.r (first + k)))
          before c.push.new.self.items (to_z w8 (of_z w8 x)) items_is made
          c.loop-apart.invariant.value;
    }

pub invariant_of-result : goal.invariant_of-result
invariant_of-result c =
    let r = c.args.r in
    let inner = c.saturating_sub-inner.result in
    let outer : ℕ = SUBCELLS * r + MAX_VALUE in
    let first = c.square.result / (SUBCELLS * SUBCELLS) in
    let last = c.square-2.result / (SUBCELLS * SUBCELLS) + 1 in
    let inner_is = c.saturating_sub-inner.ensures in
    let inner_most : inner ≤ outer = omega (arith, inner_is) in
    let squares = mul-le inner inner outer outer inner_most inner_most in
    let long : first + length c.loop-apart.by_square.items ≡ last + 1 =
    omega (
      arith,
      squares,
      c.square.ensures.value,
      c.square-2.ensures.value,
      c.loop-apart.invariant.long,
      c.loop-apart-test.false,
      c.loop-apart.auto.apart-end,
    ) in
    AreBallValues-between r first last inner outer c.loop-apart.by_square.items
    c.root_meets_both_bounds.ensures.low c.root_meets_both_bounds.ensures.high
    inner_is refl (ap (λ n. n / (SUBCELLS * SUBCELLS)) c.square.ensures.value)
    (ap (λ n. n / (SUBCELLS * SUBCELLS) + 1) c.square-2.ensures.value)
    long (omega (arith, c.square-2.ensures.most)) c.loop-apart.invariant.value
