-- One page's run more is copied, and then the last sample.
use Rattle.std.proofs.Common.{◌≡◌, ℕ, ◌+◌, ◌*◌, ◌<◌, ◌≤◌, [], pos, get_or, inl, inr, refl, sym, ap, ◌∙◌, subst, arith}
use Rattle.std.proofs.Math.Nat.{mul-add, mul-le-mul_left, mul_comm}
use Rattle.std.proofs.lemmas.Bool.{cases_lt}
use Rattle.bricks.specs.Parts.{page_samples}
use Rattle.bricks.proofs.PageRowLemmas.{is-stepped, last-part, part-fits, row-of_pages, stride-few}
use Rattle.bricks.proofs.PartLemmas.{keeps-more}
use Rattle.bricks.proofs.parts.copy_line.Goals as goal

pub row_of-row-requires-clause-steps : goal.row_of-row-requires-clause-steps
row_of-row-requires-clause-steps c = λ by_steps.
    let few = stride-few c.args.stride c.args.side c.requires.stride c.requires.two in
    is-stepped c.args.pages.now c.args.stride c.loop-number.number c.index-pages-number.result
    c.index-pages-number.is (omega (arith, c.told-pages, few, c.loop-number-test.true))
    (omega (arith, c.loop-number-test.true)) (c.requires.steps by_steps)

pub row_of-last-requires-clause-steps : goal.row_of-last-requires-clause-steps
row_of-last-requires-clause-steps c = λ by_steps.
    let few = stride-few c.args.stride c.args.side c.requires.stride c.requires.two in
    is-stepped c.args.pages.now c.args.stride c.args.stride c.index-pages-stride.result
    c.index-pages-stride.is (omega (arith, c.told-pages, few)) (omega arith)
    (c.requires.steps by_steps)

pub loop-number-init : goal.loop-number-init
loop-number-init c = record {
  line = λ t x t_in x_in. absurd (omega (arith, t_in));
  others = record { long = refl; each = λ m off. refl };
}

-- a sample of a run lies in its row
run-in_row : (stride side k : ℕ) → stride * side ≡ 16 → 1 ≤ stride → k < side → stride * k < 16
run-in_row stride side k whole some k_in =
    let fits = part-fits side stride k (mul_comm side stride ∙ whole) k_in in
    omega (arith, fits, some)

pub copy_run-requires-clause-range : goal.copy_run-requires-clause-range
copy_run-requires-clause-range c =
    let few = stride-few c.args.stride c.args.side c.requires.stride c.requires.two in
    let t = c.loop-number.number in
    let t_in : t ≤ c.args.stride = omega (arith, c.loop-number-test.true) in
    let is = row-of_pages c.args.pages.now t c.args.from c.index-pages-number.result
    c.row_of-row.result.now c.index-pages-number.is
    (omega (arith, c.told-pages, few, c.loop-number-test.true))
    (c.requires.pages.counts t t_in) (c.requires.pages.range t t_in) c.row_of-row.ensures.len
    c.requires.from c.row_of-row.ensures.samples in
    is.range

pub loop-number-preserved : goal.loop-number-preserved
loop-number-preserved c =
    let stride = c.args.stride in
    let side = c.args.side in
    let to = c.args.to in
    let few = stride-few stride side c.requires.stride c.requires.two in
    let now = c.loop-number.number in
    let now_in : now ≤ stride = omega (arith, c.loop-number-test.true) in
    let is = row-of_pages c.args.pages.now now c.args.from c.index-pages-number.result
    c.row_of-row.result.now c.index-pages-number.is
    (omega (arith, c.told-pages, few, c.loop-number-test.true))
    (c.requires.pages.counts now now_in) (c.requires.pages.range now now_in)
    c.row_of-row.ensures.len c.requires.from c.row_of-row.ensures.samples in
    let new = c.copy_run.new.samples in
    record {
      line = λ t x t_in x_in. elim (cases_lt t now) [
        | inl early ↦
            let next : t + 1 ≤ now = omega (arith, early) in
            let before : side * t + side ≤ side * now =
            omega (arith, mul-add side t 1, mul-le-mul_left side next) in
            c.copy_run.ensures.others.each (to + side * t + x)
            (λ after end. omega (arith, after, before, x_in))
            ∙ c.loop-number.invariant.line t x early x_in
        | inr late ↦
            let t_is : now ≡ t = omega (arith, late, t_in) in
            subst (λ k. get_or new (to + side * k + x) (pos 0)
            ≡ get_or (get_or (page_samples c.args.pages.now) k []) (c.args.from + stride * x)
            (pos 0)) t_is
            (c.copy_run.ensures.run x x_in
            ∙ is.same (stride * x) (run-in_row stride side x c.requires.stride
            (omega (arith, c.loop-number-test.true)) x_in))
      ];
      others = keeps-more to (side * now) (to + side * now) side (side * (now + 1))
          c.args.samples.now c.loop-number.samples new refl (omega (arith, mul-add side now 1))
          c.loop-number.invariant.others c.copy_run.ensures.others;
    }

pub copy_run-requires-2-clause-range : goal.copy_run-requires-2-clause-range
copy_run-requires-2-clause-range c =
    let few = stride-few c.args.stride c.args.side c.requires.stride c.requires.two in
    let is = row-of_pages c.args.pages.now c.args.stride c.args.from
    c.index-pages-stride.result c.row_of-last.result.now c.index-pages-stride.is
    (omega (arith, c.told-pages, few)) (c.requires.pages.counts c.args.stride (omega arith))
    (c.requires.pages.range c.args.stride (omega arith)) c.row_of-last.ensures.len
    c.requires.from c.row_of-last.ensures.samples in
    is.range

pub returns-clause-line : goal.returns-clause-line
returns-clause-line c = record {
  each = λ t x t_in x_in within.
      let stride = c.args.stride in
      let side = c.args.side in
      let to = c.args.to in
      let few = stride-few stride side c.requires.stride c.requires.two in
      let now = c.loop-number.number in
      let now_is : now ≡ stride =
      omega (arith, c.loop-number-test.false, c.loop-number.auto.number-end) in
      elim (cases_lt t now) [
        | inl early ↦
            let fits = part-fits stride side t c.requires.stride (omega (arith, early, now_is)) in
            c.copy_run-2.ensures.others.each (to + side * t + x)
            (λ after end. omega (arith, after, fits, x_in))
            ∙ c.loop-number.invariant.line t x early x_in
        | inr late ↦
            let t_is : stride ≡ t = omega (arith, late, t_in, now_is) in
            let end : side * t ≡ 16 = last-part stride side t c.requires.stride (sym t_is) in
            let x_is : 0 ≡ x = omega (arith, end, within) in
            let place : to + 16 + 0 ≡ to + side * t + x = omega (arith, end, x_is) in
            let none : c.args.from + 0 ≡ c.args.from + stride * x =
            omega (arith, mul_comm stride 0, ap (λ k. stride * k) x_is) in
            let is = row-of_pages c.args.pages.now stride c.args.from
            c.index-pages-stride.result c.row_of-last.result.now c.index-pages-stride.is
            (omega (arith, c.told-pages, few)) (c.requires.pages.counts stride (omega arith))
            (c.requires.pages.range stride (omega arith)) c.row_of-last.ensures.len
            c.requires.from c.row_of-last.ensures.samples in
            ap (λ m. get_or c.copy_run-2.new.samples m (pos 0)) (sym place)
            ∙ c.copy_run-2.ensures.run 0 (omega arith)
            ∙ is.same 0 (omega arith)
            ∙ (λ i. get_or (get_or (page_samples c.args.pages.now) (t_is i) []) (none i) (pos 0))
      ];
}

pub returns-clause-others : goal.returns-clause-others
returns-clause-others c =
    let side = c.args.side in
    let end : side * c.loop-number.number ≡ 16 =
    last-part c.args.stride side c.loop-number.number c.requires.stride
    (omega (arith, c.loop-number-test.false, c.loop-number.auto.number-end)) in
    keeps-more c.args.to (side * c.loop-number.number) (c.args.to + 16) 1 17 c.args.samples.now
    c.loop-number.samples c.copy_run-2.new.samples (omega (arith, end)) (omega (arith, end))
    c.loop-number.invariant.others c.copy_run-2.ensures.others
