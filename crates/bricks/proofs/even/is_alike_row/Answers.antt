-- A point lies in a page before, or in the next one.
use Rattle.std.proofs.Common.{◌≡◌, ◌+◌, ◌*◌, ◌/◌, sym, ap, ◌∙◌, inl, inr, arith}
use Rattle.std.proofs.lemmas.Bool.{cases_lt}
use Rattle.field_pages.specs.Places.{IsInSamePage}
use Rattle.bricks.proofs.even.is_alike_row.Goals as goal

pub loop-page-init : goal.loop-page-init
loop-page-init c = λ p row. absurd (omega (arith, row.x_low, row.x_high))

pub loop-page-preserved : goal.loop-page-preserved
loop-page-preserved c = λ p row.
    let point = c.moved-point.result in
    let x : point.x ≡ c.args.from.x + 16 * c.loop-page.page = ap (λ q. q.x) c.moved-point.ensures in
    elim (cases_lt p.x (c.args.from.x + 16 * c.loop-page.page)) [
      | inl before ↦ c.loop-page.invariant p
          (record { z = row.z; y = row.y; x_low = row.x_low; x_high = before })
      | inr here ↦
          let same : IsInSamePage point p = record {
            z = row.z ∙ ap (λ q. q.z / 16) (sym c.moved-point.ensures);
            y = row.y ∙ ap (λ q. q.y / 16) (sym c.moved-point.ensures);
            x = omega (arith, x, here, row.x_high, c.requires.x);
          } in
          c.is_alike_page.ensures c.if-not-is_alike_page.false p same
    ]

pub returns : goal.returns
returns c = λ _ p row.
    c.loop-page.invariant p (record {
      z = row.z;
      y = row.y;
      x_low = row.x_low;
      x_high = omega (arith, row.x_high, c.loop-page-test.false);
    })
