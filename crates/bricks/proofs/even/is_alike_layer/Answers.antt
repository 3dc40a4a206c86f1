-- A point lies in a row of pages before, or in the next one.
use Rattle.std.proofs.Common.{◌+◌, ◌*◌, sym, inl, inr, subst, arith}
use Rattle.std.proofs.lemmas.Bool.{cases_lt}
use Rattle.lattice.specs.declared.point.Point.{Point}
use Rattle.bricks.specs.Even.{IsInPageRow}
use Rattle.bricks.proofs.even.is_alike_layer.Goals as goal

pub loop-page-init : goal.loop-page-init
loop-page-init c = λ p layer before. absurd (omega (arith, layer.y_low, before))

pub loop-page-preserved : goal.loop-page-preserved
loop-page-preserved c = λ p layer next.
    let from : Point = record c.args.from { y = c.args.from.y + 16 * c.loop-page.page } in
    elim (cases_lt p.y (c.args.from.y + 16 * c.loop-page.page)) [
      | inl before ↦ c.loop-page.invariant p layer before
      | inr here ↦
          let row : IsInPageRow from c.args.pages p = record {
            z = layer.z;
            y = omega (arith, here, next, c.requires.y);
            x_low = layer.x_low;
            x_high = layer.x_high;
          } in
          c.is_alike_row.ensures c.if-not-is_alike_row.false p
          (subst (λ q. IsInPageRow q c.args.pages p) (sym c.moved.ensures) row)
    ]

pub returns : goal.returns
returns c = λ _ p layer.
    c.loop-page.invariant p layer (omega (arith, layer.y_high, c.loop-page-test.false))
