-- One line more is filled.
use Rattle.std.proofs.Common.{◌+◌, inl, inr, arith}
use Rattle.std.proofs.Math.Nat.{mul_assoc}
use Rattle.std.proofs.lemmas.Bool.{cases_lt}
use Rattle.bricks.proofs.PageRowLemmas.{line-of}
use Rattle.bricks.proofs.PartLemmas.{Fills-none, Fills-same, Fills-then}
use Rattle.bricks.proofs.parts.fill_plane.Goals as goal

pub loop-line-init : goal.loop-line-init
loop-line-init c = λ s n plane.
    Fills-none s n _ _ c.args.samples.now
    (λ p box. omega (arith, box.y_low, box.y_high))

-- a line of a plane begins at a row
pub fill_line-requires-clause-rows : goal.fill_line-requires-clause-rows
fill_line-requires-clause-rows c =
    omega (arith, mul_assoc 16 c.args.stride c.loop-line.line, c.requires.rows)

pub loop-line-preserved : goal.loop-line-preserved
loop-line-preserved c = λ s n plane.
    let line = c.loop-line.line in
    Fills-then s n _ _ _ _ _ _ c.args.samples.now c.loop-line.samples c.fill_line.new.samples
    (λ p box. elim (cases_lt p.y (c.args.y + line)) [
      | inl early ↦ inr (
        (λ here. omega (arith, early, here.y_low)),
        record {
          z_low = box.z_low;
          z_high = box.z_high;
          y_low = box.y_low;
          y_high = early;
          x_low = box.x_low;
          x_high = box.x_high;
        },
      )
      | inr late ↦ inl (record {
        z_low = box.z_low;
        z_high = box.z_high;
        y_low = late;
        y_high = omega (arith, box.y_high);
        x_low = box.x_low;
        x_high = box.x_high;
      })
    ])
    (λ p box. record {
      z_low = box.z_low;
      z_high = box.z_high;
      y_low = box.y_low;
      y_high = omega (arith, box.y_high);
      x_low = box.x_low;
      x_high = box.x_high;
    })
    (λ p box. record {
      z_low = box.z_low;
      z_high = box.z_high;
      y_low = omega (arith, box.y_low);
      y_high = omega (arith, box.y_high);
      x_low = box.x_low;
      x_high = box.x_high;
    })
    (c.loop-line.invariant s n plane)
    (c.fill_line.ensures s n
    (line-of s n c.args.stride c.args.side c.args.z c.args.y _ c.args.from line _ plane
    (omega (arith, c.min-line-end.ensures, c.loop-line-test.true))
    (omega (arith, mul_assoc 16 c.args.stride line))))

pub returns : goal.returns
returns c = λ s n plane.
    Fills-same s n _ _ _ _ c.args.samples.now c.loop-line.samples
    (λ p p_in box. record {
      z_low = box.z_low;
      z_high = box.z_high;
      y_low = box.y_low;
      y_high = omega (arith, c.min-line-end.ensures, c.loop-line-test.false, box.y_high, p_in.y);
      x_low = box.x_low;
      x_high = box.x_high;
    })
    (λ p p_in box. record {
      z_low = box.z_low;
      z_high = box.z_high;
      y_low = box.y_low;
      y_high = omega (arith, c.min-line-end.ensures, c.loop-line.auto.line-end, box.y_high);
      x_low = box.x_low;
      x_high = box.x_high;
    })
    (c.loop-line.invariant s n plane)
