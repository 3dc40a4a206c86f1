-- A row more is filled.
use Rattle.std.proofs.Common.{◌^◌, inl, inr, arith}
use Rattle.std.proofs.lemmas.Bool.{cases_lt}
use Rattle.field_pages.specs.Pages.{sample_at}
use Rattle.bricks.proofs.PartLemmas.{Fills-none, Fills-same, Fills-then, next-border, side-few}
use Rattle.bricks.proofs.parts.fill_layer.Goals as goal

pub loop-y-init : goal.loop-y-init
loop-y-init c = record {
  few = omega arith;
  border = omega arith;
  filled = Fills-none (sample_at c.args.version.now) c.args.leaf _ _ c.args.samples.now
      (λ p box. omega (arith, box.y_low, box.y_high));
}

pub fill_row-requires-clause-y : goal.fill_row-requires-clause-y
fill_row-requires-clause-y c = record {
  few = omega (arith, c.loop-y-test.true);
  border = c.loop-y.invariant.border;
}

pub loop-y-preserved : goal.loop-y-preserved
loop-y-preserved c = record {
  few = omega (arith, c.loop-y-test.true, side-few _ _ c.requires.side);
  border = next-border (2 ^ c.args.leaf.level) c.args.side c.loop-y.y c.requires.side
      c.loop-y.invariant.border;
  filled = Fills-then (sample_at c.args.version.now) c.args.leaf _ _ _ _ _ _ c.args.samples.now
      c.loop-y.samples c.fill_row.new.samples
      (λ p box. elim (cases_lt p.y c.loop-y.y) [
        | inl early ↦ inr (
          (λ here. omega (arith, early, here.y_low)),
          record {
            z_low = box.z_low;
            z_high = box.z_high;
            y_low = box.y_low;
            y_high = early;
            x_low = box.x_low;
            x_high = box.x_high;
          },
        )
        | inr late ↦ inl (record {
          z_low = box.z_low;
          z_high = box.z_high;
          y_low = late;
          y_high = box.y_high;
          x_low = box.x_low;
          x_high = box.x_high;
        })
      ])
      (λ p box. record {
        z_low = box.z_low;
        z_high = box.z_high;
        y_low = box.y_low;
        y_high = omega (arith, box.y_high);
        x_low = box.x_low;
        x_high = box.x_high;
      })
      (λ p box. record {
        z_low = box.z_low;
        z_high = box.z_high;
        y_low = omega (arith, box.y_low);
        y_high = box.y_high;
        x_low = box.x_low;
        x_high = box.x_high;
      }) c.loop-y.invariant.filled c.fill_row.ensures;
}

pub returns : goal.returns
returns c =
    Fills-same (sample_at c.args.version.now) c.args.leaf _ _ _ _ c.args.samples.now
    c.loop-y.samples
    (λ p p_in box. record {
      z_low = box.z_low;
      z_high = box.z_high;
      y_low = box.y_low;
      y_high = omega (arith, c.loop-y-test.false, p_in.y);
      x_low = box.x_low;
      x_high = box.x_high;
    })
    (λ p p_in box. record {
      z_low = box.z_low;
      z_high = box.z_high;
      y_low = box.y_low;
      y_high = omega (arith, p_in.y);
      x_low = box.x_low;
      x_high = box.x_high;
    }) c.loop-y.invariant.filled
