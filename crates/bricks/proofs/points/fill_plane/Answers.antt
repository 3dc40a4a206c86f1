-- A line more is filled.
use Rattle.std.proofs.Common.{inl, inr, arith}
use Rattle.std.proofs.lemmas.Bool.{cases_lt}
use Rattle.field_pages.specs.Pages.{sample_at}
use Rattle.bricks.proofs.PartLemmas.{Fills-none, Fills-same, Fills-then}
use Rattle.bricks.proofs.points.fill_plane.Goals as goal

pub loop-y-init : goal.loop-y-init
loop-y-init c =
    Fills-none (sample_at c.args.version.now) c.args.leaf _ _ c.args.samples.now
    (λ p box. omega (arith, box.y_low, box.y_high))

pub loop-y-preserved : goal.loop-y-preserved
loop-y-preserved c =
    Fills-then (sample_at c.args.version.now) c.args.leaf _ _ _ _ _ _ c.args.samples.now
    c.loop-y.samples c.fill_line.new.samples
    (λ p box. elim (cases_lt p.y c.loop-y.y) [
      | inl early ↦ inr (
        (λ here. omega (arith, early, here.y_low)),
        record {
          z_low = box.z_low;
          z_high = box.z_high;
          y_low = box.y_low;
          y_high = early;
          x_low = box.x_low;
          x_high = box.x_high;
        },
      )
      | inr late ↦ inl (record {
        z_low = box.z_low;
        z_high = box.z_high;
        y_low = late;
        y_high = box.y_high;
        x_low = box.x_low;
        x_high = box.x_high;
      })
    ])
    (λ p box. record {
      z_low = box.z_low;
      z_high = box.z_high;
      y_low = box.y_low;
      y_high = omega (arith, box.y_high);
      x_low = box.x_low;
      x_high = box.x_high;
    })
    (λ p box. record {
      z_low = box.z_low;
      z_high = box.z_high;
      y_low = omega (arith, box.y_low);
      y_high = box.y_high;
      x_low = box.x_low;
      x_high = box.x_high;
    }) c.loop-y.invariant c.fill_line.ensures

pub returns : goal.returns
returns c =
    Fills-same (sample_at c.args.version.now) c.args.leaf _ _ _ _ c.args.samples.now
    c.loop-y.samples
    (λ p p_in box. record {
      z_low = box.z_low;
      z_high = box.z_high;
      y_low = box.y_low;
      y_high = omega (arith, c.loop-y-test.false, p_in.y);
      x_low = box.x_low;
      x_high = box.x_high;
    })
    (λ p p_in box. record {
      z_low = box.z_low;
      z_high = box.z_high;
      y_low = box.y_low;
      y_high = omega (arith, p_in.y);
      x_low = box.x_low;
      x_high = box.x_high;
    }) c.loop-y.invariant
