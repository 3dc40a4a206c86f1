-- A plane more is filled.
use Rattle.std.proofs.Common.{inl, inr, arith}
use Rattle.std.proofs.lemmas.Bool.{cases_lt}
use Rattle.field_pages.specs.Pages.{sample_at}
use Rattle.bricks.proofs.PartLemmas.{Fills-none, Fills-then, filled-leaf}
use Rattle.bricks.proofs.points.fill_points.Goals as goal

pub loop-z-init : goal.loop-z-init
loop-z-init c =
    Fills-none (sample_at c.args.version.now) c.args.leaf _ _ c.args.samples.now
    (λ p box. omega (arith, box.z_low, box.z_high))

pub loop-z-preserved : goal.loop-z-preserved
loop-z-preserved c =
    Fills-then (sample_at c.args.version.now) c.args.leaf _ _ _ _ _ _ c.args.samples.now
    c.loop-z.samples c.fill_plane.new.samples
    (λ p box. elim (cases_lt p.z c.loop-z.z) [
      | inl early ↦ inr (
        (λ here. omega (arith, early, here.z_low)),
        record {
          z_low = box.z_low;
          z_high = early;
          y_low = box.y_low;
          y_high = box.y_high;
          x_low = box.x_low;
          x_high = box.x_high;
        },
      )
      | inr late ↦ inl (record {
        z_low = late;
        z_high = box.z_high;
        y_low = box.y_low;
        y_high = box.y_high;
        x_low = box.x_low;
        x_high = box.x_high;
      })
    ])
    (λ p box. record {
      z_low = box.z_low;
      z_high = omega (arith, box.z_high);
      y_low = box.y_low;
      y_high = box.y_high;
      x_low = box.x_low;
      x_high = box.x_high;
    })
    (λ p box. record {
      z_low = omega (arith, box.z_low);
      z_high = box.z_high;
      y_low = box.y_low;
      y_high = box.y_high;
      x_low = box.x_low;
      x_high = box.x_high;
    }) c.loop-z.invariant c.fill_plane.ensures

pub returns : goal.returns
returns c =
    filled-leaf (sample_at c.args.version.now) c.args.leaf c.args.samples.now c.loop-z.samples _
    c.requires.count (omega (arith, c.loop-z-test.false)) c.loop-z.invariant
