-- A layer more is filled.
use Rattle.std.proofs.Common.{◌^◌, inl, inr, arith}
use Rattle.std.proofs.lemmas.Bool.{cases_lt}
use Rattle.field_pages.specs.Pages.{sample_at}
use Rattle.bricks.proofs.PartLemmas.{Fills-none, filled-leaf, Fills-then, next-border, side-few}
use Rattle.bricks.proofs.parts.fill_pages.Goals as goal

pub loop-z-init : goal.loop-z-init
loop-z-init c = record {
  few = omega arith;
  border = omega arith;
  filled = Fills-none (sample_at c.args.version.now) c.args.leaf _ _ c.args.samples.now
      (λ p box. omega (arith, box.z_low, box.z_high));
}

pub fill_layer-requires-clause-z : goal.fill_layer-requires-clause-z
fill_layer-requires-clause-z c = record {
  few = omega (arith, c.loop-z-test.true);
  border = c.loop-z.invariant.border;
}

pub loop-z-preserved : goal.loop-z-preserved
loop-z-preserved c = record {
  few = omega (arith, c.loop-z-test.true, side-few _ _ c.part_side-side.ensures.value);
  border = next-border (2 ^ c.args.leaf.level) c.part_side-side.result c.loop-z.z
      c.part_side-side.ensures.value c.loop-z.invariant.border;
  filled = Fills-then (sample_at c.args.version.now) c.args.leaf _ _ _ _ _ _ c.args.samples.now
      c.loop-z.samples c.fill_layer.new.samples
      (λ p box. elim (cases_lt p.z c.loop-z.z) [
        | inl early ↦ inr (
          (λ here. omega (arith, early, here.z_low)),
          record {
            z_low = box.z_low;
            z_high = early;
            y_low = box.y_low;
            y_high = box.y_high;
            x_low = box.x_low;
            x_high = box.x_high;
          },
        )
        | inr late ↦ inl (record {
          z_low = late;
          z_high = box.z_high;
          y_low = box.y_low;
          y_high = box.y_high;
          x_low = box.x_low;
          x_high = box.x_high;
        })
      ])
      (λ p box. record {
        z_low = box.z_low;
        z_high = omega (arith, box.z_high);
        y_low = box.y_low;
        y_high = box.y_high;
        x_low = box.x_low;
        x_high = box.x_high;
      })
      (λ p box. record {
        z_low = omega (arith, box.z_low);
        z_high = box.z_high;
        y_low = box.y_low;
        y_high = box.y_high;
        x_low = box.x_low;
        x_high = box.x_high;
      }) c.loop-z.invariant.filled c.fill_layer.ensures;
}

pub returns : goal.returns
returns c =
    filled-leaf (sample_at c.args.version.now) c.args.leaf c.args.samples.now c.loop-z.samples _
    c.requires.count (omega (arith, c.loop-z-test.false)) c.loop-z.invariant.filled
