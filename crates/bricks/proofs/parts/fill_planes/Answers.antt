-- One plane more is filled.
use Rattle.std.proofs.Common.{◌+◌, refl, inl, inr, arith}
use Rattle.std.proofs.Math.Nat.{mul_assoc}
use Rattle.std.proofs.lemmas.Bool.{cases_lt}
use Rattle.bricks.proofs.PageRowLemmas.{planes-of}
use Rattle.bricks.proofs.PartLemmas.{Fills-none, Fills-same, Fills-then}
use Rattle.bricks.proofs.parts.fill_planes.Goals as goal

pub loop-plane-init : goal.loop-plane-init
loop-plane-init c = λ s n level parts.
    Fills-none s n _ _ c.args.samples.now
    (λ p box. omega (arith, box.z_low, box.z_high))

-- a plane begins at a row
pub fill_plane-requires-clause-rows : goal.fill_plane-requires-clause-rows
fill_plane-requires-clause-rows c =
    omega (arith, mul_assoc 256 c.args.stride c.loop-plane.plane)

pub loop-plane-preserved : goal.loop-plane-preserved
loop-plane-preserved c = λ s n level parts.
    let plane = c.loop-plane.plane in
    Fills-then s n _ _ _ _ _ _ c.args.samples.now c.loop-plane.samples c.fill_plane.new.samples
    (λ p box. elim (cases_lt p.z (c.args.z + plane)) [
      | inl early ↦ inr (
        (λ here. omega (arith, early, here.z_low)),
        record {
          z_low = box.z_low;
          z_high = early;
          y_low = box.y_low;
          y_high = box.y_high;
          x_low = box.x_low;
          x_high = box.x_high;
        },
      )
      | inr late ↦ inl (record {
        z_low = late;
        z_high = omega (arith, box.z_high);
        y_low = box.y_low;
        y_high = box.y_high;
        x_low = box.x_low;
        x_high = box.x_high;
      })
    ])
    (λ p box. record {
      z_low = box.z_low;
      z_high = omega (arith, box.z_high);
      y_low = box.y_low;
      y_high = box.y_high;
      x_low = box.x_low;
      x_high = box.x_high;
    })
    (λ p box. record {
      z_low = omega (arith, box.z_low);
      z_high = omega (arith, box.z_high);
      y_low = box.y_low;
      y_high = box.y_high;
      x_low = box.x_low;
      x_high = box.x_high;
    })
    (c.loop-plane.invariant s n level parts)
    (c.fill_plane.ensures s n
    (planes-of s n c.args.stride c.args.side c.args.z c.args.y _ plane _ level parts
    (omega (arith, c.min-plane-end.ensures, c.loop-plane-test.true)) refl))

pub returns : goal.returns
returns c = λ s n level parts.
    Fills-same s n _ _ _ _ c.args.samples.now c.loop-plane.samples
    (λ p p_in box. record {
      z_low = box.z_low;
      z_high = omega (arith, c.min-plane-end.ensures, c.loop-plane-test.false, box.z_high, p_in.z);
      y_low = box.y_low;
      y_high = box.y_high;
      x_low = box.x_low;
      x_high = box.x_high;
    })
    (λ p p_in box. record {
      z_low = box.z_low;
      z_high = omega (arith, c.min-plane-end.ensures, c.loop-plane.auto.plane-end, box.z_high);
      y_low = box.y_low;
      y_high = box.y_high;
      x_low = box.x_low;
      x_high = box.x_high;
    })
    (c.loop-plane.invariant s n level parts)
