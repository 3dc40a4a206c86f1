-- The lines of a face are filled, those in one row of pages at once.
use Rattle.std.proofs.Common.{arith}
use Rattle.field_pages.specs.Pages.{sample_at}
use Rattle.bricks.specs.Tiles.{fine_sample}
use Rattle.bricks.proofs.TileLemmas.{Fills-above, Fills-none, filled-face}
use Rattle.bricks.proofs.brick.fill_face.Goals as goal

pub loop-v-init : goal.loop-v-init
loop-v-init c = record {
  few = omega arith;
  filled = Fills-none (fine_sample (sample_at c.args.version.now) c.args.leaf c.args.face) 0 _ 0 33
      c.args.samples.now (λ y x box. omega (arith, box.v_high));
}

pub loop-v-preserved : goal.loop-v-preserved
loop-v-preserved c = record {
  few = c.fill_band-v.ensures.few;
  filled = Fills-above (fine_sample (sample_at c.args.version.now) c.args.leaf c.args.face) 0
      c.loop-v.v c.fill_band-v.result 0 33 c.args.samples.now c.loop-v.samples
      c.fill_band-v.new.samples
      (omega arith) (omega (arith, c.fill_band-v.ensures.more)) (omega arith)
      c.loop-v.invariant.filled c.fill_band-v.ensures.filled;
}

pub returns : goal.returns
returns c =
    filled-face (sample_at c.args.version.now) c.args.leaf c.args.face c.args.samples.now
    c.loop-v.samples c.loop-v.v c.requires.count (omega (arith, c.loop-v-test.false))
    c.loop-v.invariant.filled
