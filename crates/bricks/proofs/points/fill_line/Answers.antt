-- The line has the field's samples.
use Rattle.std.proofs.Common.{arith}
use Rattle.field_pages.specs.Pages.{sample_at}
use Rattle.bricks.proofs.points.fill_line.Goals as goal

pub returns : goal.returns
returns c = c.put_line.ensures (sample_at c.args.version.now) c.args.leaf (record {
  each = λ x x_in. c.line_of-line.ensures.each x (omega (arith, x_in));
})
