-- Marks at the place itself cover the higher one's height, and others one height alone.
use Rattle.std.proofs.Common.{◌∙◌, arith}
use Rattle.frame_surface.proofs.MarkLemmas.{between-covers, between-greatest, here-covers, here-greatest}
use Rattle.frame_surface.proofs.line.top_between.Goals as goal

pub returns-then-a-b-clause-covers : goal.returns-then-a-b-clause-covers
returns-then-a-b-clause-covers c =
    here-covers c.args.a c.args.b c.args.at c.into.result (omega arith) (omega arith)
    (c.into.ensures ∙ c.max.ensures)

pub returns-then-a-b-clause-greatest : goal.returns-then-a-b-clause-greatest
returns-then-a-b-clause-greatest c =
    here-greatest c.args.a c.args.b c.args.at c.into.result (c.into.ensures ∙ c.max.ensures)

pub returns-clause-covers : goal.returns-clause-covers
returns-clause-covers c =
    rw (c.from.ensures, c.from-2.ensures)
    (between-covers c.args.a c.args.b c.args.at c.from-on.result c.from-back.result (omega arith)
    (omega arith) (omega arith))

pub returns-clause-greatest : goal.returns-clause-greatest
returns-clause-greatest c =
    rw (c.from.ensures, c.from-2.ensures)
    (between-greatest c.args.a c.args.b c.args.at c.from-on.result c.from-back.result
    (omega arith) (omega arith))
