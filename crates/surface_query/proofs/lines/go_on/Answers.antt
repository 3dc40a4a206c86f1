-- Both last digits are one more.
use Rattle.std.proofs.Common.{rules}
use Rattle.surface_query.proofs.NextTextLemmas.{next-corner}
use Rattle.surface_query.proofs.lines.go_on.Goals as goal

pub returns-then-last-lt57 : goal.returns-then-last-lt57
returns-then-last-lt57 c =
    next-corner c.args.bases c.args.place c.from-len.result c.args.corner.now c.from-len.ensures
    c.requires.bases c.requires.place (search rules) c.requires.corner c.if-bases.true
    c.if-last-lt57.true
