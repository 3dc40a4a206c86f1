-- The digits behind the blank, and again behind the slashes.
use Rattle.std.proofs.Common.{arith, decimal, rules}
use Rattle.surface_query.proofs.PieceLemmas.{twice}
use Rattle.surface_query.proofs.lines.put_twice.Goals as goal

pub returns-clause-line : goal.returns-clause-line
returns-clause-line c =
    let spaced = c.put_spaced-end.ensures in
    let first = c.put-first.ensures in
    let middle = c.put-behind.ensures in
    twice _ _ _ _ c.put_spaced-end.new.line (decimal c.args.number) _ 32 _ _ _ _ (search rules)
    (omega (arith, spaced.line.behind)) (omega (arith, spaced.near)) spaced.line.front first middle
    c.put-second.ensures
    (omega (arith, middle.behind, middle.long, first.long, spaced.near, c.requires.room))
