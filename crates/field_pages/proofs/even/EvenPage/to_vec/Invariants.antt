-- The rows so far have their samples, and those behind them the greatest one.
use Rattle.field_pages.proofs.EvenLemmas.{AreRowsFilled}
use Rattle.field_pages.proofs.even.EvenPage.to_vec.Given as goal

abbrev pub invariant-loop-row : goal.invariant-loop-row
invariant-loop-row l = AreRowsFilled l.self l.row l.samples.items
