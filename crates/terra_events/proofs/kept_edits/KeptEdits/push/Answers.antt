-- The pages of one more edit are counted, and then the oldest go.
use Rattle.std.proofs.Common.{arith}
use Rattle.terra_events.proofs.kept_edits.KeptEdits.push.Goals as goal

pub overflow_add-pages : goal.overflow_add-pages
overflow_add-pages c = omega (arith, c.self.invariant.1, c.pages.ensures.few)
