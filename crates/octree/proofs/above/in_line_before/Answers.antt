-- The first plane has none before it.
use Rattle.std.proofs.Common.{sym, ◌∙◌, arith}
use Rattle.std.proofs.lemmas.Bool.{false≢true}
use Rattle.octree.proofs.RowBitLemmas.{none_set}
use Rattle.octree.proofs.above.in_line_before.Goals as goal

pub returns-then-k-eq0 : goal.returns-then-k-eq0
returns-then-k-eq0 c i = (
  (λ h. absurd (false≢true (sym (none_set i) ∙ h))),
  (λ h. absurd (omega (arith, h.0, c.if-k-eq0.true))),
)

pub returns : goal.returns
returns c i = (
  (λ h. (omega (arith, c.if-k-eq0.false), (c.in_line_bits.ensures i).0 h)),
  (λ h. (c.in_line_bits.ensures i).1 h.1),
)
