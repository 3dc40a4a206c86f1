-- The samples before a place are taken.
use Rattle.std.proofs.Common.{◌≡◌, ℕ, ◌+◌, ◌*◌, ◌<◌, length, pos, get_or}
use Rattle.field_pages.specs.PageRows.{lent_samples}
use Rattle.bricks.proofs.line.take_from_rows.Given as goal

abbrev pub invariant-loop-place : goal.invariant-loop-place
invariant-loop-place l = record {
  long : length l.taken ≡ length l.initial.taken;
  each : (k : ℕ) → k < l.place → get_or l.taken k (pos 0)
      ≡ get_or (lent_samples l.page) (l.from + l.step * k + l.first) (pos 0);
}
