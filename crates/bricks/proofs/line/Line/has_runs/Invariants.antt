-- The samples so far are those of the line's first points.
use Rattle.std.proofs.Common.{◌≡◌, ℕ, ◌-◌, ◌<◌, ◌≤◌, pos, get_or}
use Rattle.field_pages.specs.Pages.{sample_at}
use Rattle.bricks.specs.Line.{line_point}
use Rattle.bricks.proofs.line.Line.has_runs.Given as goal

abbrev pub invariant-loop-place : goal.invariant-loop-place
invariant-loop-place l = record {
  within : l.place ≤ l.self.count;
  same : (k : ℕ) → k < l.place
      → get_or l.samples k (pos 0) ≡ sample_at l.version (line_point l.self k);
}

abbrev pub decreases-loop-place : goal.decreases-loop-place
decreases-loop-place l = l.self.count - l.place
