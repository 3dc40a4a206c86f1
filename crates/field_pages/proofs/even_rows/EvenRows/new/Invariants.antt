-- The samples so far are the table's first ones.
use Rattle.std.proofs.Common.{◌≡◌, ◌<◌, ℕ, get_or, length}
use Rattle.terrain.specs.declared.brush.TheConstants.{MAX_SAMPLE}
use Rattle.field_pages.specs.EvenRows.{table_at}
use Rattle.field_pages.proofs.even_rows.EvenRows.new.Given as goal

abbrev pub invariant-loop-place : goal.invariant-loop-place
invariant-loop-place l = record {
  long : length l.samples.items ≡ l.place;
  each : (k : ℕ) → k < l.place → get_or l.samples.items k MAX_SAMPLE ≡ table_at k;
}
