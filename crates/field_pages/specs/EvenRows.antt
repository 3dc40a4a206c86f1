-- The rows of pages that have one sample at each of their points of the world, in a table.
-- Source: this project's rule.
use Rattle.std.specs.Prelude.{◌≡◌, ℕ, ◌*◌, ◌/◌, ◌%◌, ◌<◌, List, ℤ, ◌+ℤ◌, neg_ℤ, pos, if◌then◌else◌, length, nat_lt, slice_index_or}
use Rattle.terrain.specs.declared.brush.TheConstants.{MAX_SAMPLE}
use Rattle.field_pages.specs.declared.even_rows.TheConstants.{SPAN, VALUES}
use Rattle.field_pages.specs.declared.page.TheConstants.{SIDE}

-- the sample at a place of the table: of each value from -128 on a row, and behind it one of 127
abbrev pub table_at : ℕ → ℤ
table_at k = if nat_lt (k % SPAN) SIDE then pos (k / SPAN) +ℤ neg_ℤ (pos 128) else MAX_SAMPLE

-- a list is this table
pub record AreEvenRows (samples : List ℤ) : Type 0 where
  pub long : length samples ≡ VALUES * SPAN
  pub each : (k : ℕ) → k < VALUES * SPAN → slice_index_or samples k MAX_SAMPLE ≡ table_at k
