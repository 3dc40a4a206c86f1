-- The pages of a layer in groups of equal lengths.
-- Source: this project's rule.
use Rattle.std.specs.Prelude.{ℕ, ◌/◌, ◌%◌, List, [], ℤ, map, slice_index_or}
use Rattle.std.specs.List.{range_with_len}
use Rattle.field_pages.specs.declared.shared_pages.TheConstants.{GROUP}

-- the page of this number
abbrev pub grouped_at : List (List (List ℤ)) → ℕ → List ℤ
grouped_at groups n = slice_index_or (slice_index_or groups (n / GROUP) []) (n % GROUP) []

-- so many pages, one group's behind the other's
unfoldable pub ungrouped : ℕ → List (List (List ℤ)) → List (List ℤ)
ungrouped count groups = map (grouped_at groups) (range_with_len 0 count)
