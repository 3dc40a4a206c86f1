-- The samples of a page, of which rows are lent.
-- Source: this project's rule.
use Rattle.std.specs.Prelude.{Bool, IsTrue, List, ℤ}
use Rattle.field_pages.specs.declared.page_rows.PageRows.{PageRows}
use Rattle.field_pages.specs.Lent.{is_by_steps, is_one_row, samples_lent}

-- the samples of the page, by z, then y, then x
abbrev pub lent_samples : PageRows → List ℤ
lent_samples rows = samples_lent rows.lent

-- its rows are lent by steps
abbrev pub has_steps : PageRows → Bool
has_steps rows = is_by_steps rows.lent

-- the same as a statement
abbrev pub IsStepped : PageRows → Type 0
IsStepped rows = IsTrue (has_steps rows)

-- all of its rows are lent as one
abbrev pub HasOneRow : PageRows → Type 0
HasOneRow rows = IsTrue (is_one_row rows.lent)
