-- Where the rows of a page are lent from.
-- Source: this project's rule.
use Rattle.std.specs.Prelude.{Bool, true, false, ◌==◌, ℕ, ◌+◌, ◌*◌, ◌-◌, ◌/◌, ◌%◌, ◌≤◌, List, ℤ, length, map, slice_index_or}
use Rattle.std.specs.List.{range_with_len}
use Rattle.terrain.specs.declared.brush.TheConstants.{MAX_SAMPLE}
use Rattle.field_pages.specs.declared.even.Extent.{Extent}
use Rattle.field_pages.specs.declared.page.TheConstants.{COUNT, SIDE}
use Rattle.field_pages.specs.declared.page_rows.Lent.{Lent}
use Rattle.field_pages.specs.declared.page_rows.Lent.TheVariants.{Even, Stepped}
use Rattle.field_pages.specs.Even.{even_list}

-- the sample at a place of a page each of whose rows begins at so many times its place among these samples
abbrev pub stepped_at : List ℤ → ℕ → ℕ → ℤ
stepped_at samples step k =
    slice_index_or samples (step * (SIDE * (k / SIDE)) + k % SIDE) MAX_SAMPLE

-- the samples of such a page
unfoldable pub stepped : List ℤ → ℕ → List ℤ
stepped samples step = map (stepped_at samples step) (range_with_len 0 COUNT)

-- there are as many samples as its rows reach
pub record IsRowStep (samples : List ℤ) (step : ℕ) : Type 0 where
  pub one : step ≤ 1
  pub room : step * (COUNT - SIDE) + SIDE ≤ length samples

-- the samples that rows are lent of
abbrev pub samples_lent : Lent → List ℤ
samples_lent (Even page rows) = even_list page
samples_lent (Stepped samples step) = stepped samples.now step

-- the samples among which its rows are, and how many steps each of a row's places is
abbrev pub list_lent : Lent → List ℤ
list_lent (Even page rows) = even_list page
list_lent (Stepped samples step) = samples.now

abbrev pub step_lent : Lent → ℕ
step_lent (Even page rows) = 0
step_lent (Stepped samples step) = step

-- of a page that keeps one sample alone, how many of its points are in the world along each axis
abbrev pub extent_lent : Lent → Extent
extent_lent (Even page rows) = page.extent
extent_lent (Stepped samples step) = record { z = SIDE; y = SIDE; x = SIDE }

-- rows are lent by steps
abbrev pub is_by_steps : Lent → Bool
is_by_steps (Even page rows) = false
is_by_steps (Stepped samples step) = true

-- all rows are lent as one: each begins at no step from the first
abbrev pub is_one_row : Lent → Bool
is_one_row (Even page rows) = false
is_one_row (Stepped samples step) = step == 0
