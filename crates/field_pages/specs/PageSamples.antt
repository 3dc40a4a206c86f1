-- The samples of a page, however it keeps them.
-- Source: this project's rule.
use Rattle.std.specs.Prelude.{◌≡◌, List, ℤ, length}
use Rattle.std.specs.Arc.{arc_value}
use Rattle.field_pages.specs.declared.page.Samples.{Samples}
use Rattle.field_pages.specs.declared.page.Samples.TheVariants.{Even, Full}
use Rattle.field_pages.specs.declared.page.TheConstants.{COUNT}
use Rattle.field_pages.specs.Even.{IsExtent, even_list}
use Rattle.field_pages.specs.Places.{IsEven}
use Rattle.field_pages.specs.Signs.{sample_signs}
use Rattle.field_pages.specs.declared.signs.Signs.{Signs}

-- a page's samples: one at each of its points of the world, or each by itself
abbrev pub page_list : Samples → List ℤ
page_list (Even page) = even_list page
page_list (Full signs samples) = (arc_value samples).items

-- each by itself they are as many as a page has, and not all the same, and what their signs are is
-- kept beside them
pub record AreUneven (samples : List ℤ) (signs : Signs) : Type 0 where
  pub long : length samples ≡ COUNT
  pub uneven : IsEven samples → ⊥
  pub signed : signs ≡ sample_signs samples

-- what every page keeps
abbrev pub IsPage : Samples → Type 0
IsPage (Even page) = IsExtent page.extent
IsPage (Full signs samples) = AreUneven (arc_value samples).items signs
