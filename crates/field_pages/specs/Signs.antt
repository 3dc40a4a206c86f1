-- What the signs of a page's samples are.
-- Source: this project's rule.
use Rattle.std.specs.Prelude.{Bool, true, false, not, ℤ, List, if◌then◌else◌}
use Rattle.std.specs.List.{list_all}
use Rattle.terrain.specs.Samples.{is_solid}
use Rattle.field_pages.specs.declared.signs.Signs.{Signs}
use Rattle.field_pages.specs.declared.signs.Signs.TheVariants.{Empty, Solid, Mixed}

-- the signs of samples: none is solid, all are, or there are both kinds
unfoldable pub sample_signs : List ℤ → Signs
sample_signs samples =
    if list_all (λ sample. not (is_solid sample)) samples then Empty
    else (if list_all is_solid samples then Solid else Mixed)

-- the signs of samples that are all solid, or of which none is
abbrev pub one_sign : Bool → Signs
one_sign false = Empty
one_sign true = Solid
