-- The whole rows have the brush's region.
use Rattle.std.proofs.Common.{sym, subst}
use Rattle.lattice.specs.declared.region.Region.{Region}
use Rattle.lattice.specs.Region.{IsWithin}
use Rattle.brushes.proofs.editing.fill_or_carve.Goals as goal

pub version_after-requires-clause-whole : goal.version_after-requires-clause-whole
version_after-requires-clause-whole g c = λ p within.
    c.whole_rows-rows.ensures.whole p
    (subst (λ (box : Region). IsWithin box p) (sym c.requires.area) within)
