-- The axis that is written out is the key's own.
use Rattle.std.proofs.Common.{◌∙◌, refl, rules, w32}
use Rattle.std.proofs.lemmas.Int.{to_z-of_z}
use Rattle.field_pages.specs.Pages.{sample_at}
use Rattle.lattice.specs.declared.point.Axis.TheVariants.{X, Y, Z}
use Rattle.surface_normals.proofs.SlopeLemmas.{normal-on}
use Rattle.surface_normals.proofs.normals.normal.Goals as goal

pub returns-in-X : goal.returns-in-X
returns-in-X c =
    let version = c.args.version.now in
    normal-on version.depth (sample_at version) c.args.key X c.in-X.is _ _ _
    (to_z-of_z w32 c.along.result (search rules)
    ∙ c.along.ensures _ c.ends_of-ends.ensures refl)
    (to_z-of_z w32 c.across.result (search rules)
    ∙ c.across.ensures _ c.ends_of-ends.ensures)
    (to_z-of_z w32 c.across-in-X.result (search rules)
    ∙ c.across-in-X.ensures _ c.ends_of-ends.ensures)

pub returns-in-Y : goal.returns-in-Y
returns-in-Y c =
    let version = c.args.version.now in
    normal-on version.depth (sample_at version) c.args.key Y c.in-Y.is _ _ _
    (to_z-of_z w32 c.across-in-Y.result (search rules)
    ∙ c.across-in-Y.ensures _ c.ends_of-ends-in-Y.ensures)
    (to_z-of_z w32 c.along-in-Y.result (search rules)
    ∙ c.along-in-Y.ensures _ c.ends_of-ends-in-Y.ensures refl)
    (to_z-of_z w32 c.across-in-Y-2.result (search rules)
    ∙ c.across-in-Y-2.ensures _ c.ends_of-ends-in-Y.ensures)

pub returns-in-Z : goal.returns-in-Z
returns-in-Z c =
    let version = c.args.version.now in
    normal-on version.depth (sample_at version) c.args.key Z c.in-Z.is _ _ _
    (to_z-of_z w32 c.across-in-Z.result (search rules)
    ∙ c.across-in-Z.ensures _ c.ends_of-ends-in-Z.ensures)
    (to_z-of_z w32 c.across-in-Z-2.result (search rules)
    ∙ c.across-in-Z-2.ensures _ c.ends_of-ends-in-Z.ensures)
    (to_z-of_z w32 c.along-in-Z.result (search rules)
    ∙ c.along-in-Z.ensures _ c.ends_of-ends-in-Z.ensures refl)
