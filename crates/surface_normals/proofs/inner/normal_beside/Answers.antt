-- On each axis it is the key's normal: across the key, and along it by both ends.
use Rattle.std.proofs.Common.{◌∙◌, ap, rules, subst, w32}
use Rattle.std.proofs.lemmas.Int.{to_z-of_z}
use Rattle.field_pages.specs.Pages.{sample_at}
use Rattle.lattice.specs.Point.{is_same_axis}
use Rattle.lattice.specs.declared.point.Axis.TheVariants.{X, Y, Z}
use Rattle.surface_normals.specs.Inner.{IsInLeaf}
use Rattle.surface_normals.specs.Normals.{normal_on}
use Rattle.surface_normals.proofs.inner.normal_beside.Goals as goal

pub along_key-along-requires-clause-slots : goal.along_key-along-requires-clause-slots
along_key-along-requires-clause-slots c =
    subst (λ n. IsInLeaf n c.args.key c.in-Some-slots_in.slots) c.node.ensures.value
    (c.in-Some-slots_in.ensures c.args.version.now.depth c.requires.key)

pub across_key-requires-clause-slots : goal.across_key-requires-clause-slots
across_key-requires-clause-slots c =
    subst (λ n. IsInLeaf n c.args.key c.in-Some-slots_in.slots) c.node.ensures.value
    (c.in-Some-slots_in.ensures c.args.version.now.depth c.requires.key)

pub across_key-requires-in-X-clause-slots : goal.across_key-requires-in-X-clause-slots
across_key-requires-in-X-clause-slots c =
    subst (λ n. IsInLeaf n c.args.key c.in-Some-slots_in.slots) c.node.ensures.value
    (c.in-Some-slots_in.ensures c.args.version.now.depth c.requires.key)

pub across_key-requires-in-Y-clause-slots : goal.across_key-requires-in-Y-clause-slots
across_key-requires-in-Y-clause-slots c =
    subst (λ n. IsInLeaf n c.args.key c.in-Some-slots_in.slots) c.node.ensures.value
    (c.in-Some-slots_in.ensures c.args.version.now.depth c.requires.key)

pub across_key-requires-in-Y-2-clause-slots : goal.across_key-requires-in-Y-2-clause-slots
across_key-requires-in-Y-2-clause-slots c =
    subst (λ n. IsInLeaf n c.args.key c.in-Some-slots_in.slots) c.node.ensures.value
    (c.in-Some-slots_in.ensures c.args.version.now.depth c.requires.key)

pub across_key-requires-in-Z-clause-slots : goal.across_key-requires-in-Z-clause-slots
across_key-requires-in-Z-clause-slots c =
    subst (λ n. IsInLeaf n c.args.key c.in-Some-slots_in.slots) c.node.ensures.value
    (c.in-Some-slots_in.ensures c.args.version.now.depth c.requires.key)

pub across_key-requires-in-Z-2-clause-slots : goal.across_key-requires-in-Z-2-clause-slots
across_key-requires-in-Z-2-clause-slots c =
    subst (λ n. IsInLeaf n c.args.key c.in-Some-slots_in.slots) c.node.ensures.value
    (c.in-Some-slots_in.ensures c.args.version.now.depth c.requires.key)

pub across_key-requires-clause-across : goal.across_key-requires-clause-across
across_key-requires-clause-across c = ap (is_same_axis Y) c.in-X.is

pub across_key-requires-in-X-clause-across : goal.across_key-requires-in-X-clause-across
across_key-requires-in-X-clause-across c = ap (is_same_axis Z) c.in-X.is

pub across_key-requires-in-Y-clause-across : goal.across_key-requires-in-Y-clause-across
across_key-requires-in-Y-clause-across c = ap (is_same_axis X) c.in-Y.is

pub across_key-requires-in-Y-2-clause-across : goal.across_key-requires-in-Y-2-clause-across
across_key-requires-in-Y-2-clause-across c = ap (is_same_axis Z) c.in-Y.is

pub across_key-requires-in-Z-clause-across : goal.across_key-requires-in-Z-clause-across
across_key-requires-in-Z-clause-across c = ap (is_same_axis X) c.in-Z.is

pub across_key-requires-in-Z-2-clause-across : goal.across_key-requires-in-Z-2-clause-across
across_key-requires-in-Z-2-clause-across c = ap (is_same_axis Y) c.in-Z.is

pub returns-in-X : goal.returns-in-X
returns-in-X c =
    let version = c.args.version.now in
    let x = to_z-of_z w32 c.along_key-along.result (search rules) ∙ c.along_key-along.ensures
    ∙ ap (normal_on version.depth (sample_at version) c.args.key) c.in-X.is in
    let y = to_z-of_z w32 c.across_key.result (search rules) ∙ c.across_key.ensures in
    let z = to_z-of_z w32 c.across_key-in-X.result (search rules) ∙ c.across_key-in-X.ensures in
    λ i. record { x = x i; y = y i; z = z i }

pub returns-in-Y : goal.returns-in-Y
returns-in-Y c =
    let version = c.args.version.now in
    let y = to_z-of_z w32 c.along_key-along.result (search rules) ∙ c.along_key-along.ensures
    ∙ ap (normal_on version.depth (sample_at version) c.args.key) c.in-Y.is in
    let x = to_z-of_z w32 c.across_key-in-Y.result (search rules) ∙ c.across_key-in-Y.ensures in
    let z = to_z-of_z w32 c.across_key-in-Y-2.result (search rules) ∙ c.across_key-in-Y-2.ensures in
    λ i. record { x = x i; y = y i; z = z i }

pub returns-in-Z : goal.returns-in-Z
returns-in-Z c =
    let version = c.args.version.now in
    let z = to_z-of_z w32 c.along_key-along.result (search rules) ∙ c.along_key-along.ensures
    ∙ ap (normal_on version.depth (sample_at version) c.args.key) c.in-Z.is in
    let x = to_z-of_z w32 c.across_key-in-Z.result (search rules) ∙ c.across_key-in-Z.ensures in
    let y = to_z-of_z w32 c.across_key-in-Z-2.result (search rules) ∙ c.across_key-in-Z-2.ensures in
    λ i. record { x = x i; y = y i; z = z i }
