-- The place of a point on a face, by the axes.
use Rattle.std.proofs.Common.{◌≡◌, ◌∙◌, refl, arith}
use Rattle.lattice.specs.declared.point.Axis.{Axis}
use Rattle.lattice.specs.declared.point.Axis.TheVariants.{X, Y, Z}
use Rattle.lattice.specs.declared.point.Point.{Point}
use Rattle.lattice.specs.Face.{axis_across, axis_along, higher, lower}
use Rattle.lattice.specs.Point.{coordinate, moved}
use Rattle.bricks.proofs.FaceLemmas.{lower-off}
use Rattle.block_mesh.proofs.builder.face_steps.Goals as goal

coordinate-none : (axis : Axis) → coordinate axis (record { z = 0; y = 0; x = 0 }) ≡ 0
coordinate-none X = refl
coordinate-none Y = refl
coordinate-none Z = refl

pub moved-requires-3 : goal.moved-requires-3
moved-requires-3 c =
    let face = c.args.face in
    let off = c.if-is_high.off in
    let corner : Point = record { z = 0; y = 0; x = 0 } in
    let first : c.moved.result ≡ moved (axis_across face) off corner =
    c.moved.ensures ∙ (λ i. moved (c.axis_across.ensures i) off (c.new.ensures i)) in
    let second : c.moved-2.result
    ≡ moved (axis_along face higher) c.args.v (moved (axis_across face) off corner) =
    c.moved-2.ensures ∙ (λ i. moved (c.higher_axis.ensures i) c.args.v (first i)) in
    let none : coordinate c.lower_axis.result c.moved-2.result ≡ 0 =
    (λ i. coordinate (c.lower_axis.ensures i) (second i))
    ∙ lower-off face off c.args.v corner ∙ coordinate-none (axis_along face lower) in
    omega (arith, none, c.requires.u)
