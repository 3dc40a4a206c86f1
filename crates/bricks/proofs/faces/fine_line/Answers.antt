-- The line begins at the low corner of the face.
use Rattle.std.proofs.Common.{◌≡◌, ◌-◌, ◌*◌, ◌^◌, ◌%◌, ap, ◌∙◌, arith}
use Rattle.std.proofs.lemmas.Nat.{one_shl}
use Rattle.lattice.specs.declared.settings.TheConstants.{MAX_DEPTH}
use Rattle.lattice.specs.Face.{axis_across, axis_along, higher}
use Rattle.lattice.specs.Node.{low_corner}
use Rattle.lattice.specs.Point.{coordinate, moved}
use Rattle.bricks.proofs.FaceLemmas.{half-fits, higher-off, low-few}
use Rattle.bricks.proofs.faces.fine_line.Goals as goal

pub moved-requires : goal.moved-requires
moved-requires c =
    let leaf = c.args.leaf in
    let face = c.args.face in
    let there = c.nodes_of_worlds.ensures.corner MAX_DEPTH leaf c.requires.leaf in
    let few = low-few leaf there (axis_along face higher) in
    let half = half-fits leaf.level c.args.v c.requires.level c.requires.v in
    let off = c.if-is_high.off in
    let low : c.moved-low.result ≡ moved (axis_across face) off (low_corner leaf) =
    c.moved-low.ensures ∙ (λ i. moved (c.axis_across.ensures i) off (c.low_corner.ensures i)) in
    let at : coordinate c.higher_axis.result c.moved-low.result
    ≡ coordinate (axis_along face higher) (low_corner leaf) =
    (λ i. coordinate (c.higher_axis.ensures i) (low i)) ∙ higher-off face off (low_corner leaf) in
    let stride : 1 * 2 ^ (leaf.level - 1) % 2 ^ 32 ≡ 2 ^ (leaf.level - 1) =
    one_shl (leaf.level - 1) 32 (omega (arith, c.requires.leaf.level)) in
    let step : 1 * 2 ^ (leaf.level - 1) % 2 ^ 32 * c.args.v ≡ 2 ^ (leaf.level - 1) * c.args.v =
    ap (λ n. n * c.args.v) stride in
    omega (arith, at, few, half, step)
