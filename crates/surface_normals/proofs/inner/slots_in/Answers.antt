-- A key of the leaf's level lies in the leaf by the steps to its near end.
use Rattle.std.proofs.Common.{◌≡◌, ◌+◌, ◌*◌, ◌^◌, ◌<◌, ◌∙◌, arith, subst}
use Rattle.bricks.specs.Slots.{point_slot}
use Rattle.lattice.specs.declared.point.Point.{Point}
use Rattle.lattice.specs.Node.{node_side}
use Rattle.lattice.specs.Point.{coordinate}
use Rattle.surface_normals.proofs.InnerLemmas.{most-further, slot-further}
use Rattle.surface_normals.proofs.inner.slots_in.Goals as goal

pub returns : goal.returns
returns c = λ depth is.
    let key = c.args.key.now in
    let leaf = c.args.leaf in
    let steps : Point = record {
      z = c.in_ok-steps_to.field-0;
      y = c.in_ok-steps_to-2.field-0;
      x = c.in_ok-steps_to-3.field-0;
    } in
    let level : key.level ≡ leaf.level = omega (arith, c.if-key-leaf.false) in
    let z : key.at.z ≡ leaf.k * node_side leaf.level + 2 ^ leaf.level * steps.z =
    subst (λ l. key.at.z ≡ leaf.k * node_side l + 2 ^ l * steps.z) level
    (c.in_ok-steps_to.ensures is.z) in
    let y : key.at.y ≡ leaf.j * node_side leaf.level + 2 ^ leaf.level * steps.y =
    subst (λ l. key.at.y ≡ leaf.j * node_side l + 2 ^ l * steps.y) level
    (c.in_ok-steps_to-2.ensures is.y) in
    let x : key.at.x ≡ leaf.i * node_side leaf.level + 2 ^ leaf.level * steps.x =
    subst (λ l. key.at.x ≡ leaf.i * node_side l + 2 ^ l * steps.x) level
    (c.in_ok-steps_to-3.ensures is.x) in
    let along = c.coordinate-along.ensures in
    let few : coordinate key.axis steps < 16 =
    omega (arith, c.if-along-ge-CELLS.false, along) in
    let most = c.is_in_leaf.ensures c.if-not-is_in_leaf.false in
    let near : steps.z * 289 + steps.y * 17 + steps.x ≡ point_slot steps = omega arith in
    record {
      level = level;
      at = λ i. record { z = z i; y = y i; x = x i };
      most = most-further key.axis steps most few;
      near = near;
      far = (λ i. near i + c.step_on.ensures i) ∙ slot-further key.axis steps;
      along = along;
    }
