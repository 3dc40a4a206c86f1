-- The lattice points of a leaf and its keys, by steps from its low corner.
-- Source: this project's rule.
use Rattle.std.specs.Prelude.{ℕ, ◌≤◌, true, false}
use Rattle.lattice.specs.declared.key.Key.{Key}
use Rattle.lattice.specs.declared.node.Node.{Node}
use Rattle.lattice.specs.declared.point.Axis.{Axis}
use Rattle.lattice.specs.declared.point.Point.{Point}
use Rattle.lattice.specs.declared.point.Face.{Face}
use Rattle.lattice.specs.Face.{axis_across, axis_along, higher, is_high, lower}
use Rattle.lattice.specs.Node.{low_corner}
use Rattle.lattice.specs.Point.{moved, point_from}

-- the point that is so many cells of a level from a leaf's low corner
abbrev pub point_at : ℕ → Node → Point → Point
point_at level n steps = point_from (low_corner n) level steps

-- the key of a level that begins there
abbrev pub key_at : ℕ → Node → Point → Axis → Key
key_at level n steps axis = record { level = level; at = point_at level n steps; axis = axis }

-- there are at most so many steps on each axis
pub record AreAtMost (most : ℕ) (steps : Point) : Type 0 where
  pub z : steps.z ≤ most
  pub y : steps.y ≤ most
  pub x : steps.x ≤ most

-- the steps from a leaf's low corner to the point of a face that is the v-th and the u-th on the face's higher and
-- lower axis, where a side of the leaf is so many steps
abbrev pub face_steps : Face → ℕ → ℕ → ℕ → Point
face_steps face side v u =
    let off : ℕ = elim (is_high face) [ true ↦ side | false ↦ 0 ] in
    let corner : Point = record { z = 0; y = 0; x = 0 } in
    moved (axis_along face lower) u
    (moved (axis_along face higher) v (moved (axis_across face) off corner))
