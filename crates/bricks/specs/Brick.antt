-- Bricks: what each of them keeps, and the fields and level maps that have it.
-- Source: this project's rule.
use Rattle.std.specs.Prelude.{◌≡◌, ℕ, ◌+◌, ◌-◌, ◌*◌, ◌^◌, true, false, IsTrue, List, [], Some, All, flat_map, slice_get}
use Rattle.lattice.specs.declared.node.Node.{Node}
use Rattle.lattice.specs.declared.point.Face.{Face}
use Rattle.lattice.specs.declared.point.Face.TheVariants.{XLow, XHigh, YLow, YHigh, ZLow, ZHigh}
use Rattle.lattice.specs.declared.node.TheConstants.{CELLS}
use Rattle.lattice.specs.declared.point.Axis.TheVariants.{X}
use Rattle.lattice.specs.Face.{axis_across, axis_along, faces, higher, is_high, lower}
use Rattle.lattice.specs.Node.{IsNode, low_corner, node_side}
use Rattle.lattice.specs.Offset.{Direction, directions, has_neighbour}
use Rattle.lattice.specs.Point.{moved}
use Rattle.lattice.specs.Settings.{IsDepth}
use Rattle.terrain.specs.Samples.{Field, IsSample}
use Rattle.terrain.specs.Cells.{is_set}
use Rattle.terrain.specs.Levels.{LevelMap, IsBalanced, IsLeaf}
use Rattle.terrain.specs.Blocks.{Brick, brick, face_samples, leaf_samples}
use Rattle.bricks.specs.declared.line.Line.{Line}

-- the number of a rim's bit for the place across a face
abbrev pub face_bit : Face → ℕ
face_bit XLow = 12
face_bit XHigh = 13
face_bit YLow = 10
face_bit YHigh = 15
face_bit ZLow = 4
face_bit ZHigh = 21

-- what f gives for the faces whose bits are set in a rim, in the order of faces
abbrev pub over_rim : {A : Type 0} → ℕ → (Face → List A) → List A
over_rim rim f =
    flat_map (λ face. elim (is_set rim (face_bit face)) [ true ↦ f face | false ↦ [] ]) faces

-- a leaf may have this rim: each bit that is set has the number of a direction that leads to a place of the world,
-- and at level 0 none is set
pub record IsRim (depth : ℕ) (n : Node) (rim : ℕ) : Type 0 where
  pub places : (bit : ℕ) → IsTrue (is_set rim bit)
      → (d : Direction) × (slice_get directions bit ≡ Some d) × IsTrue (has_neighbour depth d n)
  pub level : n.level ≡ 0 → rim ≡ 0

-- a field has all samples of a brick: those of the leaf, and the finer ones of the faces whose bits are set
pub record HasSamples (s : Field) (b : Brick) : Type 0 where
  pub leaf : b.samples ≡ leaf_samples s b.node
  pub faces : b.faces ≡ over_rim b.rim (face_samples s b.node)

-- a field and a balanced level map have a brick: it is that of a leaf of the map
pub record HasBrick (s : Field) (m : LevelMap) (b : Brick) : Type 0 where
  pub balanced : IsBalanced b.depth m
  pub leaf : IsLeaf b.depth m b.node
  pub same : b ≡ brick b.depth s m b.node

-- what every brick keeps: it is of a node of an allowed world and of a rim that a leaf may have, its samples are from
-- -127 to 127, and some field and balanced level map have it, so that all samples given for one point are equal
pub record IsBrick (b : Brick) : Type 0 where
  pub depth : IsDepth b.depth
  pub node : IsNode b.depth b.node
  pub rim : IsRim b.depth b.node b.rim
  pub leaf_range : All IsSample b.samples
  pub face_range : All IsSample b.faces
  pub source : ∥ ((s : Field) × (m : LevelMap) × HasBrick s m b) ∥₁

-- the row of a leaf's points that is the z-th and the y-th on these axes
abbrev pub leaf_line : Node → ℕ → ℕ → Line
leaf_line n z y =
    let low = low_corner n in
    let stride = 2 ^ n.level in
    record {
      from = record { z = low.z + stride * z; y = low.y + stride * y; x = low.x };
      axis = X;
      stride = stride;
      count = CELLS + 1;
    }

-- the row of the finer points on a leaf's face that is the v-th on the face's higher axis
abbrev pub fine_line : Node → Face → ℕ → Line
fine_line n face v =
    let half = 2 ^ (n.level - 1) in
    let off : ℕ = elim (is_high face) [ true ↦ node_side n.level | false ↦ 0 ] in
    record {
      from =
          moved (axis_along face higher) (half * v) (moved (axis_across face) off (low_corner n));
      axis = axis_along face lower;
      stride = half;
      count = 2 * CELLS + 1;
    }
