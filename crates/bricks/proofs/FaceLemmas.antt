-- The rows of points of a leaf's faces are in the world, so that their samples can be read.
--
-- For `fine_line` of `faces.rt`. Coordinates of a row are the node's low corner and steps of half a cell, which stay
-- within the node's side (`half-fits`), and the node lies in the world. The rows take cases by the face
-- (`face-point`). So the samples of a face are in range where those of the field are (`face-range`).
use Rattle.std.proofs.Common.{◌≡◌, ℕ, suc, ◌+◌, ◌-◌, ◌*◌, ◌^◌, ◌<◌, ◌≤◌, true, false, refl, sym, ap, ◌∙◌, subst, arith}
use Rattle.std.specs.Prelude.{All}
use Rattle.std.proofs.Math.Nat.{mul-le-mul_left, pow-suc}
use Rattle.std.proofs.lemmas.Nat.{pow_pos}
use Rattle.lattice.specs.declared.node.Node.{Node}
use Rattle.lattice.specs.declared.point.Axis.{Axis}
use Rattle.lattice.specs.declared.point.Axis.TheVariants.{X, Y, Z}
use Rattle.lattice.specs.declared.point.Face.{Face}
use Rattle.lattice.specs.declared.point.Face.TheVariants.{XLow, XHigh, YLow, YHigh, ZLow, ZHigh}
use Rattle.lattice.specs.declared.point.Point.{Point}
use Rattle.lattice.specs.declared.settings.TheConstants.{MAX_DEPTH}
use Rattle.lattice.specs.Face.{axis_across, axis_along, higher, is_high, lower}
use Rattle.lattice.specs.Node.{high_corner, low_corner, node_side}
use Rattle.lattice.specs.Point.{IsInWorld, coordinate, moved}
use Rattle.lattice.specs.Settings.{world_side}
use Rattle.terrain.specs.Blocks.{face_samples}
use Rattle.terrain.specs.Samples.{Field, IsSample}
use Rattle.bricks.specs.Line.{IsLine, line_point, line_samples}
use Rattle.bricks.specs.Brick.{fine_line}
use Rattle.bricks.proofs.BrickLemmas.{face_samples-rows}
use Rattle.lattice.proofs.JoinedLemmas.{All-joined}
use Rattle.lattice.proofs.RowLemmas.{All-singles}

-- a node's low corner and its side are below its high corner
pub side-fits : (depth index level : ℕ) → (index + 1) * node_side level ≤ world_side depth
    → index * node_side level + 16 * 2 ^ level ≤ world_side depth
side-fits depth index level h = omega (arith, h)

-- a step of a level's cells within a leaf
pub step-fits : (depth low level k : ℕ) → low + 16 * 2 ^ level ≤ world_side depth → k < 17
    → low + 2 ^ level * k ≤ world_side depth
step-fits depth low level k h k_in =
    let within : k ≤ 16 = omega arith in
    omega (arith, h, mul-le-mul_left (2 ^ level) within)

-- moving across a face leaves the axes along it
pub higher-off : (face : Face) (off : ℕ) (p : Point)
    → coordinate (axis_along face higher) (moved (axis_across face) off p)
    ≡ coordinate (axis_along face higher) p
higher-off XLow off p = refl
higher-off XHigh off p = refl
higher-off YLow off p = refl
higher-off YHigh off p = refl
higher-off ZLow off p = refl
higher-off ZHigh off p = refl

-- a coordinate of a node's low corner
pub low-few : (n : Node) → IsInWorld MAX_DEPTH (high_corner n) → (axis : Axis)
    → coordinate axis (low_corner n) + 16 * 2 ^ n.level ≤ world_side MAX_DEPTH
low-few n there X = side-fits MAX_DEPTH n.i n.level there.x
low-few n there Y = side-fits MAX_DEPTH n.j n.level there.y
low-few n there Z = side-fits MAX_DEPTH n.k n.level there.z

-- a half step within a leaf's face
pub half-fits : (level v : ℕ) → 1 ≤ level → v < 33
    → 2 ^ (level - 1) * v ≤ 16 * 2 ^ level
half-fits level v some v_in =
    let within : v ≤ 32 = omega arith in
    let twice : 2 ^ level ≡ 2 * 2 ^ (level - 1) =
    ap (λ l. 2 ^ l) (let e : level ≡ suc (level - 1) = omega arith in e) ∙ pow-suc 2 (level - 1)
    ∙ omega arith in
    omega (arith, twice, mul-le-mul_left (2 ^ (level - 1)) within)

-- a step of half a cell within a leaf's face
step-half : (depth low level k : ℕ) → low + 16 * 2 ^ level ≤ world_side depth → 1 ≤ level → k < 33
    → low + 2 ^ (level - 1) * k ≤ world_side depth
step-half depth low level k h some k_in = omega (arith, h, half-fits level k some k_in)

-- going along a face leaves its lower axis
pub lower-off : (face : Face) (off on : ℕ) (p : Point)
    → coordinate (axis_along face lower) (moved (axis_along face higher) on
    (moved (axis_across face) off p)) ≡ coordinate (axis_along face lower) p
lower-off XLow off on p = refl
lower-off XHigh off on p = refl
lower-off YLow off on p = refl
lower-off YHigh off on p = refl
lower-off ZLow off on p = refl
lower-off ZHigh off on p = refl

-- the points on a face of a leaf are in the world
module _ (depth : ℕ) (n : Node) (here : IsInWorld depth (high_corner n)) (some : 1 ≤ n.level)
    (v u : ℕ) (v_in : v < 33) (u_in : u < 33) where
  -- the node along z is in the world
  low_z : n.k * node_side n.level + 16 * 2 ^ n.level ≤ world_side depth
  low_z = side-fits depth n.k n.level here.z

  -- and along y
  low_y : n.j * node_side n.level + 16 * 2 ^ n.level ≤ world_side depth
  low_y = side-fits depth n.j n.level here.y

  -- and along x
  low_x : n.i * node_side n.level + 16 * 2 ^ n.level ≤ world_side depth
  low_x = side-fits depth n.i n.level here.x

  -- a point of a row is in the world, face by face
  face-point : (face : Face) → IsInWorld depth (line_point (fine_line n face v) u)
  face-point XLow = record {
    z = step-half depth (n.k * node_side n.level) n.level v low_z some v_in;
    y = step-half depth (n.j * node_side n.level) n.level u low_y some u_in;
    x = omega (arith, low_x);
  }
  face-point XHigh = record {
    z = step-half depth (n.k * node_side n.level) n.level v low_z some v_in;
    y = step-half depth (n.j * node_side n.level) n.level u low_y some u_in;
    x = low_x;
  }
  face-point YLow = record {
    z = step-half depth (n.k * node_side n.level) n.level v low_z some v_in;
    y = omega (arith, low_y);
    x = step-half depth (n.i * node_side n.level) n.level u low_x some u_in;
  }
  face-point YHigh = record {
    z = step-half depth (n.k * node_side n.level) n.level v low_z some v_in;
    y = low_y;
    x = step-half depth (n.i * node_side n.level) n.level u low_x some u_in;
  }
  face-point ZLow = record {
    z = omega (arith, low_z);
    y = step-half depth (n.j * node_side n.level) n.level v low_y some v_in;
    x = step-half depth (n.i * node_side n.level) n.level u low_x some u_in;
  }
  face-point ZHigh = record {
    z = low_z;
    y = step-half depth (n.j * node_side n.level) n.level v low_y some v_in;
    x = step-half depth (n.i * node_side n.level) n.level u low_x some u_in;
  }

-- the rows of a face are lines of the world
pub face-line : (depth : ℕ) (n : Node) → IsInWorld depth (high_corner n)
    → IsInWorld MAX_DEPTH (high_corner n) → 1 ≤ n.level → (face : Face) (v : ℕ) → v < 33
    → IsLine depth (fine_line n face v)
face-line depth n here there some face v v_in =
    let half : 0 < 2 ^ (n.level - 1) = pow_pos (n.level - 1) in
    let off : ℕ = elim (is_high face) [ true ↦ node_side n.level | false ↦ 0 ] in
    record {
      stride = omega arith;
      fits = omega (
        arith,
        lower-off face off (2 ^ (n.level - 1) * v) (low_corner n),
        low-few n there (axis_along face lower),
        half-fits n.level 32 some (omega arith),
      );
      points = λ u u_in. face-point depth n here some v u v_in u_in face;
    }

-- the finer samples of a face are in range where a field's are
pub face-range : (depth : ℕ) (s : Field) (n : Node) → IsInWorld depth (high_corner n)
    → IsInWorld MAX_DEPTH (high_corner n) → 1 ≤ n.level → (face : Face)
    → ((p : Point) → IsInWorld depth p → IsSample (s p)) → All IsSample (face_samples s n face)
face-range depth s n here there some face range =
    subst (All IsSample) (sym (face_samples-rows s n face))
    (All-joined IsSample 33 (λ v. line_samples s (fine_line n face v)) (λ v v_in.
    let line = face-line depth n here there some face v v_in in
    All-singles IsSample 33 (λ u. s (line_point (fine_line n face v) u)) (λ u u_in.
    range (line_point (fine_line n face v) u) (line.points u u_in))))
