-- How far the lattice points of a leaf move, by the leaf's rim alone.
-- Source: this project's rule.
use Rattle.std.specs.Prelude.{◌≡◌, ℕ, ◌-◌, ◌/◌, ◌*◌, ◌^◌, Bool, false, ◌&&◌, not, if◌then◌else◌, List, ℤ, pos, ◌<◌, slice_get, Some, unsigned_abs, ◌≤◌}
use Rattle.std.specs.Option.{option_map_or}
use Rattle.std.specs.List.{list_any}
use Rattle.lattice.specs.declared.node.TheConstants.{CELLS}
use Rattle.lattice.specs.declared.point.Axis.{Axis}
use Rattle.lattice.specs.declared.point.Axis.TheVariants.{X, Y, Z}
use Rattle.lattice.specs.declared.point.Point.{Point}
use Rattle.lattice.specs.declared.point.TheConstants.{UNITS}
use Rattle.lattice.specs.declared.region.Region.{Region}
use Rattle.lattice.specs.declared.node.Node.{Node}
use Rattle.lattice.specs.Node.{IsNode, cube}
use Rattle.lattice.specs.Offset.{Direction, has_neighbour}
use Rattle.lattice.specs.Region.{IsWithin}
use Rattle.lattice.specs.Settings.{IsDepth}
use Rattle.terrain.specs.Blocks.{shift}
use Rattle.terrain.specs.Cells.{is_set}
use Rattle.terrain.specs.Levels.{IsBalanced, IsLeaf, LevelMap, rim}
use Rattle.vertex_places.specs.declared.direction.TheConstants.{DIRECTIONS}
use Rattle.vertex_places.specs.declared.leaf_rim.LeafRim.{LeafRim}
use Rattle.vertex_places.specs.declared.moves.Move.{Move}
use Rattle.vertex_places.specs.Directions.{beyond, border_of, facing, inwards, direction_numbered, rim_bit, step_on}

-- how far a move is on an axis
abbrev pub move_on : Axis → Move → ℤ
move_on X move = move.x
move_on Y move = move.y
move_on Z move = move.z

-- a leaf whose node is in a world of an allowed depth
pub record IsWorldLeaf (leaf : LeafRim) : Type 0 where
  pub depth : IsDepth leaf.depth
  pub node : IsNode leaf.depth leaf.node

-- whether the neighbour of a leaf in a direction is in the world and split, by the leaf's rim
abbrev pub is_finer_by : LeafRim → Direction → Bool
is_finer_by leaf d = option_map_or (is_set leaf.rim) (rim_bit d) false

-- whether it is in the world and isn't split
abbrev pub is_whole_by : LeafRim → Direction → Bool
is_whole_by leaf d = has_neighbour leaf.depth d leaf.node && not (is_finer_by leaf d)

-- whether the points on a border of a leaf move on an axis: the place across their face is finer, and none of those
-- beyond the border is whole
abbrev pub moves_inwards : LeafRim → Direction → Axis → Bool
moves_inwards leaf d axis =
    is_finer_by leaf (facing axis d) && not (list_any (is_whole_by leaf) (beyond axis d))

-- a quarter of a cell of a level, in 1/256 cell
abbrev pub quarter : ℕ → ℕ
quarter level = UNITS / 4 * 2 ^ level

-- how far they move: a quarter of a cell into the leaf
abbrev pub border_move : LeafRim → Direction → Axis → ℤ
border_move leaf d axis =
    let far = pos (quarter leaf.node.level) in
    if moves_inwards leaf d axis then inwards (step_on axis d) far else pos 0

-- the same on all three axes
abbrev pub move_at : LeafRim → Direction → Move
move_at leaf d = record {
  x = border_move leaf d X;
  y = border_move leaf d Y;
  z = border_move leaf d Z;
}

-- how far the lattice point of a leaf moves that is so many cells of its level from its low corner
abbrev pub leaf_move : LeafRim → ℕ → ℕ → ℕ → Move
leaf_move leaf z y x = move_at leaf (border_of z y x)

-- these are the moves on the borders of a leaf, by the borders' numbers
abbrev pub HasMoves : LeafRim → List Move → Type 0
HasMoves leaf table =
    (n : ℕ) → n < DIRECTIONS → slice_get table n ≡ Some (move_at leaf (direction_numbered n))

-- the lattice points of a leaf that lie on no face across which its neighbour is split, by cells from its low corner
abbrev pub still_points : LeafRim → Region
still_points leaf =
    let off : ℕ → ℕ → ℕ → ℕ = λ z y x.
    if is_finer_by leaf (record { z = z; y = y; x = x }) then 1 else 0 in
    record {
      lo = record { z = off 0 1 1; y = off 1 0 1; x = off 1 1 0 };
      hi = record { z = CELLS - off 2 1 1; y = CELLS - off 1 2 1; x = CELLS - off 1 1 2 };
    }

-- a leaf's box of these points, and its moves
pub record AreMoves (leaf : LeafRim) (box : Region) (table : List Move) : Type 0 where
  pub still : box ≡ still_points leaf
  pub moves : HasMoves leaf table

-- the points on a way up from a point to another are in a box
pub record IsWayIn (box : Region) (from to : Point) : Type 0 where
  pub z : box.lo.z ≤ from.z
  pub z_end : to.z ≤ box.hi.z
  pub y : box.lo.y ≤ from.y
  pub y_end : to.y ≤ box.hi.y
  pub x : box.lo.x ≤ from.x
  pub x_end : to.x ≤ box.hi.x

-- a leaf is one of a level map, with its rim there
pub record IsLeafOf (m : LevelMap) (leaf : LeafRim) : Type 0 where
  pub node : IsLeaf leaf.depth m leaf.node
  pub bits : rim leaf.depth m leaf.node ≡ leaf.rim

-- a move is how far a point moves as the end of a key of a level
pub record IsShift (depth : ℕ) (m : LevelMap) (level : ℕ) (p : Point) (move : Move) : Type 0 where
  pub x : move.x ≡ shift depth m level p X
  pub y : move.y ≡ shift depth m level p Y
  pub z : move.z ≡ shift depth m level p Z

-- a move is at most a quarter of a cell of a level on each axis
pub record IsSmall (level : ℕ) (move : Move) : Type 0 where
  pub x : unsigned_abs move.x ≤ quarter level
  pub y : unsigned_abs move.y ≤ quarter level
  pub z : unsigned_abs move.z ≤ quarter level

-- no point of a leaf of a balanced map moves at the level below the leaf's
abbrev pub FinePointsStay : Type 0
FinePointsStay =
    (depth : ℕ) (m : LevelMap) (n : Node) (p : Point) (axis : Axis) → IsBalanced depth m
    → IsLeaf depth m n → 1 ≤ n.level
    → IsWithin (cube n) p
    → shift depth m (n.level - 1) p axis ≡ pos 0
