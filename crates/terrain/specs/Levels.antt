-- Levels: which nodes are split, the leaves, octrees and balance, and the rim of a leaf.
-- Source: neighbouring blocks differ by at most one level, after Lengyel (2010); the rest is this project's rule.
use Rattle.std.specs.Prelude.{◌≡◌, ℕ, zero, suc, ◌+◌, ◌*◌, ◌<◌, ◌≤◌, Bool, true, false, ◌&&◌, ◌||◌, not, ◌⊎◌, List, [], ◌∷◌, map, filter, nat_lt, ◌==◌, if◌then◌else◌, IsTrue, IsFalse, Option, Some, None, option_to_list}
use Rattle.lattice.specs.declared.point.Point.{Point}
use Rattle.lattice.specs.declared.point.Face.{Face}
use Rattle.lattice.specs.declared.node.Node.{Node}
use Rattle.lattice.specs.declared.settings.Settings.{Settings}
use Rattle.terrain.specs.declared.event.Event.{Event}
use Rattle.terrain.specs.declared.event.Event.TheVariants.{Edit, Camera, Away, Undo}
use Rattle.terrain.specs.declared.event.TheConstants.{MAX_VIEWS}
use Rattle.lattice.specs.Lists.{joined}
use Rattle.terrain.specs.Lists.{any_of, binary}
use Rattle.lattice.specs.Node.{node_side, nodes, IsNode, is_node, low_corner, high_corner, parent, children}
use Rattle.terrain.specs.World.{distance}
use Rattle.lattice.specs.Offset.{Direction, directions, across, has_neighbour, neighbour, near_nodes}

-- which nodes are split
abbrev pub LevelMap : Type 0
LevelMap = Node → Bool

-- ---- viewpoints

-- where a viewpoint is after an event: where a camera puts it that names it, nowhere once it goes away, and else where
-- it was
abbrev pub viewpoint_by : ℕ → Event → Option Point → Option Point
viewpoint_by view (Edit brush) at = at
viewpoint_by view (Camera named p) at = if named == view then Some p else at
viewpoint_by view (Away named) at = if named == view then None else at
viewpoint_by view Undo at = at

-- the same after more events, the first of them first
abbrev pub viewpoint_after : ℕ → List Event → Option Point → Option Point
viewpoint_after view [] at = at
viewpoint_after view (e ∷ es) at = viewpoint_after view es (viewpoint_by view e at)

-- where a viewpoint is after a history: at the point of the last event that names it, if that is a camera
abbrev pub viewpoint : List Event → ℕ → Option Point
viewpoint events view = viewpoint_after view events None

-- the points at which viewpoints are, by their numbers
abbrev pub points_of : (ℕ → Option Point) → List Point
points_of place = joined MAX_VIEWS (λ view. option_to_list (place view))

-- the points at which the viewpoints of a history are
unfoldable pub viewpoints : List Event → List Point
viewpoints events = points_of (viewpoint events)

-- ---- the level map of viewpoints

-- whether a node is wanted split from a point: its level is 1 or more, and twice its distance from the point is below
-- reach times its side
abbrev pub is_wanted_from : Settings → Point → Node → Bool
is_wanted_from settings p n =
    nat_lt 0 n.level && nat_lt (2 * distance p n) (settings.reach * node_side n.level)

-- whether a node is wanted split from one of these points
abbrev pub is_wanted : Settings → List Point → Node → Bool
is_wanted settings points n = any_of (λ p. is_wanted_from settings p n) points

-- whether a node of this level is split: it is wanted split, or one of its children, or of the neighbours of one across
-- a face or an edge, is split. A node of level 0 isn't.
unfoldable pub is_split_at : Settings → List Point → ℕ → Node → Bool
is_split_at settings points zero n = false
is_split_at settings points (suc level) n =
    let near : Node → List Node = λ child. near_nodes settings.depth child in
    elim (is_wanted settings points n) [
      | true ↦ true
      | false ↦
          any_of (λ child. any_of (is_split_at settings points level) (near child)) (children n)
    ]

-- the nodes of the world that are split for viewpoints at these points
abbrev pub split : Settings → List Point → LevelMap
split settings points n = is_node settings.depth n && is_split_at settings points n.level n

-- the level map of a history
abbrev pub levels : Settings → List Event → LevelMap
levels settings events = split settings (viewpoints events)

-- ---- leaves

-- a leaf of a level map is a node of the world that isn't split and is the root, or whose parent is split; in an
-- octree all its ancestors are split then
pub record IsLeaf (depth : ℕ) (m : LevelMap) (n : Node) : Type 0 where
  pub node : IsNode depth n
  pub whole : IsFalse (m n)
  pub held : (n.level ≡ depth) ⊎ IsTrue (m (parent n))

-- the same as a test
abbrev pub is_leaf : ℕ → LevelMap → Node → Bool
is_leaf depth m n = is_node depth n && not (m n) && (n.level == depth || m (parent n))

-- the leaves in the order of nodes
abbrev pub leaves : ℕ → LevelMap → List Node
leaves depth m = filter (is_leaf depth m) (nodes depth)

-- ---- octrees and balance

-- an octree's split nodes are nodes of the world of level 1 or more, and each but the root has a split parent
pub record IsOctree (depth : ℕ) (m : LevelMap) : Type 0 where
  pub in_world : (n : Node) → IsTrue (m n) → IsNode depth n
  pub level : (n : Node) → IsTrue (m n) → 1 ≤ n.level
  pub held : (n : Node) → IsTrue (m n) → (n.level ≡ depth) ⊎ IsTrue (m (parent n))

-- two ranges have a point in common
abbrev pub Touch : ℕ → ℕ → ℕ → ℕ → Type 0
Touch low high low' high' = (low ≤ high') × (low' ≤ high)

-- two ranges have a length in common
abbrev pub Overlap : ℕ → ℕ → ℕ → ℕ → Type 0
Overlap low high low' high' = (low < high') × (low' < high)

-- two nodes' closed cubes have a segment of some length in common: a face's part or an edge's
pub record ShareSegment (a b : Node) : Type 0 where
  pub z : Touch (low_corner a).z (high_corner a).z (low_corner b).z (high_corner b).z
  pub y : Touch (low_corner a).y (high_corner a).y (low_corner b).y (high_corner b).y
  pub x : Touch (low_corner a).x (high_corner a).x (low_corner b).x (high_corner b).x
  pub length :
      Overlap (low_corner a).z (high_corner a).z (low_corner b).z (high_corner b).z
      ⊎ (Overlap (low_corner a).y (high_corner a).y (low_corner b).y (high_corner b).y
      ⊎ Overlap (low_corner a).x (high_corner a).x (low_corner b).x (high_corner b).x)

-- a balanced level map is an octree of which no two leaves that share a segment differ by more than one level
pub record IsBalanced (depth : ℕ) (m : LevelMap) : Type 0 where
  pub octree : IsOctree depth m
  pub close : (a b : Node)
      → IsLeaf depth m a → IsLeaf depth m b → ShareSegment a b → a.level ≤ b.level + 1

-- ---- rims

-- whether the place next to a node in a direction is in the world and split
abbrev pub is_finer : ℕ → LevelMap → Direction → Node → Bool
is_finer depth m d n = has_neighbour depth d n && m (neighbour d n)

-- the rim of a leaf: the number with a bit for each of the 26 directions in order, set where the neighbour is split
abbrev pub rim : ℕ → LevelMap → Node → ℕ
rim depth m n = binary (map (λ d. is_finer depth m d n) directions)

-- a leaf's face is transitional where the neighbour across it is in the world and split
abbrev pub is_transitional : ℕ → LevelMap → Node → Face → Bool
is_transitional depth m n face = is_finer depth m (across face) n
