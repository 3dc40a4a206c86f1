-- The mesh of a leaf, where its vertices lie, the mesh of a whole world, and what a leaf's mesh is made from.
--
-- All of it is over any field s and any level map m of a depth; a history's own are put in at the end of each part.
-- Source: blocks and transition cells by Lengyel (2010), linear interpolation of Marching Cubes (Lorensen and Cline
-- 1987); how far an endpoint moves, and whole numbers of 1/256 cell, are this project's rule.
use Rattle.std.specs.Prelude.{ℕ, ◌+◌, ◌-◌, ◌*◌, ◌/◌, ◌^◌, Bool, true, false, ◌&&◌, ◌||◌, not, List, [], ◌∷◌, ◌++◌, map, flat_map, filter, ℤ, pos, ◌+ℤ◌, ◌-ℤ◌, ◌*ℤ◌, neg_ℤ, unsigned_abs, nat_le, ◌==◌, if◌then◌else◌, IsTrue}
use Rattle.std.specs.Bool.{beq}
use Rattle.std.specs.Int.{int_div_euclid}
use Rattle.std.specs.List.{list_all, list_any}
use Rattle.lattice.specs.declared.point.Point.{Point}
use Rattle.lattice.specs.declared.point.Pos.{Pos}
use Rattle.lattice.specs.declared.point.Axis.{Axis}
use Rattle.lattice.specs.declared.point.Axis.TheVariants.{X, Y, Z}
use Rattle.lattice.specs.declared.point.Face.{Face}
use Rattle.lattice.specs.declared.point.TheConstants.{UNITS}
use Rattle.lattice.specs.declared.node.Node.{Node}
use Rattle.lattice.specs.declared.node.TheConstants.{CELLS}
use Rattle.lattice.specs.declared.key.Key.{Key}
use Rattle.lattice.specs.declared.region.Region.{Region}
use Rattle.lattice.specs.declared.settings.Settings.{Settings}
use Rattle.terrain.specs.declared.brush.Brush.{Brush}
use Rattle.terrain.specs.declared.event.Event.{Event}
use Rattle.terrain.specs.declared.event.Event.TheVariants.{Edit, Camera, Away, Undo}
use Rattle.terrain.specs.Curves.{curves, curve_edges, all_edges}
use Rattle.lattice.specs.Lists.{joined}
use Rattle.lattice.specs.Settings.{world_side}
use Rattle.lattice.specs.Point.{coordinate, moved}
use Rattle.lattice.specs.Key.{far_end, is_same_key}
use Rattle.lattice.specs.Node.{node_side, low_corner, high_corner}
use Rattle.terrain.specs.World.{Octant, octants, side_on, has_octant, octant_node}
use Rattle.terrain.specs.Samples.{Field}
use Rattle.terrain.specs.Brushes.{region}
use Rattle.terrain.specs.History.{in_force, sample}
use Rattle.terrain.specs.Levels.{LevelMap, levels, leaves, is_leaf, rim, is_transitional}
use Rattle.terrain.specs.Cells.{Outline, polygon, corner_point, regular_signs, regular_key, regular_outlines, regular_triangles, fine_point, transition_signs, transition_key, transition_outlines, transition_triangles}
use Rattle.lattice.specs.Face.{faces, lower, higher, axis_along, axis_across, is_high}

-- ---- where a vertex lies

-- whether an octant at a point is in the world and finer: the node of the level in which it lies is split
abbrev pub is_finer_octant : ℕ → LevelMap → ℕ → Point → Octant → Bool
is_finer_octant depth m level p o = has_octant depth p o && m (octant_node level p o)

-- whether it is in the world and isn't finer
abbrev pub is_whole_octant : ℕ → LevelMap → ℕ → Point → Octant → Bool
is_whole_octant depth m level p o = has_octant depth p o && not (m (octant_node level p o))

-- whether a point moves towards a side of an axis: some octant on the other side is finer, and every octant in the
-- world that isn't finer lies on that side
abbrev pub moves_towards : ℕ → LevelMap → ℕ → Point → Axis → Bool → Bool
moves_towards depth m level p axis side =
    let is_there : Octant → Bool = λ o. beq (side_on axis o) side in
    list_any (λ o. is_finer_octant depth m level p o && not (is_there o)) octants
    && list_all (λ o. is_there o || not (is_whole_octant depth m level p o)) octants

-- how far an endpoint of a key of a level moves on an axis, in 1/256 cell: a quarter of a cell of its level. Such an
-- endpoint has an octant in the world that isn't finer, so at most one side qualifies.
unfoldable pub shift : ℕ → LevelMap → ℕ → Point → Axis → ℤ
shift depth m level p axis =
    elim (moves_towards depth m level p axis true) [
      | true ↦ pos (UNITS / 4 * 2 ^ level)
      | false ↦ elim (moves_towards depth m level p axis false) [
        | true ↦ neg_ℤ (pos (UNITS / 4 * 2 ^ level))
        | false ↦ pos 0
      ]
    ]

-- an endpoint's coordinate after its move, in 1/256 cell
abbrev pub shifted : ℕ → LevelMap → ℕ → Point → Axis → ℤ
shifted depth m level p axis = pos (UNITS * coordinate axis p) +ℤ shift depth m level p axis

-- the number a / (a + b) of the way from p to q, rounded down; it is never negative where p and q aren't
abbrev pub between : ℤ → ℤ → ℕ → ℕ → ℕ
between p q a b = unsigned_abs (p +ℤ int_div_euclid ((q -ℤ p) *ℤ pos a) (pos (a + b)))

-- a key's place on an axis, rounded down: with a and b the samples of its ends without their signs, and p and q its
-- ends after their moves, it is p + (q - p) a / (a + b)
unfoldable pub place_on : ℕ → Field → LevelMap → Key → Axis → ℕ
place_on depth s m key axis =
    between (shifted depth m key.level key.at axis) (shifted depth m key.level (far_end key) axis)
    (unsigned_abs (s key.at)) (unsigned_abs (s (far_end key)))

-- where the vertex of a key lies, in 1/256 cell
abbrev pub place : ℕ → Field → LevelMap → Key → Pos
place depth s m key = record {
  x = place_on depth s m key X;
  y = place_on depth s m key Y;
  z = place_on depth s m key Z;
}

-- ---- the triangles of a leaf

-- the low corner of the cell that is the x-th, y-th and z-th on the axes of a leaf
abbrev pub cell_corner : Node → ℕ → ℕ → ℕ → Point
cell_corner n z y x =
    let low = low_corner n in
    record { z = low.z + 2 ^ n.level * z; y = low.y + 2 ^ n.level * y; x = low.x + 2 ^ n.level * x }

-- the low corner of the square that is the v-th on the higher axis of a face of a leaf and the u-th on the lower one
abbrev pub square_corner : Node → Face → ℕ → ℕ → Point
square_corner n face v u =
    let off : ℕ = elim (is_high face) [ true ↦ node_side n.level | false ↦ 0 ] in
    let on_face = moved (axis_across face) off (low_corner n) in
    let row = moved (axis_along face higher) (2 ^ n.level * v) on_face in
    moved (axis_along face lower) (2 ^ n.level * u) row

-- what f gives for the 4,096 regular cells of a leaf, by z, then y, then x
unfoldable pub over_cells : {A : Type 0} → Node → (Point → List A) → List A
over_cells n f =
    joined CELLS (λ z. joined CELLS (λ y. joined CELLS (λ x. f (cell_corner n z y x))))

-- what f gives for the 256 squares of a leaf's face, by the higher axis, then the lower
unfoldable pub over_squares : {A : Type 0} → Node → Face → (Point → List A) → List A
over_squares n face f = joined CELLS (λ v. joined CELLS (λ u. f (square_corner n face v u)))

-- what f gives for the transitional faces of a leaf, in their order
abbrev pub over_transitional : {A : Type 0} → ℕ → LevelMap → Node → (Face → List A) → List A
over_transitional depth m n f =
    flat_map (λ face. elim (is_transitional depth m n face) [ true ↦ f face | false ↦ [] ]) faces

-- the triangles of a leaf: those of its regular cells, then those of the transition cells on its transitional faces
unfoldable pub block : ℕ → Field → LevelMap → Node → List (List Key)
block depth s m n =
    over_cells n (regular_triangles s n.level)
    ++ over_transitional depth m n
    (λ face. over_squares n face (transition_triangles s n.level face))

-- ---- the mesh of a world

-- a list of keys with one more at its end, if it isn't among them already
abbrev pub with_key : List Key → Key → List Key
with_key known key = if list_any (λ k. is_same_key k key) known then known else known ++ key ∷ []

-- the same with more keys, one after another
abbrev pub with_keys : List Key → List Key → List Key
with_keys known [] = known
with_keys known (key ∷ keys) = with_keys (with_key known key) keys

-- the keys of triangles, each once, in the order of first use
abbrev pub keys_of : List (List Key) → List Key
keys_of triangles = with_keys [] (flat_map (λ triangle. triangle) triangles)

-- the mesh of a leaf: its triangles, its keys in the order of first use, and the position of each
pub record Mesh : Type 0 where
  pub leaf : Node
  pub triangles : List (List Key)
  pub keys : List Key
  pub positions : List Pos

-- the mesh of a leaf in a field and a level map
abbrev pub mesh : ℕ → Field → LevelMap → Node → Mesh
mesh depth s m n =
    let triangles = block depth s m n in
    let keys = keys_of triangles in
    record {
      leaf = n;
      triangles = triangles;
      keys = keys;
      positions = map (place depth s m) keys;
    }

-- the meshes of all leaves, in the order of nodes
abbrev pub frame : ℕ → Field → LevelMap → List Mesh
frame depth s m = map (mesh depth s m) (leaves depth m)

-- the mesh of a history from scratch
abbrev pub scratch : Settings → List Event → List Mesh
scratch settings events = frame settings.depth (sample settings events) (levels settings events)

-- ---- what the mesh of a leaf is made from

-- the samples at 17 x 17 x 17 points of a leaf, a cell of its level apart, by z, then y, then x
abbrev pub leaf_samples : Field → Node → List ℤ
leaf_samples s n =
    let points = CELLS + 1 in
    joined points (λ z. joined points (λ y. joined points (λ x. s (cell_corner n z y x) ∷ [])))

-- the samples at 33 x 33 points of a leaf's face, a cell of the level below apart, by the higher axis, then the lower
abbrev pub face_samples : Field → Node → Face → List ℤ
face_samples s n face =
    let half = 2 ^ (n.level - 1) in
    let low = square_corner n face 0 0 in
    let row : ℕ → Point = λ v. moved (axis_along face higher) (half * v) low in
    let at : ℕ → ℕ → Point = λ v u. moved (axis_along face lower) (half * u) (row v) in
    joined (2 * CELLS + 1) (λ v. joined (2 * CELLS + 1) (λ u. s (at v u) ∷ []))

-- the brick of a leaf: the depth, the leaf, its rim, its samples, and the finer samples of its transitional faces in
-- the order of faces
pub record Brick : Type 0 where
  pub depth : ℕ
  pub node : Node
  pub rim : ℕ
  pub samples : List ℤ
  pub faces : List ℤ

-- the brick of a leaf in a field and a level map
unfoldable pub brick : ℕ → Field → LevelMap → Node → Brick
brick depth s m n = record {
  depth = depth;
  node = n;
  rim = rim depth m n;
  samples = leaf_samples s n;
  faces = over_transitional depth m n (face_samples s n);
}

-- ---- what an event touches

-- whether a node's closed cube meets a box of points
abbrev pub meets : Region → Node → Bool
meets box n =
    let lo = low_corner n in
    let hi = high_corner n in
    nat_le lo.z box.hi.z && nat_le box.lo.z hi.z && nat_le lo.y box.hi.y && nat_le box.lo.y hi.y
    && nat_le lo.x box.hi.x && nat_le box.lo.x hi.x

-- whether a node's closed cube meets the region of the newest of some edits, which come newest first
abbrev pub meets_newest : ℕ → List Brush → Node → Bool
meets_newest depth [] n = false
meets_newest depth (brush ∷ before) n = meets (region depth brush) n

-- whether an event edits some of the points of a node's closed cube: an edit those of its region, an undo those of the
-- edit that it takes out of force, of these which are in force before it
abbrev pub edits : ℕ → List Brush → Event → Node → Bool
edits depth brushes (Edit brush) n = meets (region depth brush) n
edits depth brushes (Camera view at) n = false
edits depth brushes (Away view) n = false
edits depth brushes Undo n = meets_newest depth brushes n

-- the leaves after an event that weren't leaves before it, or that it edits, or whose rim it changes
abbrev pub touched : Settings → List Event → Event → List Node
touched settings events event =
    let depth = settings.depth in
    let before = levels settings events in
    let after = levels settings (events ++ event ∷ []) in
    let is_touched : Node → Bool = λ n.
    not (is_leaf depth before n) || edits depth (in_force events) event n
    || not (rim depth before n == rim depth after n) in
    filter is_touched (leaves depth after)

-- ---- nets and borders

-- how often a directed edge from a to b is among these
abbrev pub times : Key → Key → List (Key × Key) → ℕ
times a b [] = 0
times a b (edge ∷ edges) =
    (if is_same_key edge.0 a && is_same_key edge.1 b then 1 else 0) + times a b edges

-- how often a to b is among these, less how often b to a is
abbrev pub net : List (Key × Key) → Key → Key → ℤ
net edges a b = pos (times a b edges) -ℤ pos (times b a edges)

-- the directed edges of all triangles of a frame
abbrev pub frame_edges : List Mesh → List (Key × Key)
frame_edges meshes = flat_map (λ mesh. all_edges mesh.triangles) meshes

-- whether points lie together on the border of the world: in one plane with a coordinate fixed at 0 or the side
abbrev pub lie_on_border : ℕ → List Point → Bool
lie_on_border depth points =
    let in_plane : Axis → ℕ → Bool = λ axis c.
    list_all (λ p. coordinate axis p == c) points in
    list_any (λ axis. in_plane axis 0 || in_plane axis (world_side depth)) (X ∷ Y ∷ Z ∷ [])

-- two keys lie on the border together where both their edges lie in one such plane
abbrev pub LieOnBorder : ℕ → Key → Key → Type 0
LieOnBorder depth a b = IsTrue (lie_on_border depth (a.at ∷ far_end a ∷ b.at ∷ far_end b ∷ []))

-- the curves of a cell's faces that lie in the border, as directed edges of keys: `point` says where a corner lies, and
-- `key` which key an edge has
abbrev pub border_curves : ℕ → (ℕ → Point) → (ℕ → Key) → ℕ → List Outline → List (Key × Key)
border_curves depth point key signs outlines =
    let ours = filter (λ face. lie_on_border depth (map point face.corners)) outlines in
    let edges : Outline → List (ℕ × ℕ) = λ face. curve_edges (curves (polygon signs face)) in
    flat_map (λ face. map (λ edge. (key edge.0, key edge.1)) (edges face)) ours

-- the same for all cells of a leaf
abbrev pub leaf_border : ℕ → Field → LevelMap → Node → List (Key × Key)
leaf_border depth s m n =
    let level = n.level in
    over_cells n (λ low.
    border_curves depth (corner_point level low) (regular_key level low)
    (regular_signs s level low) regular_outlines)
    ++ over_transitional depth m n (λ face. over_squares n face (λ low.
    border_curves depth (fine_point level face low) (transition_key level face low)
    (transition_signs s level face low) (transition_outlines face)))

-- the curves in the border of the world, as directed edges of keys
abbrev pub border_edges : ℕ → Field → LevelMap → List (Key × Key)
border_edges depth s m = flat_map (leaf_border depth s m) (leaves depth m)

-- the curves in the border from a to b, less those from b to a
abbrev pub border : ℕ → Field → LevelMap → Key → Key → ℤ
border depth s m a b = net (border_edges depth s m) a b
