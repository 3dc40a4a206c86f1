-- Short names for the settings, events and nodes of the worked examples.
use Rattle.std.specs.Prelude.{ℕ, ◌+◌, ◌*◌, pos, List, [], ◌∷◌, ◌++◌}
use Rattle.lattice.specs.declared.point.Point.{Point}
use Rattle.lattice.specs.declared.point.Pos.{Pos}
use Rattle.lattice.specs.declared.point.Axis.{Axis}
use Rattle.lattice.specs.declared.node.Node.{Node}
use Rattle.lattice.specs.declared.key.Key.{Key}
use Rattle.lattice.specs.declared.settings.Settings.{Settings}
use Rattle.terrain.specs.declared.brush.Mode.TheVariants.{Fill, Carve}
use Rattle.terrain.specs.declared.brush.Brush.TheVariants.{Cuboid, Ball, Ground, Smooth}
use Rattle.terrain.specs.declared.event.Event.{Event}
use Rattle.terrain.specs.declared.event.Event.TheVariants.{Edit, Camera, Away}
use Rattle.terrain.specs.Samples.{Field}
use Rattle.terrain.specs.History.{sample}
use Rattle.terrain.specs.Levels.{levels}
use Rattle.terrain.specs.Cells.{transition_triangles}
use Rattle.terrain.specs.Blocks.{over_transitional, over_squares}

abbrev pub point : ℕ → ℕ → ℕ → Point
point x y z = record { z = z; y = y; x = x }

abbrev pub node : ℕ → ℕ → ℕ → ℕ → Node
node level i j k = record { level = level; k = k; j = j; i = i }

abbrev pub key : ℕ → Point → Axis → Key
key level at axis = record { level = level; at = at; axis = axis }

-- the settings of a depth, with reach 0 or 1
abbrev pub still : ℕ → Settings
still depth = record { depth = depth; reach = 0 }

abbrev pub near : ℕ → Settings
near depth = record { depth = depth; reach = 1 }

abbrev pub fill_box : Point → Point → Event
fill_box lo hi = Edit (Cuboid Fill lo hi)

abbrev pub carve_box : Point → Point → Event
carve_box lo hi = Edit (Cuboid Carve lo hi)

abbrev pub fill_ball : Point → ℕ → Event
fill_ball at r = Edit (Ball Fill at r)

abbrev pub carve_ball : Point → ℕ → Event
carve_ball at r = Edit (Ball Carve at r)

abbrev pub fill_ground : ℕ → Event
fill_ground h = Edit (Ground Fill h)

abbrev pub smooth_box : Point → Point → Event
smooth_box lo hi = Edit (Smooth lo hi)

-- ---- the worked examples' events

-- one point, filled
abbrev pub single_point : List Event
single_point = fill_box (point 8 8 8) (point 8 8 8) ∷ []

-- one point, filled and carved
abbrev pub filled_and_carved : List Event
filled_and_carved = fill_box (point 8 8 8) (point 8 8 8) ∷ carve_box (point 8 8 8) (point 8 8 8)
    ∷ []

-- one point, filled and smoothed
abbrev pub filled_and_smoothed : List Event
filled_and_smoothed = fill_box (point 8 8 8) (point 8 8 8) ∷ smooth_box (point 8 8 8) (point 8 8 8)
    ∷ []

-- two points on a diagonal of a square
abbrev pub ambiguous_square : List Event
ambiguous_square = fill_box (point 8 8 8) (point 8 8 8) ∷ fill_box (point 9 9 8) (point 9 9 8) ∷ []

-- two balls that touch at a point, and a point beside them
abbrev pub touching_balls : List Event
touching_balls = fill_ball (point 8 8 8) 1 ∷ fill_ball (point 9 9 8) 1 ∷ fill_box (point 8 9 8)
    (point 8 9 8) ∷ []

-- one point filled, and then the whole world carved
abbrev pub carved_whole : List Event
carved_whole = fill_box (point 32 32 32) (point 32 32 32) ∷ carve_box (point 0 0 0) (point 64 64 64)
    ∷ []

-- a box, a ball carved out of it, and a ground
abbrev pub mixed : List Event
mixed = fill_box (point 3 5 7) (point 6 9 12) ∷ carve_ball (point 5 8 10) 3 ∷ fill_ground 4 ∷ []

-- the same, smoothed in a part of the world
abbrev pub mixed_and_smoothed : List Event
mixed_and_smoothed = fill_box (point 3 5 7) (point 6 9 12) ∷ carve_ball (point 5 8 10)
    3 ∷ fill_ground 4 ∷ smooth_box (point 0 0 0) (point 16 9 11) ∷ []

-- a ball with its centre off the diagonals
abbrev pub single_ball : List Event
single_ball = fill_ball (point 30 20 10) 7 ∷ []

-- the camera in a corner of the world, and one point filled that is the middle of a coarse edge
abbrev pub middle_of_an_edge : List Event
middle_of_an_edge = Camera 0 (point 0 0 0) ∷ fill_box (point 32 9 8) (point 32 9 8) ∷ []

-- the camera in a corner of the world, and a ground across two levels
abbrev pub two_level_ground : List Event
two_level_ground = Camera 0 (point 0 0 0) ∷ fill_ground 8 ∷ []

-- the camera in a corner of the world, and then in the opposite corner
abbrev pub corner_camera : List Event
corner_camera = Camera 0 (point 0 0 0) ∷ []

abbrev pub far_camera : List Event
far_camera = Camera 0 (point 0 0 0) ∷ Camera 0 (point 64 64 64) ∷ []

-- two viewpoints in opposite corners, the first of which goes away, and then the other; at the end the first is back
abbrev pub two_views : List Event
two_views = Camera 0 (point 0 0 0) ∷ Camera 1 (point 64 64 64) ∷ []

abbrev pub one_view_left : List Event
one_view_left = two_views ++ Away 0 ∷ []

abbrev pub no_view_left : List Event
no_view_left = one_view_left ++ Away 1 ∷ []

abbrev pub one_view_back : List Event
one_view_back = no_view_left ++ Camera 0 (point 0 0 0) ∷ Away 7 ∷ []

-- ---- for positions and bricks

abbrev pub position : ℕ → ℕ → ℕ → Pos
position x y z = record { x = x; y = y; z = z }

-- a field that tells its points apart; its samples are larger than real ones
abbrev pub decimals : Field
decimals p = pos (p.z * 10000 + p.y * 100 + p.x)

-- ---- for transition cells

-- one point filled, seen by a camera
abbrev pub seen_point : Point → Point → List Event
seen_point camera at = Camera 0 camera ∷ fill_box at at ∷ []

-- the triangles of a leaf's transition cells alone, in a world of depth 2
abbrev pub joint : List Event → Node → List (List Key)
joint events n = over_transitional 2 (levels (near 2) events) n
    (λ face. over_squares n face (transition_triangles (sample (near 2) events) n.level face))

-- one point filled in the corner of the world
abbrev pub corner_point_filled : List Event
corner_point_filled = fill_box (point 0 0 0) (point 0 0 0) ∷ []
