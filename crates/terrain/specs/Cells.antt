-- The cells of a block: their corners, edges and faces, their sign numbers, and their triangles.
--
-- A regular cell is a cube with a sample at each corner (Lorensen and Cline 1987). A transition cell joins two levels
-- along the face of a block of the lower resolution: nine fine points, of which the four outer ones are repeated as
-- coarse corners (Lengyel 2010). The numbers of corners, edges and faces are this project's rule.
use Rattle.std.specs.Prelude.{ℕ, ◌+◌, ◌-◌, ◌*◌, ◌/◌, ◌%◌, ◌^◌, Bool, true, false, not, ◌==◌, IsTrue, List, [], ◌∷◌, ◌++◌, map, reverse, take, drop, slice_index_or}
use Rattle.std.specs.Bool.{beq}
use Rattle.std.specs.List.{range_with_len}
use Rattle.lattice.specs.declared.point.Point.{Point}
use Rattle.lattice.specs.declared.point.Axis.{Axis}
use Rattle.lattice.specs.declared.point.Axis.TheVariants.{X, Y, Z}
use Rattle.lattice.specs.declared.point.Face.{Face}
use Rattle.lattice.specs.declared.point.Face.TheVariants.{XLow, XHigh, YLow, YHigh, ZLow, ZHigh}
use Rattle.lattice.specs.declared.key.Key.{Key}
use Rattle.terrain.specs.Curves.{Polygon, no_side, loops, fan}
use Rattle.terrain.specs.Lists.{binary}
use Rattle.lattice.specs.Point.{moved}
use Rattle.lattice.specs.Face.{FaceAxis, lower, higher, axis_along}
use Rattle.lattice.specs.Key.{far_end}
use Rattle.terrain.specs.Samples.{Field, is_solid}

-- ---- keys

-- whether a key is present: exactly one end of its edge is solid, so that the surface crosses it
abbrev pub is_present : Field → Key → Bool
is_present s key = not (beq (is_solid (s key.at)) (is_solid (s (far_end key))))

-- the same as a fact
abbrev pub IsPresent : Field → Key → Type 0
IsPresent s key = IsTrue (is_present s key)

-- ---- what both kinds of cell share

-- a face of a cell by numbers: its corners, counter-clockwise as seen from outside the cell, and its sides, of which
-- each goes from the corner at its place to the next corner
pub record Outline : Type 0 where
  pub corners : List ℕ
  pub sides : List ℕ

-- whether the corner of this number is solid in a sign number
abbrev pub is_set : ℕ → ℕ → Bool
is_set signs corner = signs / 2 ^ corner % 2 == 1

-- the sign number of n corners, at these points: the bit of a corner's number is set where it is solid
abbrev pub signs_of : Field → ℕ → (ℕ → Point) → ℕ
signs_of s n point = binary (map (λ corner. is_solid (s (point corner))) (range_with_len 0 n))

-- a face with the signs of its corners
abbrev pub polygon : ℕ → Outline → Polygon
polygon signs face = record { solid = map (is_set signs) face.corners; sides = face.sides }

-- the triangles of a cell with these faces, whose keys are the numbers of its edges
unfoldable pub triangles_of : List Polygon → List (List ℕ)
triangles_of faces = fan (loops faces)

-- ---- regular cells

-- corner x + 2 y + 4 z of the cell of a level with this low corner
abbrev pub corner_point : ℕ → Point → ℕ → Point
corner_point level low corner = record {
  z = low.z + 2 ^ level * (corner / 4);
  y = low.y + 2 ^ level * (corner / 2 % 2);
  x = low.x + 2 ^ level * (corner % 2);
}

-- the sign number of the cell of a level with this low corner
abbrev pub regular_signs : Field → ℕ → Point → ℕ
regular_signs s level low = signs_of s 8 (corner_point level low)

-- an edge of a cell: the corner that is its low end, and its axis
pub record CellEdge : Type 0 where
  pub corner : ℕ
  pub axis : Axis

-- the twelve edges, in the order of keys
abbrev pub regular_edges : List CellEdge
regular_edges =
    let edge : ℕ → Axis → CellEdge = λ corner axis. record { corner = corner; axis = axis } in
    edge 0 X ∷ edge 0 Y ∷ edge 0 Z ∷ edge 1 Y ∷ edge 1 Z ∷ edge 2 X
    ∷ edge 2 Z ∷ edge 3 Z ∷ edge 4 X ∷ edge 4 Y ∷ edge 5 Y ∷ edge 6 X ∷ []

-- the key of the edge of this number
abbrev pub regular_key : ℕ → Point → ℕ → Key
regular_key level low number =
    let edge = slice_index_or regular_edges number (record { corner = 0; axis = X }) in
    record { level = level; at = corner_point level low edge.corner; axis = edge.axis }

-- the six faces: XLow, XHigh, YLow, YHigh, ZLow, ZHigh
abbrev pub regular_outlines : List Outline
regular_outlines =
    record { corners = 0 ∷ 4 ∷ 6 ∷ 2 ∷ []; sides = 2 ∷ 9 ∷ 6 ∷ 1 ∷ [] }
    ∷ record { corners = 1 ∷ 3 ∷ 7 ∷ 5 ∷ []; sides = 3 ∷ 7 ∷ 10 ∷ 4 ∷ [] }
    ∷ record { corners = 0 ∷ 1 ∷ 5 ∷ 4 ∷ []; sides = 0 ∷ 4 ∷ 8 ∷ 2 ∷ [] }
    ∷ record { corners = 2 ∷ 6 ∷ 7 ∷ 3 ∷ []; sides = 6 ∷ 11 ∷ 7 ∷ 5 ∷ [] }
    ∷ record { corners = 0 ∷ 2 ∷ 3 ∷ 1 ∷ []; sides = 1 ∷ 5 ∷ 3 ∷ 0 ∷ [] }
    ∷ record { corners = 4 ∷ 5 ∷ 7 ∷ 6 ∷ []; sides = 8 ∷ 10 ∷ 11 ∷ 9 ∷ [] }
    ∷ []

-- the six faces with the signs of their corners
abbrev pub regular_faces : ℕ → List Polygon
regular_faces signs = map (polygon signs) regular_outlines

-- the triangles of a regular cell, as lists of three keys
abbrev pub regular_triangles : Field → ℕ → Point → List (List Key)
regular_triangles s level low =
    map (map (regular_key level low)) (triangles_of (regular_faces (regular_signs s level low)))

-- ---- transition cells

-- whether the polygons of a face have the straight turn: those of XHigh, YLow and ZHigh
abbrev pub is_straight : Face → Bool
is_straight XLow = false
is_straight XHigh = true
is_straight YLow = true
is_straight YHigh = false
is_straight ZLow = false
is_straight ZHigh = true

-- point a + 3 b on the square of a face of a leaf of this level: a half squares along the lower axis and b along the
-- higher one from the square's low corner
abbrev pub fine_point : ℕ → Face → Point → ℕ → Point
fine_point level face low point =
    let half = 2 ^ (level - 1) in
    let row = moved (axis_along face higher) (half * (point / 3)) low in
    moved (axis_along face lower) (half * (point % 3)) row

-- the sign number of the transition cell on such a square
abbrev pub transition_signs : Field → ℕ → Face → Point → ℕ
transition_signs s level face low = signs_of s 9 (fine_point level face low)

-- an edge of a transition cell: whether it is a coarse one, the point at its low end, and the axis along which it goes
pub record TransitionEdge : Type 0 where
  pub is_coarse : Bool
  pub point : ℕ
  pub along : FaceAxis

-- the twelve fine edges and the four coarse ones, in the order of keys
abbrev pub transition_edges : List TransitionEdge
transition_edges =
    let fine : ℕ → FaceAxis → TransitionEdge = λ point along.
    record { is_coarse = false; point = point; along = along } in
    let coarse : ℕ → FaceAxis → TransitionEdge = λ point along.
    record { is_coarse = true; point = point; along = along } in
    fine 0 lower ∷ fine 0 higher ∷ fine 1 lower ∷ fine 1 higher ∷ fine 2 higher ∷ fine 3 lower
    ∷ fine 3 higher ∷ fine 4 lower ∷ fine 4 higher ∷ fine 5 higher ∷ fine 6 lower ∷ fine 7 lower
    ∷ coarse 0 lower ∷ coarse 0 higher ∷ coarse 2 higher ∷ coarse 6 lower ∷ []

-- the key of the edge of this number: of the leaf's level where it is coarse, and of the level below where it is fine
abbrev pub transition_key : ℕ → Face → Point → ℕ → Key
transition_key level face low number =
    let none : TransitionEdge = record { is_coarse = false; point = 0; along = lower } in
    let edge = slice_index_or transition_edges number none in
    record {
      level = elim edge.is_coarse [ true ↦ level | false ↦ level - 1 ];
      at = fine_point level face low edge.point;
      axis = axis_along face edge.along;
    }

-- the nine faces in the straight turn, corners by the number of their point: four fine squares, the coarse square, and
-- the four lateral faces, each of two coarse corners and three fine points. A coarse corner is a copy of its point, and
-- a side between two copies has no number.
abbrev pub straight_outlines : List Outline
straight_outlines =
    record { corners = 0 ∷ 1 ∷ 4 ∷ 3 ∷ []; sides = 0 ∷ 3 ∷ 5 ∷ 1 ∷ [] }
    ∷ record { corners = 1 ∷ 2 ∷ 5 ∷ 4 ∷ []; sides = 2 ∷ 4 ∷ 7 ∷ 3 ∷ [] }
    ∷ record { corners = 3 ∷ 4 ∷ 7 ∷ 6 ∷ []; sides = 5 ∷ 8 ∷ 10 ∷ 6 ∷ [] }
    ∷ record { corners = 4 ∷ 5 ∷ 8 ∷ 7 ∷ []; sides = 7 ∷ 9 ∷ 11 ∷ 8 ∷ [] }
    ∷ record { corners = 0 ∷ 6 ∷ 8 ∷ 2 ∷ []; sides = 13 ∷ 15 ∷ 14 ∷ 12 ∷ [] }
    ∷ record { corners = 0 ∷ 2 ∷ 2 ∷ 1 ∷ 0 ∷ []; sides = 12 ∷ no_side ∷ 2 ∷ 0 ∷ no_side ∷ [] }
    ∷ record { corners = 2 ∷ 8 ∷ 8 ∷ 5 ∷ 2 ∷ []; sides = 14 ∷ no_side ∷ 9 ∷ 4 ∷ no_side ∷ [] }
    ∷ record { corners = 8 ∷ 6 ∷ 6 ∷ 7 ∷ 8 ∷ []; sides = 15 ∷ no_side ∷ 10 ∷ 11 ∷ no_side ∷ [] }
    ∷ record { corners = 6 ∷ 0 ∷ 0 ∷ 3 ∷ 6 ∷ []; sides = 13 ∷ no_side ∷ 1 ∷ 6 ∷ no_side ∷ [] }
    ∷ []

-- a face with its corners in reverse: the side that led back to the first corner does so still
abbrev pub reversed : Outline → Outline
reversed face = record {
  corners = reverse face.corners;
  sides = drop 1 (reverse face.sides) ++ take 1 (reverse face.sides);
}

-- the nine faces in the turn that they have on a face of a leaf
abbrev pub transition_outlines : Face → List Outline
transition_outlines face =
    elim (is_straight face) [ true ↦ straight_outlines | false ↦ map reversed straight_outlines ]

-- the same with the signs of their corners
abbrev pub transition_faces : Face → ℕ → List Polygon
transition_faces face signs = map (polygon signs) (transition_outlines face)

-- the triangles of a transition cell, as lists of three keys
abbrev pub transition_triangles : Field → ℕ → Face → Point → List (List Key)
transition_triangles s level face low =
    map (map (transition_key level face low))
    (triangles_of (transition_faces face (transition_signs s level face low)))
