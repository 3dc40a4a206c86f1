-- The search for the highest point over a place, triangle by triangle in their order. This project's rule.
use Rattle.std.specs.Prelude.{◌≡◌, ℕ, ◌*◌, ◌<◌, ◌≤◌, ◌^◌, All, List, [], Option, None, Some, map, slice_index_or}
use Rattle.lattice.specs.declared.node.Node.{Node}
use Rattle.lattice.specs.declared.point.Pos.{Pos}
use Rattle.terrain.specs.MeshLists.{MeshLists}
use Rattle.frame_surface.specs.Best.{IsEarliest, IsReached}
use Rattle.frame_surface.specs.Heights.{Covers}
use Rattle.frame_surface.specs.Surface.{IsEarlier, Surface}
use Rattle.frame_surface.specs.Turns.{IsSmallPos}
use Rattle.frame_surface.specs.declared.hit.Hit.{Hit}

-- the numbers of a hit's height are small
pub record IsSmallHit (hit : Hit) : Type 0 where
  pub num : hit.num < 2 ^ 63
  pub den : hit.den < 2 ^ 63

-- a hit is the best of the triangles that are earlier than a bound: it is one of them, it is reached, none of them
-- covers a greater height, and each that is earlier than the hit covers lower heights alone
pub record IsBest (surface : Surface) (x y : ℕ) (node : Node) (triangle : ℕ) (hit : Hit)
    : Type 0 where
  pub earlier : IsEarlier hit.node hit.triangle node triangle
  pub reached : IsReached surface x y hit
  pub highest : (n : Node) (i num den : ℕ) → IsEarlier n i node triangle
      → Covers (surface n i) x y num den → num * hit.den ≤ hit.num * den
  pub first : IsEarliest surface x y hit

-- a hit is the best of these, or there is none and none of them covers any height
abbrev pub IsBestBefore : Surface → ℕ → ℕ → Node → ℕ → Option Hit → Type 0
IsBestBefore surface x y node triangle None =
    (n : Node) (i num den : ℕ) → IsEarlier n i node triangle → Covers (surface n i) x y num den
    → ⊥
IsBestBefore surface x y node triangle (Some hit) = IsBest surface x y node triangle hit

-- where there is no position
abbrev pub origin : Pos
origin = record { x = 0; y = 0; z = 0 }

-- the corners of a triangle of a mesh by its lists
abbrev pub corners_in : MeshLists → ℕ → List Pos
corners_in lists i =
    map (λ place. slice_index_or lists.positions place origin)
    (slice_index_or lists.triangles i [])

-- lists show the triangles of a node, whose corners are in a world
pub record ShowsSurface (surface : Surface) (node : Node) (lists : MeshLists) : Type 0 where
  pub corners : (i : ℕ) → surface node i ≡ corners_in lists i
  pub near : All IsSmallPos lists.positions
