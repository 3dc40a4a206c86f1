-- Plain data as C sees it, and what it stands for.
-- Source: this project's rule.
use Rattle.std.specs.Prelude.{◌≡◌, ◌<◌, ◌≤◌, ◌^◌, ℕ, false, negsuc, pos, ◌==◌, if◌then◌else◌, List, length, Option, Some, None, slice_get, slice_index}
use Rattle.std.specs.Float.Ieee
use Rattle.std.specs.Float.Ieee.Exact.{HasValue}
use Rattle.std.specs.Float.{Float, binary32, fin}
use Rattle.std.specs.Option.{option_and_then, option_map}
use Rattle.lattice.specs.declared.node.Node.{Node}
use Rattle.lattice.specs.declared.point.Point.{Point}
use Rattle.lattice.specs.declared.point.Pos.{Pos}
use Rattle.terrain.specs.declared.brush.Brush.{Brush}
use Rattle.terrain.specs.declared.brush.Brush.TheVariants.{Cuboid, Ball, Ground, Smooth}
use Rattle.terrain.specs.declared.brush.Mode.{Mode}
use Rattle.terrain.specs.declared.brush.Mode.TheVariants.{Fill, Carve}
use Rattle.audits.specs.declared.audit.Audit.{Audit}
use Rattle.snapshots.specs.declared.stats.Stats.{Stats}
use Rattle.surface_normals.specs.declared.vector.Normal.{Normal}
use Rattle.frame_surface.specs.declared.hit.Hit.{Hit}
use Rattle.terra_c.specs.declared.shapes.TerraAudit.{TerraAudit}
use Rattle.terra_c.specs.declared.shapes.TerraBrush.{TerraBrush}
use Rattle.terra_c.specs.declared.shapes.TerraFloats.{TerraFloats}
use Rattle.terra_c.specs.declared.shapes.TerraHit.{TerraHit}
use Rattle.terra_c.specs.declared.shapes.TerraNode.{TerraNode}
use Rattle.terra_c.specs.declared.shapes.TerraNormal.{TerraNormal}
use Rattle.terra_c.specs.declared.shapes.TerraPoint.{TerraPoint}
use Rattle.terra_c.specs.declared.shapes.TerraStats.{TerraStats}
use Rattle.terra_c.specs.declared.shapes.TerraTriangle.{TerraTriangle}
use Rattle.terra_c.specs.declared.shapes.TerraTriangle16.{TerraTriangle16}
use Rattle.terra_c.specs.declared.shapes.TerraVertex.{TerraVertex}

-- what numbers of C stand for
abbrev pub point_of_c : TerraPoint → Point
point_of_c p = record { z = p.z; y = p.y; x = p.x }

-- the node
abbrev pub node_of_c : TerraNode → Node
node_of_c n = record { level = n.level; k = n.k; j = n.j; i = n.i }

-- the hit of a pick
abbrev pub hit_of_c : TerraHit → Hit
hit_of_c h = record { node = node_of_c h.node; triangle = h.triangle; num = h.num; den = h.den }

-- a node as C sees it
abbrev pub c_node : Node → TerraNode
c_node n = record { i = n.i; j = n.j; k = n.k; level = n.level }

-- a point
abbrev pub c_point : Point → TerraPoint
c_point p = record { x = p.x; y = p.y; z = p.z }

-- counts, with how many events there are
abbrev pub c_stats : ℕ → Stats → TerraStats
c_stats events s =
    record { events = events; leaves = s.leaves; triangles = s.triangles; keys = s.keys }

-- an audit
abbrev pub c_audit : Audit → TerraAudit
c_audit a = record { edges = a.edges; cracks = a.cracks; border = a.border }

-- a position
abbrev pub c_vertex : Pos → TerraVertex
c_vertex p = record { x = p.x; y = p.y; z = p.z }

-- a normal
abbrev pub c_normal : Normal → TerraNormal
c_normal n = record { x = n.x; y = n.y; z = n.z }

-- units of 1/256 fine cell as a 32-bit float, in fine cells: the float of the number, times 2 ^ -8
abbrev pub cells_of_units : ℕ → Float
cells_of_units units =
    Ieee.mul binary32 (fin false 1 (negsuc 7)) (Ieee.of_int binary32 (pos units))

-- below 2 ^ 24 units, which is 256 times what a coordinate may have, it is exactly a 256th of the units
abbrev pub FloatsAreExact : Type 0
FloatsAreExact =
    (units : ℕ) → units < 2 ^ 24 → HasValue (cells_of_units units) false units 256

-- a position as floats
abbrev pub c_floats : Pos → TerraFloats
c_floats p =
    record { x = cells_of_units p.x; y = cells_of_units p.y; z = cells_of_units p.z }

-- a triangle
abbrev pub c_triangle : List ℕ → TerraTriangle
c_triangle t = record { a = slice_index t 0; b = slice_index t 1; c = slice_index t 2 }

-- the same with numbers of 16 bits
abbrev pub c_triangle16 : List ℕ → TerraTriangle16
c_triangle16 t = record { a = slice_index t 0; b = slice_index t 1; c = slice_index t 2 }

-- the mode of a number, and the brush that numbers name
abbrev pub mode_of_c : ℕ → Option Mode
mode_of_c n = if n == 0 then Some Fill else if n == 1 then Some Carve else None

abbrev pub shape_of_c : TerraBrush → Mode → Option Brush
shape_of_c b mode =
    if b.kind == 0 then Some (Cuboid mode (point_of_c b.lo) (point_of_c b.hi))
    else if b.kind == 1 then Some (Ball mode (point_of_c b.lo) b.size)
    else if b.kind == 2 then Some (Ground mode b.size)
    else None

abbrev pub brush_of_c : TerraBrush → Option Brush
brush_of_c b =
    if b.kind == 3 then Some (Smooth (point_of_c b.lo) (point_of_c b.hi))
    else option_and_then (shape_of_c b) (mode_of_c b.mode)

-- room after a copy: its first items show those of a list, and the others are as they were
pub record IsCopy (A B : Type 0) (shown : A → B) (from : List A) (old new : List B) : Type 0 where
  pub room : length new ≡ length old
  pub copied : (k : ℕ) → k < length from
      → slice_get new k ≡ option_map shown (slice_get from k)
  pub rest : (k : ℕ) → length from ≤ k → slice_get new k ≡ slice_get old k
