-- The slots of the edges of a cell in the table of a leaf's edges: that of the cell's first edge and a step.
--
-- For `edge_slot` of the builder and `cell_steps.rt`: a slot is linear in the cell's corner (`slot-step`), the table of
-- twelve steps is compared with the definition by computing (`step-in_table`), and no slot lies past the table
-- (`slot-within`).
use Rattle.std.proofs.Common.{◌≡◌, ℕ, zero, suc, ◌+◌, ◌/◌, ◌%◌, ◌<◌, Bool, List, [], ◌∷◌, true, get_or, map, length, refl, ap, ◌∙◌, arith}
use Rattle.std.specs.Prelude.{◌==◌, nat_lt}
use Rattle.std.specs.List.{list_all}
use Rattle.std.proofs.lemmas.Bool.{and_parts, eqb-true, ltb-true}
use Rattle.std.proofs.lemmas.List.{get_or-map}
use Rattle.lattice.specs.declared.point.Axis.{Axis}
use Rattle.lattice.specs.declared.point.Axis.TheVariants.{X, Y, Z}
use Rattle.lattice.specs.declared.point.Point.{Point}
use Rattle.lattice.specs.Point.{moved}
use Rattle.terrain.specs.Cells.{CellEdge, corner_point, regular_edges}
use Rattle.cells.specs.Edges.{regular_edge}
use Rattle.block_mesh.specs.KeyTable.{edge_slot, edge_step}
use Rattle.lattice.specs.Steps.{AreAtMost}
use Rattle.block_mesh.specs.declared.cell_steps.TheConstants.{EDGE_STEPS}

-- an edge's place is that of the cell's first edge and a step
pub slot-step : (cell : Point) (corner : ℕ) (axis : Axis)
    → edge_slot cell X + edge_step (record { corner = corner; axis = axis })
    ≡ edge_slot (corner_point 0 cell corner) axis
slot-step cell corner X = omega arith
slot-step cell corner Y = omega arith
slot-step cell corner Z = omega arith

-- the table has the step of each edge
pub step-in_table : (number : ℕ) → number < 12
    → get_or EDGE_STEPS number 0 ≡ edge_step (regular_edge number)
step-in_table number within =
    ap (λ xs. get_or xs number 0) all
    ∙ get_or-map edge_step regular_edges number (record { corner = 0; axis = X }) 0 within
  where
    all : EDGE_STEPS ≡ map edge_step regular_edges
    all = refl

-- a test that all edges pass is passed by each
all-at : (test : CellEdge → Bool) (edges : List CellEdge) → list_all test edges ≡ true
    → (k : ℕ) (none : CellEdge) → k < length edges → test (get_or edges k none) ≡ true
all-at test [] all k none within = absurd (omega arith)
all-at test (edge ∷ edges) all zero none within =
    (and_parts (test edge) (list_all test edges) all).0
all-at test (edge ∷ edges) all (suc k) none within =
    all-at test edges (and_parts (test edge) (list_all test edges) all).1 k none (omega arith)

-- each edge begins at one of the cell's 8 corners
pub corner-low : (number : ℕ) → number < 12 → (regular_edge number).corner < 8
corner-low number within =
    ltb-true (regular_edge number).corner 8
    (all-at (λ edge. nat_lt edge.corner 8) regular_edges refl number
    (record { corner = 0; axis = X }) within)

-- on the low side of its axis
abbrev is_low : Axis → ℕ → Bool
is_low X corner = corner % 2 == 0
is_low Y corner = corner / 2 % 2 == 0
is_low Z corner = corner / 4 == 0

-- so it ends in the leaf
pub corner-end : (cell : Point) (number : ℕ) → AreAtMost 15 cell → number < 12
    → AreAtMost 16 (moved (regular_edge number).axis 1
    (corner_point 0 cell (regular_edge number).corner))
corner-end cell number within low =
    by (regular_edge number).axis (regular_edge number).corner (corner-low number low)
    (all-at (λ edge. is_low edge.axis edge.corner) regular_edges refl number
    (record { corner = 0; axis = X }) low)
  where
    by : (axis : Axis) (corner : ℕ) → corner < 8 → is_low axis corner ≡ true
        → AreAtMost 16 (moved axis 1 (corner_point 0 cell corner))
    by X corner few on =
        let at = eqb-true (corner % 2) 0 on in
        record {
          z = omega (arith, within.z);
          y = omega (arith, within.y);
          x = omega (arith, within.x, at);
        }
    by Y corner few on =
        let at = eqb-true (corner / 2 % 2) 0 on in
        record {
          z = omega (arith, within.z);
          y = omega (arith, within.y, at);
          x = omega (arith, within.x);
        }
    by Z corner few on =
        let at = eqb-true (corner / 4) 0 on in
        record {
          z = omega (arith, within.z, at);
          y = omega (arith, within.y);
          x = omega (arith, within.x);
        }

-- an edge of a cell of a leaf has a place in the table
pub slot-within : (cell : Point) (corner : ℕ) (axis : Axis) → AreAtMost 15 cell → corner < 8
    → edge_slot (corner_point 0 cell corner) axis < 14739
slot-within cell corner X within low = omega (arith, within.z, within.y, within.x)
slot-within cell corner Y within low = omega (arith, within.z, within.y, within.x)
slot-within cell corner Z within low = omega (arith, within.z, within.y, within.x)

-- its low end is a point of the leaf
pub corner-within : (cell : Point) (corner : ℕ) → AreAtMost 15 cell → corner < 8
    → AreAtMost 16 (corner_point 0 cell corner)
corner-within cell corner within low = record {
  z = omega (arith, within.z);
  y = omega (arith, within.y);
  x = omega (arith, within.x);
}
