-- The edges of a regular cell by the steps of their slots: which keys they have, and the triangles of them.
--
-- For the builder's `add_regular` and `cell_steps.rt`. The slot of an edge is that of its cell's first edge and a step
-- (`EdgeStepLemmas`). So it is a slot of an edge that ends in the leaf (`step-slot`), and has the key of the cell's
-- edge (`step-key`); and a triangle by its steps has the keys of the cell's triangle (`step-keys`). The table of
-- triangles grows by one sign number after another (`steps-more`).
use Rattle.std.proofs.Common.{◌≡◌, ℕ, ◌+◌, ◌<◌, List, [], ◌∷◌, ◌++◌, length, map, get_or, refl, sym, ap, ◌∙◌, subst, arith, ◌⊎◌, inl, inr, length-append}
use Rattle.std.proofs.lemmas.List.{get_or_append_left}
use Rattle.std.proofs.Math.Seq.{get_or-append_seam}
use Rattle.std.specs.List.{AllByRecursion}
use Rattle.lattice.specs.declared.point.Axis.{Axis}
use Rattle.lattice.specs.declared.point.Axis.TheVariants.{X}
use Rattle.lattice.specs.declared.point.Point.{Point}
use Rattle.lattice.specs.Point.{moved}
use Rattle.lattice.specs.Steps.{AreAtMost}
use Rattle.terrain.specs.Blocks.{Brick}
use Rattle.terrain.specs.Cells.{corner_point}
use Rattle.cells.specs.Edges.{regular_edge}
use Rattle.block_mesh.specs.CellSteps.{HaveTriangleSteps, HasTriangleSteps, number_step}
use Rattle.block_mesh.specs.KeyTable.{edge_slot}
use Rattle.block_mesh.specs.LeafCells.{cell_key}
use Rattle.block_mesh.specs.MeshEdges.{IsEdgeSlot, key_at_slot}
use Rattle.block_mesh.specs.declared.cell_steps.Triangles.{Triangles}
use Rattle.block_mesh.proofs.EdgeStepLemmas.{corner-end, corner-low, corner-within, slot-step, slot-within}
use Rattle.block_mesh.proofs.LeafCellLemmas.{cell_key-at}
use Rattle.block_mesh.proofs.MeshEdgeLemmas.{slot-tells, slot_key}

-- the slot of an edge that ends in the leaf
pub IsEdgeSlot-at : (at : Point) (axis : Axis) → AreAtMost 16 at → edge_slot at axis < 14739
    → AreAtMost 16 (moved axis 1 at) → IsEdgeSlot (edge_slot at axis)
IsEdgeSlot-at at axis at_in slot_in end =
    let tells = slot-tells at axis at_in in
    record {
      within = slot_in;
      end = subst (λ (e : Point × Axis). AreAtMost 16 (moved e.1 1 e.0))
          (λ i. (sym tells.0 i, sym tells.1 i)) end;
    }

-- the step of an edge leads to its slot
slot-is : (cell : Point) (number : ℕ) → edge_slot cell X + number_step number
    ≡ edge_slot (corner_point 0 cell (regular_edge number).corner) (regular_edge number).axis
slot-is cell number = slot-step cell (regular_edge number).corner (regular_edge number).axis

-- which is one of the table, of an edge that ends in the leaf
pub step-slot : (cell : Point) (number : ℕ) → AreAtMost 15 cell → number < 12
    → IsEdgeSlot (edge_slot cell X + number_step number)
step-slot cell number within low =
    let edge = regular_edge number in
    let corner = corner-low number low in
    subst IsEdgeSlot (sym (slot-is cell number))
    (IsEdgeSlot-at (corner_point 0 cell edge.corner) edge.axis
    (corner-within cell edge.corner within corner)
    (slot-within cell edge.corner edge.axis within corner)
    (corner-end cell number within low))

-- the key there is that of the cell's edge
pub step-key : (b : Brick) (cell : Point) (number : ℕ) → AreAtMost 15 cell → number < 12
    → key_at_slot b (edge_slot cell X + number_step number) ≡ cell_key b.node cell number
step-key b cell number within low =
    let edge = regular_edge number in
    ap (key_at_slot b) (slot-is cell number)
    ∙ slot_key b (corner_point 0 cell edge.corner) edge.axis
    (corner-within cell edge.corner within (corner-low number low))
    ∙ sym (cell_key-at b.node cell number)

-- a triangle's steps lead to slots of edges
pub step-slots : (cell : Point) (triangle : List ℕ) → AreAtMost 15 cell
    → AllByRecursion (λ edge. edge < 12) triangle
    → AllByRecursion (λ step. IsEdgeSlot (edge_slot cell X + step)) (map number_step triangle)
step-slots cell [] within all = tt
step-slots cell (number ∷ triangle) within all =
    (step-slot cell number within all.0, step-slots cell triangle within all.1)

-- whose keys are those of the triangle
pub step-keys : (b : Brick) (cell : Point) (triangle : List ℕ) → AreAtMost 15 cell
    → AllByRecursion (λ edge. edge < 12) triangle
    → map (λ step. key_at_slot b (edge_slot cell X + step)) (map number_step triangle)
    ≡ map (cell_key b.node cell) triangle
step-keys b cell [] within all = refl
step-keys b cell (number ∷ triangle) within all =
    λ i. step-key b cell number within all.0 i ∷ step-keys b cell triangle within all.1 i

-- ---- the table

-- the triangles of one more sign number behind those of a table
pub steps-more : (count : ℕ) (table : List Triangles) (more : Triangles)
    → HaveTriangleSteps count table → HasTriangleSteps count more
    → HaveTriangleSteps (count + 1) (table ++ more ∷ [])
steps-more count table more so_far here = record {
  whole = length-append table (more ∷ []) ∙ ap (λ n. n + 1) so_far.whole;
  each = λ signs none lt.
      let places : (signs < count) ⊎ (count ≡ signs) = grind arith in
      elim places [
        | inl below ↦
            let within : signs < length table = omega (arith, so_far.whole, below) in
            subst (HasTriangleSteps signs) (sym
            (get_or_append_left table (more ∷ []) none signs within))
            (so_far.each signs none below)
        | inr same ↦
            subst (λ (i : ℕ). HasTriangleSteps i (get_or (table ++ more ∷ []) i none)) same
            (subst (λ (i : ℕ). HasTriangleSteps count (get_or (table ++ more ∷ []) i none))
            so_far.whole
            (subst (HasTriangleSteps count) (sym (get_or-append_seam table more [] none)) here))
      ];
}

-- those at the place of a sign number are of that number
pub steps-at : (count signs place : ℕ) (table : List Triangles) (triangles : Triangles)
    → HaveTriangleSteps count table → signs < count → place ≡ signs
    → triangles ≡ get_or table place triangles → HasTriangleSteps signs triangles
steps-at count signs place table triangles all within same is =
    subst (HasTriangleSteps signs) (sym (is ∙ ap (λ i. get_or table i triangles) same))
    (all.each signs triangles within)
