-- The tables of edges are those of the definitions, and their corners and points are a cell's.
use Rattle.std.proofs.Common.{◌≡◌, ℕ, ◌<◌, Bool, true, false, slice_index_or, refl, sym, ap, ◌∙◌}
use Rattle.std.specs.Prelude.{nat_lt}
use Rattle.std.proofs.lemmas.Bool.{ltb-true}
use Rattle.std.proofs.lemmas.List.{get_or-map}
use Rattle.lattice.specs.declared.point.Axis.{Axis}
use Rattle.lattice.specs.declared.point.Axis.TheVariants.{X}
use Rattle.lattice.specs.Face.{lower}
use Rattle.terrain.specs.Cells.{CellEdge, TransitionEdge}
use Rattle.cells.specs.declared.edges.Along.{Along}
use Rattle.cells.specs.declared.edges.TheConstants.{REGULAR, TRANSITION}
use Rattle.cells.specs.Edges.{face_axis, regular_edge, transition_edge}
use Rattle.cell_laws.proofs.AllSigns.{all_below, at_below}

-- an entry of the table of a regular cell's edges
regular_of : ℕ × Axis → CellEdge
regular_of entry = record { corner = entry.0; axis = entry.1 }

-- an entry of the table of a transition cell's edges
transition_of : Bool × ℕ × Along → TransitionEdge
transition_of entry =
    record { is_coarse = entry.0; point = entry.1; along = face_axis entry.2 }

-- the corner in the table is the edge's
pub regular_edge-corner : (number place : ℕ) (none : ℕ × Axis) → place ≡ number → number < 12
    → (slice_index_or REGULAR place none).0 ≡ (regular_edge number).corner
unfolding regular_of
regular_edge-corner number place none same within =
    ap (λ i. (slice_index_or REGULAR i none).0) same
    ∙ sym (ap (λ edge. edge.corner)
    (get_or-map regular_of REGULAR number none (record { corner = 0; axis = X }) within))

-- the point in the table is the edge's
pub transition_edge-point : (number place : ℕ) (none : Bool × ℕ × Along) → place ≡ number
    → number < 16 → (slice_index_or TRANSITION place none).1 ≡ (transition_edge number).point
unfolding transition_of
transition_edge-point number place none same within =
    let default : TransitionEdge = record { is_coarse = false; point = 0; along = lower } in
    ap (λ i. (slice_index_or TRANSITION i none).1) same
    ∙ sym (ap (λ edge. edge.point) (get_or-map transition_of TRANSITION number none default within))

-- the test of all 12 edges passes: it is computed
regular_pass : all_below 12 (λ number. nat_lt (regular_edge number).corner 8) ≡ true
regular_pass = refl

-- an edge of a regular cell begins at one of its 8 corners
pub regular_edge-low : (number : ℕ) → number < 12 → (regular_edge number).corner < 8
regular_edge-low number within =
    ltb-true _ _ (at_below 12 (λ number. nat_lt (regular_edge number).corner 8)
    regular_pass number within)

-- the test of all 16 edges passes
transition_pass : all_below 16 (λ number. nat_lt (transition_edge number).point 9) ≡ true
transition_pass = refl

-- an edge of a transition cell begins at one of its 9 points
pub transition_edge-low : (number : ℕ) → number < 16 → (transition_edge number).point < 9
transition_edge-low number within =
    ltb-true _ _
    (at_below 16 (λ number. nat_lt (transition_edge number).point 9) transition_pass number within)
