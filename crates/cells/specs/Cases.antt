-- What the tables of sign cases hold.
use Rattle.std.specs.Prelude.{◌≡◌, ℕ, ◌<◌, ◌≤◌, List, length, slice_index_or}
use Rattle.std.specs.List.{AllByRecursion}
use Rattle.terrain.specs.Curves.{Polygon, HaveSameNet, cell_curves, curve_edges, loops, fan, all_edges}
use Rattle.lattice.specs.declared.point.Face.TheVariants.{XLow, XHigh}
use Rattle.terrain.specs.Cells.{regular_faces, transition_faces, triangles_of}
use Rattle.terrain.specs.declared.cells.TheConstants.{REGULAR_CASES, TRANSITION_CASES}
use Rattle.cells.specs.declared.edges.TheConstants.{REGULAR_EDGES, TRANSITION_EDGES}
use Rattle.cells.specs.declared.case.Case.{Case}

-- the lists are the loops of a cell with these faces, of at least three keys each, all of them below a bound, and their
-- triangles leave open just the curves of the faces
pub record AreLoops (faces : List Polygon) (bound : ℕ) (lists : List (List ℕ)) : Type 0 where
  pub exact : lists ≡ loops faces
  pub net : HaveSameNet (all_edges (fan lists)) (curve_edges (cell_curves faces))
  pub three : AllByRecursion (λ keys. 3 ≤ length keys) lists
  pub below : AllByRecursion (AllByRecursion (λ key. key < bound)) lists

-- the case has the loops of a cell with these faces, and the triangles that fill them
pub record IsCase (faces : List Polygon) (bound : ℕ) (case : Case) : Type 0 where
  pub loops : AreLoops faces bound case.loops
  pub triangles : case.triangles.items ≡ triangles_of faces

-- the table has a case for each sign number below a count, of the cell with the faces of that number
pub record AreCases (faces : ℕ → List Polygon) (bound count : ℕ) (cases : List Case) : Type 0 where
  pub whole : length cases ≡ count
  pub each : (signs : ℕ) (none : Case) → signs < count
      → IsCase (faces signs) bound (slice_index_or cases signs none)

-- the tables have the cases of all regular cells, and those of all transition cells in the straight turn, as on XHigh,
-- and in the reversed one, as on XLow
pub record AreTables (regulars straights reverses : List Case) : Type 0 where
  pub regular : AreCases regular_faces REGULAR_EDGES REGULAR_CASES regulars
  pub straight : AreCases (transition_faces XHigh) TRANSITION_EDGES TRANSITION_CASES straights
  pub reversed : AreCases (transition_faces XLow) TRANSITION_EDGES TRANSITION_CASES reverses
