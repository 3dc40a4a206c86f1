-- The triangles of cells on leaves, by their sign numbers.
use Rattle.std.proofs.Common.{◌≡◌, ℕ, ap, ◌∙◌, refl, List, map}
use Rattle.lattice.specs.Lists.{joined}
use Rattle.lattice.specs.declared.node.Node.{Node}
use Rattle.lattice.specs.declared.point.Face.{Face}
use Rattle.lattice.specs.declared.point.Point.{Point}
use Rattle.terrain.specs.Blocks.{cell_corner, over_cells, over_squares, square_corner}
use Rattle.terrain.specs.Cells.{regular_faces, regular_key, regular_signs, regular_triangles, transition_faces, transition_key, transition_signs, transition_triangles, triangles_of}
use Rattle.terrain.specs.Samples.{Field}
use Rattle.block_mesh.specs.LeafCells.{cell_triangles, square_triangles}

-- the triangles that fill the loops of a regular cell are the cell's
pub regular-are : (s : Field) (n : Node) (cell : Point) (signs : ℕ)
    (triangles : List (List ℕ))
    → signs ≡ regular_signs s n.level (cell_corner n cell.z cell.y cell.x)
    → triangles ≡ triangles_of (regular_faces signs)
    → cell_triangles n cell triangles
    ≡ regular_triangles s n.level (cell_corner n cell.z cell.y cell.x)
regular-are s n cell signs triangles same are =
    let by : List (List ℕ) → List (List _) =
    map (map (regular_key n.level (cell_corner n cell.z cell.y cell.x))) in
    ap by (are ∙ ap (λ g. triangles_of (regular_faces g)) same)

-- so are those of a transition cell
pub transition-are : (s : Field) (n : Node) (face : Face) (v u signs : ℕ)
    (triangles : List (List ℕ))
    → signs ≡ transition_signs s n.level face (square_corner n face v u)
    → triangles ≡ triangles_of (transition_faces face signs)
    → square_triangles n face v u triangles
    ≡ transition_triangles s n.level face (square_corner n face v u)
transition-are s n face v u signs triangles same are =
    let by : List (List ℕ) → List (List _) =
    map (map (transition_key n.level face (square_corner n face v u))) in
    ap by (are ∙ ap (λ g. triangles_of (transition_faces face g)) same)

-- the cells of a leaf, layer by layer and row by row
pub cells-joined : {A : Type 0} (n : Node) (f : Point → List A)
    → joined 16 (λ z. joined 16 (λ y. joined 16 (λ x. f (cell_corner n z y x)))) ≡ over_cells n f
unfolding over_cells
cells-joined n f = refl

-- the squares of a leaf's face, row by row
pub squares-joined : {A : Type 0} (n : Node) (face : Face) (f : Point → List A)
    → joined 16 (λ v. joined 16 (λ u. f (square_corner n face v u))) ≡ over_squares n face f
unfolding over_squares
squares-joined n face f = refl
