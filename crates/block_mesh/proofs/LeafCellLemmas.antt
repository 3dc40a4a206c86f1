-- The keys of a leaf's cells by steps from its low corner, and triangles by the numbers of their edges.
--
-- For the builder's loops over the triangles of a cell: the key of an edge is that of its low end, by the cell's steps
-- and the edge's corner (`cell_key-at`), and the triangles that were added are the first ones of the cell's
-- (`triangles-more`).
use Rattle.std.proofs.Common.{◌≡◌, ℕ, zero, suc, ◌+◌, ◌*◌, ◌/◌, ◌%◌, ◌^◌, ◌<◌, List, [], ◌∷◌, ◌++◌, length, get_or, map, take, refl, sym, ap, ◌∙◌, arith}
use Rattle.std.specs.List.{AllByRecursion}
use Rattle.std.proofs.lemmas.List.{map-append, take_more}
use Rattle.lattice.specs.declared.node.Node.{Node}
use Rattle.lattice.specs.declared.point.Point.{Point}
use Rattle.lattice.specs.Node.{low_corner}
use Rattle.terrain.specs.Blocks.{cell_corner}
use Rattle.terrain.specs.Cells.{corner_point}
use Rattle.cells.specs.Edges.{regular_edge}
use Rattle.block_mesh.specs.LeafCells.{cell_key}
use Rattle.lattice.specs.Steps.{key_at, point_at}

-- steps of a level are added
step-on : (low level steps more : ℕ)
    → low + 2 ^ level * steps + 2 ^ level * more ≡ low + 2 ^ level * (steps + 1 * more)
step-on low level steps more = omega arith

-- a corner of a cell of a leaf, by its steps
corner-at : (n : Node) (cell : Point) (corner : ℕ)
    → corner_point n.level (cell_corner n cell.z cell.y cell.x) corner
    ≡ point_at n.level n (corner_point 0 cell corner)
corner-at n cell corner =
    let low = low_corner n in
    λ i. record {
      z = step-on low.z n.level cell.z (corner / 4) i;
      y = step-on low.y n.level cell.y (corner / 2 % 2) i;
      x = step-on low.x n.level cell.x (corner % 2) i;
    }

-- the key of an edge of a cell of a leaf, by its steps
pub cell_key-at : (n : Node) (cell : Point) (number : ℕ) → cell_key n cell number
    ≡ key_at n.level n (corner_point 0 cell (regular_edge number).corner) (regular_edge number).axis
cell_key-at n cell number =
    λ i. record {
      level = n.level;
      at = corner-at n cell (regular_edge number).corner i;
      axis = (regular_edge number).axis;
    }

-- ---- triangles by numbers of edges

-- what holds of each item of some items holds of each of one
pub row-at : (P : ℕ → Type 0) (ts : List (List ℕ)) (i : ℕ)
    → AllByRecursion (AllByRecursion P) ts → i < length ts → AllByRecursion P (get_or ts i [])
row-at P [] i all i_in = absurd (omega arith)
row-at P (t ∷ ts) zero all i_in = all.0
row-at P (t ∷ ts) (suc i) all i_in = row-at P ts i all.1 (omega arith)

-- and of what each of them is turned into
pub row-of : {A : Type 0} (P : A → Type 0) (f : ℕ → A) (ts : List (List ℕ)) (i : ℕ)
    → AllByRecursion (AllByRecursion P) (map (map f) ts) → i < length ts
    → AllByRecursion P (map f (get_or ts i []))
row-of P f [] i all i_in = absurd (omega arith)
row-of P f (t ∷ ts) zero all i_in = all.0
row-of P f (t ∷ ts) (suc i) all i_in = row-of P f ts i all.1 (omega arith)

-- what holds of each item holds of one
pub item-at : (P : ℕ → Type 0) (t : List ℕ) (j : ℕ) → AllByRecursion P t → j < length t
    → P (get_or t j 0)
item-at P [] j all j_in = absurd (omega arith)
item-at P (x ∷ t) zero all j_in = all.0
item-at P (x ∷ t) (suc j) all j_in = item-at P t j all.1 (omega arith)

-- and of what it is turned into
pub item-of : {A : Type 0} (P : A → Type 0) (f : ℕ → A) (t : List ℕ) (j : ℕ)
    → AllByRecursion P (map f t) → j < length t → P (f (get_or t j 0))
item-of P f [] j all j_in = absurd (omega arith)
item-of P f (x ∷ t) zero all j_in = all.0
item-of P f (x ∷ t) (suc j) all j_in = item-of P f t j all.1 (omega arith)

-- a list of three by its items
pub three : (t : List ℕ) → length t ≡ 3 → get_or t 0 0 ∷ get_or t 1 0 ∷ get_or t 2 0 ∷ [] ≡ t
three [] count = absurd (omega arith)
three (a ∷ []) count = absurd (omega arith)
three (a ∷ b ∷ []) count = absurd (omega arith)
three (a ∷ b ∷ c ∷ []) count = refl
three (a ∷ b ∷ c ∷ d ∷ t) count = absurd (omega arith)

-- one triangle more
pub triangles-more : {A : Type 0} (f : ℕ → A) (ts : List (List ℕ)) (i : ℕ) → i < length ts
    → map (map f) (take i ts) ++ map f (get_or ts i []) ∷ [] ≡ map (map f) (take (i + 1) ts)
triangles-more f ts i within =
    sym (map-append (map f) (take i ts) (get_or ts i [] ∷ []))
    ∙ ap (map (map f)) (sym (take_more ts i [] within))
