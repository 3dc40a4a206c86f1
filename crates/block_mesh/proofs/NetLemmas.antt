-- What the triangles of a leaf leave open, put together from its cells, for the law `meshes_leave_curves`
-- (docs/rules.md, "No crack between blocks").
--
-- `Leaves` says that some triangles have the net of some curves. By the laws of cells it holds of each cell; it holds
-- of two lists together (`Leaves-both`), so of all cells of a leaf and of all its squares (`Leaves-cells`,
-- `Leaves-squares`), and of the whole leaf (`block-leaves`). A mesh lists triangles by indices; read back, they are the
-- leaf's triangles (`listed-shown`, by the law that keys are told apart), and so the mesh leaves open the same.
use Rattle.std.proofs.Common.{◌≡◌, ℕ, zero, suc, ◌+◌, Bool, true, false, List, [], ◌∷◌, ◌++◌, cond, map, refl, sym, ap, ◌∙◌, arith}
use Rattle.std.specs.List.{AllByRecursion, flat_map, list_any}
use Rattle.std.proofs.lemmas.Bool.{true≢false}
use Rattle.std.proofs.lemmas.List.Concat.{flat_map-append}
use Rattle.lattice.specs.declared.key.Key.{Key}
use Rattle.lattice.specs.declared.node.Node.{Node}
use Rattle.lattice.specs.declared.node.TheConstants.{CELLS}
use Rattle.lattice.specs.declared.point.Face.{Face}
use Rattle.lattice.specs.declared.point.Point.{Point}
use Rattle.lattice.specs.Face.{faces}
use Rattle.lattice.specs.Key.{is_same_key}
use Rattle.lattice.specs.Lists.{joined}
use Rattle.terrain.specs.Samples.{Field}
use Rattle.terrain.specs.Levels.{LevelMap, is_transitional}
use Rattle.terrain.specs.Curves.{HaveSameNet, all_edges, edges_round, weight, weight_back}
use Rattle.terrain.specs.Cells.{regular_triangles, transition_triangles}
use Rattle.terrain.specs.Blocks.{Brick, block, cell_corner, keys_of, net, over_cells, over_squares, square_corner}
use Rattle.cell_laws.specs.Laws.{KeysAreTested, NetsAreOfPairs, RegularCellsLeaveCurves, TransitionCellsLeaveCurves}
use Rattle.cell_laws.proofs.WeightLemmas.{weight-append, weight_back-append}
use Rattle.block_mesh.specs.Mesh.{IsMeshOf, index_among, indices_of}
use Rattle.terrain.specs.MeshLists.{MeshLists}
use Rattle.block_mesh.specs.Nets.{LeavesCurves, leaf_curves, listed_key, regular_curves, transition_curves}
use Rattle.block_mesh.proofs.KeyLemmas.{All-back, All-front, IsKnown, or_else, with_keys-knows}

-- ---- triangles whose edges have the net of some curves

-- some triangles have the net of some curves, by any weight
abbrev Leaves : List (List Key) → List (Key × Key) → Type 0
Leaves triangles curves = HaveSameNet (all_edges triangles) curves

-- no triangles leave nothing
Leaves-none : Leaves [] []
Leaves-none w = refl

-- two lists leave what both do
Leaves-both : (ts us : List (List Key)) (cs ds : List (Key × Key)) → Leaves ts cs → Leaves us ds
    → Leaves (ts ++ us) (cs ++ ds)
Leaves-both ts us cs ds first second w =
    let apart : all_edges (ts ++ us) ≡ all_edges ts ++ all_edges us =
    flat_map-append edges_round ts us in
    omega (
      arith,
      first w,
      second w,
      ap (weight w) apart ∙ weight-append w (all_edges ts) (all_edges us),
      ap (weight_back w) apart ∙ weight_back-append w (all_edges ts) (all_edges us),
      weight-append w cs ds,
      weight_back-append w cs ds,
    )

-- so do lists that are joined
Leaves-joined : (n : ℕ) (f : ℕ → List (List Key)) (g : ℕ → List (Key × Key))
    → ((k : ℕ) → Leaves (f k) (g k)) → Leaves (joined n f) (joined n g)
unfolding joined
Leaves-joined zero f g each = Leaves-none
Leaves-joined (suc n) f g each =
    Leaves-both (joined n f) (f n) (joined n g) (g n) (Leaves-joined n f g each) (each n)

-- and triangles that may be there
Leaves-one : (b : Bool) (ts : List (List Key)) (cs : List (Key × Key)) → Leaves ts cs
    → Leaves (elim b as (λ _. List (List Key)) [ true ↦ ts | false ↦ [] ])
    (elim b as (λ _. List (Key × Key)) [ true ↦ cs | false ↦ [] ])
Leaves-one true ts cs here = here
Leaves-one false ts cs here = Leaves-none

-- ---- cells of a leaf

module _ (n : Node) where
  -- the cells of a leaf
  Leaves-cells : (f : Point → List (List Key)) (g : Point → List (Key × Key))
      → ((low : Point) → Leaves (f low) (g low)) → Leaves (over_cells n f) (over_cells n g)
  unfolding over_cells
  Leaves-cells f g each =
      let at : ℕ → ℕ → ℕ → Point = cell_corner n in
      Leaves-joined CELLS (λ z. joined CELLS (λ y. joined CELLS (λ x. f (at z y x))))
      (λ z. joined CELLS (λ y. joined CELLS (λ x. g (at z y x)))) (λ z.
      Leaves-joined CELLS (λ y. joined CELLS (λ x. f (at z y x)))
      (λ y. joined CELLS (λ x. g (at z y x))) (λ y.
      Leaves-joined CELLS (λ x. f (at z y x)) (λ x. g (at z y x)) (λ x. each (at z y x))))

  -- the squares of a face
  Leaves-squares : (face : Face) (f : Point → List (List Key)) (g : Point → List (Key × Key))
      → ((low : Point) → Leaves (f low) (g low))
      → Leaves (over_squares n face f) (over_squares n face g)
  unfolding over_squares
  Leaves-squares face f g each =
      let at : ℕ → ℕ → Point = square_corner n face in
      Leaves-joined CELLS (λ v. joined CELLS (λ u. f (at v u)))
      (λ v. joined CELLS (λ u. g (at v u))) (λ v.
      Leaves-joined CELLS (λ u. f (at v u)) (λ u. g (at v u)) (λ u. each (at v u)))

  module _ (transition : TransitionCellsLeaveCurves) (depth : ℕ) (s : Field) (m : LevelMap) where
    -- the triangles of a face's transition cells
    abbrev triangles_on : Face → List (List Key)
    triangles_on face = over_squares n face (transition_triangles s n.level face)

    -- and their curves
    abbrev curves_on : Face → List (Key × Key)
    curves_on face = over_squares n face (transition_curves s n.level face)

    -- the transitional faces of a leaf
    Leaves-faces : (some : List Face)
        → Leaves (flat_map (λ face. elim (is_transitional depth m n face) [
          | true ↦ triangles_on face
          | false ↦ []
        ]) some)
        (flat_map (λ face. elim (is_transitional depth m n face) [
          | true ↦ curves_on face
          | false ↦ []
        ]) some)
    Leaves-faces [] = Leaves-none
    Leaves-faces (face ∷ some) =
        let fine : Bool = is_transitional depth m n face in
        let here = Leaves-one fine (triangles_on face) (curves_on face)
        (Leaves-squares face (transition_triangles s n.level face)
        (transition_curves s n.level face) (transition s n.level face)) in
        Leaves-both (elim fine as (λ _. List (List Key)) [ true ↦ triangles_on face | false ↦ [] ])
        (flat_map (λ face. elim (is_transitional depth m n face) [
          | true ↦ triangles_on face
          | false ↦ []
        ]) some)
        (elim fine as (λ _. List (Key × Key)) [ true ↦ curves_on face | false ↦ [] ])
        (flat_map (λ face. elim (is_transitional depth m n face) [
          | true ↦ curves_on face
          | false ↦ []
        ]) some) here (Leaves-faces some)

    -- all of a leaf
    block-leaves : RegularCellsLeaveCurves → Leaves (block depth s m n) (leaf_curves depth s m n)
    unfolding block
    block-leaves regular =
        Leaves-both (over_cells n (regular_triangles s n.level))
        (flat_map (λ face. elim (is_transitional depth m n face) [
          | true ↦ triangles_on face
          | false ↦ []
        ]) faces) (over_cells n (regular_curves s n.level))
        (flat_map (λ face. elim (is_transitional depth m n face) [
          | true ↦ curves_on face
          | false ↦ []
        ]) faces)
        (Leaves-cells (regular_triangles s n.level) (regular_curves s n.level)
        (regular s n.level))
        (Leaves-faces faces)

-- ---- the keys at the places of keys

-- the key at an index with one more before it
listed-at : KeysAreTested → (b : Bool) (key k : Key) (n : ℕ) (keys : List Key)
    → is_same_key k key ≡ b → (b ≡ false → listed_key keys n ≡ key)
    → listed_key (k ∷ keys) (cond b 0 (1 + n)) ≡ key
listed-at tells true key k n keys is later = (tells k key).0 is
listed-at tells false key k n keys is later =
    let next : 1 + n ≡ suc n = omega arith in
    ap (listed_key (k ∷ keys)) next ∙ later refl

-- the key at a known key's index is the key
listed-place : KeysAreTested → (keys : List Key) (key : Key) → IsKnown keys key
    → listed_key keys (index_among key keys) ≡ key
listed-place tells [] key known = absurd (true≢false (sym known))
listed-place tells (k ∷ keys) key known =
    listed-at tells (is_same_key k key) key k (index_among key keys) keys refl
    (λ other. listed-place tells keys key (or_else (is_same_key k key)
    (list_any (λ k. is_same_key k key) keys) known
    (λ same. absurd (true≢false (sym same ∙ other))) (λ later. later)))

-- so a triangle is read back
listed-row : KeysAreTested → (keys row : List Key) → AllByRecursion (IsKnown keys) row
    → map (listed_key keys) (map (λ key. index_among key keys) row) ≡ row
listed-row tells keys [] known = refl
listed-row tells keys (key ∷ row) known =
    λ i. listed-place tells keys key known.0 i ∷ listed-row tells keys row known.1 i

-- and so are all
listed-rows : KeysAreTested → (keys : List Key) (rows : List (List Key))
    → AllByRecursion (IsKnown keys) (flat_map (λ row. row) rows)
    → map (map (listed_key keys)) (indices_of keys rows) ≡ rows
listed-rows tells keys [] known = refl
listed-rows tells keys (row ∷ rows) known =
    let rest : List Key = flat_map (λ row. row) rows in
    λ i. listed-row tells keys row (All-front (IsKnown keys) row rest known)
    i ∷ listed-rows tells keys rows (All-back (IsKnown keys) row rest known) i

-- the triangles that the lists of a mesh name are the mesh's
pub listed-shown : KeysAreTested → (lists : MeshLists) (triangles : List (List Key))
    → lists.keys ≡ keys_of triangles → lists.triangles ≡ indices_of (keys_of triangles) triangles
    → map (map (listed_key lists.keys)) lists.triangles ≡ triangles
listed-shown tells lists triangles keys places =
    (λ i. map (map (listed_key (keys i))) (places i))
    ∙ listed-rows tells (keys_of triangles) triangles
    (with_keys-knows [] (flat_map (λ triangle. triangle) triangles))

-- the mesh of a brick leaves open the curves of the faces of its leaf's cells
pub mesh-leaves : RegularCellsLeaveCurves → TransitionCellsLeaveCurves → KeysAreTested
    → NetsAreOfPairs → (b : Brick) (lists : MeshLists) → IsMeshOf b lists → LeavesCurves b lists
mesh-leaves regular transition tells pairs b lists of = record {
  sums = λ s m has x y.
      let shown = of.shows s m has in
      let triangles : List (List Key) = block b.depth s m b.node in
      ap (λ edges. net edges x y)
      (ap all_edges (listed-shown tells lists triangles shown.keys shown.triangles))
      ∙ pairs (all_edges triangles) (leaf_curves b.depth s m b.node)
      (block-leaves b.node transition b.depth s m regular) x y;
}
