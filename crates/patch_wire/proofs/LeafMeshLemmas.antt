-- The mesh of a block has a shape that readers take, and that of the opening frame's leaf is empty.
-- Each triangle of a cell is made from a loop and has three keys (`fan_of-three`), and so has each one of a leaf
-- (`block-three`) and of a block, whose triangles are those of a leaf by the places of their keys (`done-three`); the
-- rest of the shape each block's mesh keeps (`IsShaped-done`). Before any event nothing is solid, so that no cell has a
-- triangle (`regular-none`), and no node is split, so that no face is transitional (`faces-none`): the leaf has none
-- (`block-none`), and no key (`opening_lists`).
use Rattle.std.proofs.Common.{◌≡◌, ℕ, zero, suc, ◌≤◌, Bool, true, false, List, [], ◌∷◌, ◌++◌, length, map, get_or, All, refl, sym, ap, subst, ◌∙◌, arith}
use Rattle.std.specs.Prelude.{◌&&◌}
use Rattle.std.specs.List.{flat_map}
use Rattle.std.proofs.Math.Bool.{and-false}
use Rattle.std.proofs.Math.Bridge.{le_prop}
use Rattle.std.proofs.Math.Logic.{∥∥₁_elim}
use Rattle.std.proofs.lemmas.List.{length-map}
use Rattle.std.proofs.lemmas.List.Concat.{flat_map-cons}
use Rattle.std.proofs.lemmas.List.Elements.{All-append, All-map, All-nil, All-weaker}
use Rattle.cell_laws.specs.Laws.{LeavesHaveFewTriangles}
use Rattle.event_laws.specs.Laws.{NoneIsSplit}
use Rattle.lattice.specs.declared.key.Key.{Key}
use Rattle.lattice.specs.declared.node.Node.{Node}
use Rattle.lattice.specs.declared.node.TheConstants.{CELLS}
use Rattle.lattice.specs.declared.point.Face.{Face}
use Rattle.lattice.specs.declared.point.Point.{Point}
use Rattle.lattice.specs.declared.settings.Settings.{Settings}
use Rattle.lattice.specs.Face.{faces}
use Rattle.lattice.specs.Lists.{joined}
use Rattle.lattice.specs.Offset.{across, has_neighbour, neighbour}
use Rattle.lattice.proofs.JoinedLemmas.{All-joined}
use Rattle.terrain.specs.Blocks.{block, cell_corner, keys_of, mesh, over_cells, over_squares, over_transitional, place}
use Rattle.terrain.specs.Cells.{regular_triangles, transition_triangles, triangles_of}
use Rattle.terrain.specs.Curves.{Polygon, fan, fan_of, loops, loops_of}
use Rattle.terrain.specs.History.{sample}
use Rattle.terrain.specs.Levels.{LevelMap, is_transitional, levels}
use Rattle.terrain.specs.Samples.{Field, opening}
use Rattle.bricks.specs.Brick.{HasBrick}
use Rattle.block_mesh.specs.Done.{DoneState, IsDone}
use Rattle.block_mesh.specs.Mesh.{ShowsMesh, index_among, indices_of}
use Rattle.terrain.specs.MeshLists.{MeshLists, no_lists}
use Rattle.patch_wire.proofs.FitLemmas.{few_triangles}
use Rattle.patch_wire.proofs.RereadLemmas.{IsShaped}

-- ---- triangles
-- all lists have three items
abbrev AreThree : {A : Type 0} → List (List A) → Type 0
AreThree {A} ts = All (λ (t : List A). length t ≡ 3) ts

-- those of a loop
fan_of-three : {K : Type 0} (keys : List K) → AreThree (fan_of keys)
fan_of-three [] = All-nil _
fan_of-three {K} (key ∷ keys) =
    All-map (λ (t : List K). length t ≡ 3) (λ (edge : K × K). key ∷ edge.0 ∷ edge.1 ∷ []) _
    (λ k d inside. refl)

-- of all loops
fan-three : {K : Type 0} (ls : List (List K)) → AreThree (fan ls)
fan-three [] = All-nil _
fan-three {K} (l ∷ ls) =
    subst (λ ts. AreThree ts) (sym (flat_map-cons fan_of l ls))
    (All-append (λ (t : List K). length t ≡ 3) (fan_of l) (fan ls) (fan_of-three l) (fan-three ls))

-- of a cell, by the keys of its edges
cell-three : (key : ℕ → Key) (fs : List Polygon) → AreThree (map (map key) (triangles_of fs))
unfolding triangles_of
cell-three key fs =
    All-map (λ (t : List Key). length t ≡ 3) (map key) (triangles_of fs)
    (All-weaker (λ (t : List ℕ). length t ≡ 3) (λ (t : List ℕ). length (map key t) ≡ 3)
    (λ t three. length-map t key ∙ three) (triangles_of fs) (fan-three (loops fs)))

-- of a face that may be counted
chosen-three : (b : Bool) (ts : List (List Key)) → AreThree ts
    → AreThree {A = Key} (elim b [ true ↦ ts | false ↦ [] ])
chosen-three true ts three = three
chosen-three false ts three = All-nil _

-- of all faces of which some are counted
faces-three : (test : Face → Bool) (f : Face → List (List Key))
    → ((face : Face) → AreThree (f face)) → (fs : List Face)
    → AreThree (flat_map (λ face. elim (test face) [ true ↦ f face | false ↦ [] ]) fs)
faces-three test f each [] = All-nil _
faces-three test f each (face ∷ fs) =
    let g : Face → List (List Key) = λ face. elim (test face) [ true ↦ f face | false ↦ [] ] in
    subst (λ ts. AreThree ts) (sym (flat_map-cons g face fs))
    (All-append (λ (t : List Key). length t ≡ 3) (g face) (flat_map g fs)
    (chosen-three (test face) (f face) (each face)) (faces-three test f each fs))

-- of a leaf
block-three : (depth : ℕ) (s : Field) (m : LevelMap) (n : Node) → AreThree (block depth s m n)
unfolding block over_cells over_squares
block-three depth s m n =
    let P : List Key → Type 0 = λ t. length t ≡ 3 in
    All-append P (over_cells n (regular_triangles s n.level))
    (over_transitional depth m n
    (λ face. over_squares n face (transition_triangles s n.level face)))
    (All-joined P CELLS _ (λ z _. All-joined P CELLS _ (λ y _. All-joined P CELLS _ (λ x _.
    cell-three _ _))))
    (faces-three (is_transitional depth m n)
    (λ face. over_squares n face (transition_triangles s n.level face))
    (λ face. All-joined P CELLS _ (λ v _. All-joined P CELLS _ (λ u _. cell-three _ _))) faces)

-- ---- blocks
-- the triangles of a block
done-three : (done : DoneState) → IsDone done → AreThree done.mesh.triangles
done-three done is k d inside =
    let b = done.brick in
    let three : (s : Field) (m : LevelMap) → HasBrick s m b
    → length (get_or done.mesh.triangles k d) ≡ 3 = λ s map_of has.
    let m = mesh b.depth s map_of b.node in
    let shows : done.mesh.triangles ≡ indices_of m.keys m.triangles =
    (is.of.shows s map_of has).triangles in
    let all : AreThree (indices_of m.keys m.triangles) =
    All-map (λ (t : List ℕ). length t ≡ 3) (map (λ key. index_among key m.keys)) m.triangles
    (All-weaker (λ (t : List Key). length t ≡ 3)
    (λ (t : List Key). length (map (λ key. index_among key m.keys) t) ≡ 3)
    (λ t three. length-map t (λ key. index_among key m.keys) ∙ three) m.triangles
    (block-three b.depth s map_of b.node)) in
    (subst (λ ts. AreThree ts) (sym shows) all) k d inside in
    let most : length (get_or done.mesh.triangles k d) ≤ 3 =
    ∥∥₁_elim is.brick.source le_prop (λ given.
    let e = three given.0 given.1 given.2 in omega (arith, e)) in
    let least : 3 ≤ length (get_or done.mesh.triangles k d) =
    ∥∥₁_elim is.brick.source le_prop (λ given.
    let e = three given.0 given.1 given.2 in omega (arith, e)) in
    omega (arith, most, least)

-- so readers take it
pub IsShaped-done : LeavesHaveFewTriangles → (done : DoneState) → IsDone done
    → IsShaped done.mesh
IsShaped-done few done is = record {
  paired = is.mesh.positions;
  few_keys = omega (arith, is.mesh.few);
  few_triangles = omega (arith, few_triangles few done is);
  three = done-three done is;
  places = is.mesh.places;
}

-- ---- before any event
-- nothing joined to nothing
joined-none : {A : Type 0} (n : ℕ) (f : ℕ → List A) → ((k : ℕ) → f k ≡ []) → joined n f ≡ []
unfolding joined
joined-none zero f none = refl
joined-none (suc n) f none = λ i. joined-none n f none i ++ none n i

-- a cell without a solid corner
regular-none : (level : ℕ) (low : Point) → regular_triangles opening level low ≡ []
unfolding triangles_of loops_of
regular-none level low = refl

-- no face is transitional where no node is split
faces-none : (test : Face → Bool) (f : Face → List (List Key)) → ((face : Face) → test face ≡ false)
    → (fs : List Face)
    → flat_map (λ face. elim (test face) [ true ↦ f face | false ↦ [] ]) fs ≡ []
faces-none test f off [] = refl
faces-none test f off (face ∷ fs) =
    let g : Face → List (List Key) = λ face. elim (test face) [ true ↦ f face | false ↦ [] ] in
    let here : g face ≡ [] =
    ap (λ (b : Bool). elim b [ true ↦ f face | false ↦ [] ]) (off face) in
    flat_map-cons g face fs ∙ (λ i. here i ++ faces-none test f off fs i)

-- so a leaf has no triangle
block-none : NoneIsSplit → (settings : Settings) (n : Node)
    → block settings.depth (sample settings []) (levels settings []) n ≡ []
unfolding block over_cells
block-none none settings n =
    let depth = settings.depth in
    let m = levels settings [] in
    let cells : over_cells n (regular_triangles (sample settings []) n.level) ≡ [] =
    joined-none CELLS _ (λ z. joined-none CELLS _ (λ y. joined-none CELLS _ (λ x.
    regular-none n.level (cell_corner n z y x)))) in
    let faces : over_transitional depth m n
    (λ face. over_squares n face (transition_triangles (sample settings []) n.level face)) ≡ [] =
    faces-none (is_transitional depth m n)
    (λ face. over_squares n face (transition_triangles (sample settings []) n.level face))
    (λ face. ap (λ b. has_neighbour depth (across face) n && b)
    (none settings (neighbour (across face) n))
    ∙ and-false (has_neighbour depth (across face) n)) faces in
    λ i. cells i ++ faces i

-- and what shows its mesh is empty
pub opening_lists : NoneIsSplit → (settings : Settings) (n : Node) (lists : MeshLists)
    → ShowsMesh lists (mesh settings.depth (sample settings []) (levels settings []) n)
    → lists ≡ no_lists
opening_lists none settings n lists shows =
    let is = block-none none settings n in
    let put = place settings.depth (sample settings []) (levels settings []) in
    λ i. record {
      keys = (shows.keys ∙ ap keys_of is) i;
      positions = (shows.positions ∙ ap (λ ts. map put (keys_of ts)) is) i;
      triangles = (shows.triangles ∙ ap (λ ts. indices_of (keys_of ts) ts) is) i;
    }
