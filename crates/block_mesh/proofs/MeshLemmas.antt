-- The mesh of a brick, from what was added to a builder: what the clauses of `mesh_lists` and `mesh_on` rest on.
--
-- The triangles that the mesher adds, those of the cells and then those of the faces whose bits are set, are the leaf's
-- (`block-is`). So a builder that holds them shows the definition's mesh (`Shows-from`), and its lists keep what every
-- mesh keeps (`IsMesh-from`, by `FirstUse`). A brick whose samples have one sign has no triangles at all
-- (`IsMeshOf-none`), since neither its cells nor the transition cells of its faces have some (`OneSignLemmas`). That
-- lists are a mesh is a mere fact (`IsMesh-prop`), so it may be shown from a field that isn't known.
use Rattle.std.proofs.Common.{◌≡◌, ℕ, zero, suc, ◌+◌, ◌<◌, ◌≤◌, ◌&&◌, Bool, true, false, ℤ, pos, negsuc, not, replicate, List, [], ◌∷◌, ◌++◌, length, map, refl, sym, ap, ◌∙◌, inl, inr, subst, arith}
use Rattle.std.specs.Prelude.{All, flat_map, max}
use Rattle.std.specs.List.{IsDistinct, list_all}
use Rattle.std.proofs.Math.Bridge.{le_prop}
use Rattle.std.proofs.Math.Nat.{ℕ_set}
use Rattle.std.proofs.lemmas.Bool.{and_parts, or_cases, or_left, or_right}
use Rattle.std.proofs.lemmas.List.{length-map}
use Rattle.std.proofs.lemmas.List.Folds.{list_all-append}
use Rattle.std.proofs.lemmas.Map.Keys.{IsDistinct-prop}
use Rattle.lattice.specs.declared.key.Key.{Key}
use Rattle.lattice.specs.declared.node.Node.{Node}
use Rattle.lattice.specs.declared.point.Face.{Face}
use Rattle.lattice.specs.declared.point.Pos.{Pos}
use Rattle.lattice.specs.Face.{faces}
use Rattle.lattice.specs.Key.{is_same_key}
use Rattle.terrain.specs.Blocks.{Brick, block, face_samples, keys_of, mesh, over_cells, over_squares, place}
use Rattle.terrain.specs.Cells.{is_set, regular_triangles, transition_triangles}
use Rattle.terrain.specs.Levels.{LevelMap}
use Rattle.terrain.specs.Samples.{Field, is_solid}
use Rattle.bricks.specs.Brick.{HasBrick, IsBrick, face_bit, over_rim}
use Rattle.block_mesh.specs.Builder.{HoldsTriangles, keys_in, lists_in}
use Rattle.block_mesh.specs.MeshEdges.{mesh_key}
use Rattle.block_mesh.specs.Mesh.{AreInOrder, IsMesh, IsMeshOf, ShowsMesh, indices_of}
use Rattle.terrain.specs.MeshLists.{MeshLists, no_lists}
use Rattle.bricks.specs.Samples.{IsAllOne, face_list, leaf_list}
use Rattle.block_mesh.specs.Signs.{have_one_sign}
use Rattle.block_mesh.specs.declared.builder.Builder.{Builder}
use Rattle.block_mesh.specs.declared.mesher.TheConstants.{MAX_KEYS}
use Rattle.bricks.specs.declared.samples.Samples.TheVariants.{Even}
use Rattle.bricks.proofs.BrickLemmas.{brick-rim, rim_part, rim_part-clear, rim_part-set}
use Rattle.bricks.proofs.FaceCutLemmas.{level-some}
use Rattle.block_mesh.proofs.FirstUse.{All-indices_of, AreInOrder-indices_of, IsDistinct-keys_of}
use Rattle.bricks.proofs.RimLemmas.{over_rim-is}
use Rattle.bricks.proofs.SampleLemmas.{has-samples}
use Rattle.block_mesh.proofs.OneSignLemmas.{one_sign, one_sign_face}

-- the triangles of the transition cells on a leaf's face
abbrev pub squares : Node → Field → Face → List (List Key)
squares n s face = over_squares n face (transition_triangles s n.level face)

-- faces whose finer samples pass a test have no triangles of transition cells, where samples that pass it have one sign
module _ (s : Field) (n : Node) (rim : ℕ) (none : n.level ≡ 0 → rim ≡ 0) (test : ℤ → Bool)
    (good : (xs : List ℤ) → list_all test xs ≡ true → have_one_sign xs ≡ true) where
  -- a face, by whether its bit is set
  no_squares-on : (face : Face) (b : Bool) → is_set rim (face_bit face) ≡ b
      → list_all test (rim_part rim (face_samples s n) face) ≡ true
      → rim_part rim (squares n s) face ≡ []
  no_squares-on face true on all =
      sym (rim_part-set rim (squares n s) face on)
      ∙ one_sign_face s n face (face_samples s n face)
      (level-some n.level rim (face_bit face) none on) refl (good (face_samples s n face)
      (ap (list_all test) (rim_part-set rim (face_samples s n) face on) ∙ all))
  no_squares-on face false off all = sym (rim_part-clear rim (squares n s) face off)

  -- all faces
  no_squares : (some : List Face)
      → list_all test (flat_map (rim_part rim (face_samples s n)) some) ≡ true
      → flat_map (rim_part rim (squares n s)) some ≡ []
  no_squares [] all = refl
  no_squares (face ∷ some) all =
      let first : List ℤ = rim_part rim (face_samples s n) face in
      let rest : List ℤ = flat_map (rim_part rim (face_samples s n)) some in
      let parts = and_parts (list_all test first) (list_all test rest)
      (sym (list_all-append test first rest) ∙ all) in
      λ i. no_squares-on face (is_set rim (face_bit face)) refl parts.0 i
      ++ no_squares some parts.1 i

-- a leaf whose finer samples have one sign has no triangles of transition cells
pub one_sign_faces : (s : Field) (n : Node) (rim : ℕ) (samples : List ℤ)
    → (n.level ≡ 0 → rim ≡ 0) → samples ≡ over_rim rim (face_samples s n)
    → have_one_sign samples ≡ true → over_rim rim (squares n s) ≡ []
one_sign_faces s n rim samples none are one =
    let all : List ℤ = over_rim rim (face_samples s n) in
    let empty : ℤ → Bool = λ sample. not (is_solid sample) in
    let one_here : have_one_sign all ≡ true = sym (ap have_one_sign are) ∙ one in
    elim (or_cases (list_all empty all) (list_all is_solid all) one_here) [
      | inl none_is ↦
          no_squares s n rim none empty (λ xs. or_left (list_all empty xs) (list_all is_solid xs))
          faces none_is
      | inr all_are ↦
          no_squares s n rim none is_solid
          (λ xs. or_right (list_all empty xs) (list_all is_solid xs)) faces all_are
    ]

-- the triangles of a leaf, by its rim
pub block-is : (b : Brick) (s : Field) (m : LevelMap) → HasBrick s m b
    → over_cells b.node (regular_triangles s b.node.level) ++ over_rim b.rim (squares b.node s)
    ≡ block b.depth s m b.node
unfolding block
block-is b s m has =
    let cells : List (List Key) = over_cells b.node (regular_triangles s b.node.level) in
    ap (λ ts. cells ++ ts)
    (ap (λ r. over_rim r (squares b.node s)) (brick-rim b b.depth s m has.same)
    ∙ over_rim-is b.depth m b.node (squares b.node s))

-- what a builder has is the mesh, where its triangles are the leaf's
pub Shows-from : (b : Brick) (s : Field) (m : LevelMap) (added : List (List Key)) (built : Builder)
    (positions : List Pos) → HoldsTriangles b added built → added ≡ block b.depth s m b.node
    → positions ≡ map (place b.depth s m) (keys_in b built)
    → ShowsMesh (lists_in b built positions) (mesh b.depth s m b.node)
Shows-from b s m added built positions held is placed =
    let keys_are : keys_in b built ≡ keys_of (block b.depth s m b.node) =
    held.keys ∙ ap keys_of is in
    record {
      keys = keys_are;
      positions = placed ∙ ap (map (place b.depth s m)) keys_are;
      triangles = held.triangles ∙ ap (λ ts. indices_of (keys_of ts) ts) is;
    }

-- a leaf without triangles has an empty mesh
pub Shows-none : (b : Brick) (s : Field) (m : LevelMap) (lists : MeshLists)
    → [] ≡ block b.depth s m b.node → lists.keys ≡ [] → lists.positions ≡ []
    → lists.triangles ≡ [] → ShowsMesh lists (mesh b.depth s m b.node)
Shows-none b s m lists is keys positions triangles = record {
  keys = keys ∙ ap keys_of is;
  positions = positions ∙ ap (λ ts. map (place b.depth s m) (keys_of ts)) is;
  triangles = triangles ∙ ap (λ ts. indices_of (keys_of ts) ts) is;
}

-- the samples of a brick have one sign, and so have those of its faces
pub record HasOneSign (b : Brick) : Type 0 where
  pub leaf : have_one_sign b.samples ≡ true
  pub faces : have_one_sign b.faces ≡ true

-- samples that are all one pass a test where it does
module _ (test : ℤ → Bool) (v : ℤ) (good : test v ≡ true) where
  -- the same sample, so many times
  all-pass : (n : ℕ) → list_all test (replicate n v) ≡ true
  all-pass zero = refl
  all-pass (suc n) = λ i. good i && all-pass n i

  -- and for the faces that a rim picks
  parts-pass : (rim : ℕ) (some : List Face)
      → list_all test (flat_map (rim_part rim (λ _. replicate 1089 v)) some) ≡ true
  parts-pass rim [] = refl
  parts-pass rim (face ∷ some) =
      let part : List ℤ = rim_part rim (λ _. replicate 1089 v) face in
      let rest : List ℤ = flat_map (rim_part rim (λ _. replicate 1089 v)) some in
      list_all-append test part rest
      ∙ (λ i. go (is_set rim (face_bit face)) i && parts-pass rim some i)
    where
      go : (b : Bool) → list_all test
          (elim b as (λ x. List ℤ) [ true ↦ replicate 1089 v | false ↦ [] ]) ≡ true
      go true = all-pass 1089
      go false = refl

-- a brick whose samples are all one has one sign
pub one-sample : (b : Brick) (v : ℤ) → IsAllOne b v → HasOneSign b
one-sample b (pos m) one =
    let empty : ℤ → Bool = λ sample. not (is_solid sample) in
    let leaf : List ℤ = leaf_list (Even (pos m)) in
    let fines : List ℤ = face_list b.rim (Even (pos m)) in
    record {
      leaf = ap have_one_sign one.leaf
          ∙ or_left (list_all empty leaf) (list_all is_solid leaf)
          (all-pass empty (pos m) refl 4913);
      faces = ap have_one_sign one.faces
          ∙ or_left (list_all empty fines) (list_all is_solid fines)
          (parts-pass empty (pos m) refl b.rim faces);
    }
one-sample b (negsuc m) one =
    let empty : ℤ → Bool = λ sample. not (is_solid sample) in
    let leaf : List ℤ = leaf_list (Even (negsuc m)) in
    let fines : List ℤ = face_list b.rim (Even (negsuc m)) in
    record {
      leaf = ap have_one_sign one.leaf
          ∙ or_right (list_all empty leaf) (list_all is_solid leaf)
          (all-pass is_solid (negsuc m) refl 4913);
      faces = ap have_one_sign one.faces
          ∙ or_right (list_all empty fines) (list_all is_solid fines)
          (parts-pass is_solid (negsuc m) refl b.rim faces);
    }

-- a brick with one sign has a mesh without triangles
pub IsMeshOf-none : (b : Brick) → IsBrick b → HasOneSign b → IsMeshOf b no_lists
IsMeshOf-none b is signs = record {
  shows = λ s m has.
      let n = b.node in
      let samples = has-samples s m b has in
      let cells : over_cells n (regular_triangles s n.level) ≡ [] =
      one_sign s n b.samples samples.leaf signs.leaf in
      let faces : over_rim b.rim (squares n s) ≡ [] =
      one_sign_faces s n b.rim b.faces is.rim.level samples.faces signs.faces in
      Shows-none b s m no_lists ((λ i. sym cells i ++ sym faces i) ∙ block-is b s m has)
      refl refl refl;
}

-- ---- what every mesh keeps

-- the lists of triangles, with a position for each of their keys
IsMesh-lists : (added : List (List Key)) (lists : MeshLists) → lists.keys ≡ keys_of added
    → length lists.keys ≤ MAX_KEYS → length lists.positions ≡ length lists.keys
    → lists.triangles ≡ indices_of (keys_of added) added → IsMesh lists
IsMesh-lists added lists keys few positions triangles =
    let count : length (keys_of added) ≡ length lists.keys = ap length (sym keys) in
    record {
      once = subst (IsDistinct is_same_key) (sym keys) (IsDistinct-keys_of added);
      few = few;
      positions = positions;
      places = subst (λ n. All (All (λ place. place < n)) lists.triangles) count
          (subst (All (All (λ place. place < length (keys_of added)))) (sym triangles)
          (All-indices_of added));
      order = subst (λ n. AreInOrder n 0 (flat_map (λ triangle. triangle) lists.triangles)) count
          (subst (λ ts. AreInOrder (length (keys_of added)) 0 (flat_map (λ triangle. triangle) ts))
          (sym triangles) (AreInOrder-indices_of added));
    }

-- what a builder has keeps it
pub IsMesh-from : (b : Brick) (added : List (List Key)) (built : Builder) (positions : List Pos)
    → HoldsTriangles b added built → length built.edges ≤ MAX_KEYS
    → length positions ≡ length built.edges → IsMesh (lists_in b built positions)
IsMesh-from b added built positions held few long =
    let count : length (keys_in b built) ≡ length built.edges =
    length-map built.edges (mesh_key b) in
    IsMesh-lists added (lists_in b built positions) held.keys (omega (arith, count, few))
    (long ∙ sym count) held.triangles

-- empty lists keep it
pub IsMesh-none : (lists : MeshLists) → lists.keys ≡ [] → lists.positions ≡ []
    → lists.triangles ≡ [] → IsMesh lists
IsMesh-none lists keys positions triangles =
    let none : length lists.keys ≡ 0 = ap length keys in
    IsMesh-lists [] lists keys (omega arith) (ap length positions ∙ ap length (sym keys)) triangles

-- that indices come in order is a mere fact
AreInOrder-prop : (count known : ℕ) (places : List ℕ) → IsProp (AreInOrder count known places)
AreInOrder-prop count known [] = ℕ_set known count
AreInOrder-prop count known (place ∷ places) =
    λ p q i. (le_prop p.0 q.0 i, AreInOrder-prop count (max known (place + 1)) places p.1 q.1 i)

-- it holds in one way at most
pub IsMesh-prop : (lists : MeshLists) → IsProp (IsMesh lists)
IsMesh-prop lists = λ p q i. record {
  once = IsDistinct-prop is_same_key lists.keys p.once q.once i;
  few = le_prop p.few q.few i;
  positions = ℕ_set (length lists.positions) (length lists.keys) p.positions q.positions i;
  places = λ k t k_in j d j_in. le_prop (p.places k t k_in j d j_in) (q.places k t k_in j d j_in) i;
  order = AreInOrder-prop (length lists.keys) 0
      (flat_map (λ triangle. triangle) lists.triangles) p.order q.order i;
}
