-- The text that is pushed for a block with normals is the text of the mesh that the block shows.
-- A block lists its triangles by the places of their keys; the mesh's own line finds each place by the key, which comes
-- to the same (faces-from_places). So group, vertices, normals and faces together are the mesh's text (mesh-shown).
use Rattle.std.proofs.Common.{◌≡◌, ℕ, ◌<◌, List, [], ◌∷◌, ◌++◌, length, map, flat_map, codes, refl, sym, ap, ◌∙◌, arith, append_assoc}
use Rattle.std.proofs.lemmas.List.{length-map}
use Rattle.lattice.specs.declared.node.Node.{Node}
use Rattle.lattice.specs.declared.key.Key.{Key}
use Rattle.lattice.specs.declared.point.Pos.{Pos}
use Rattle.terrain.specs.Blocks.{Mesh}
use Rattle.block_mesh.specs.Mesh.{ShowsMesh, index_among}
use Rattle.terrain.specs.MeshLists.{MeshLists}
use Rattle.mesh_out.proofs.TextLemmas.{flat_map-map, flat_map-same}
use Rattle.mesh_out.specs.Text.{group_line, vertex_line}
use Rattle.surface_normals.specs.declared.vector.Normal.{Normal}
use Rattle.surface_query.specs.NormalText.{corner_text, corners_line, mesh_with_normals, normal_line}
use Rattle.surface_query.specs.declared.bases.Bases.{Bases}

-- the line of a face, from the places of its keys
abbrev pub places_line : Bases → List ℕ → List ℕ
places_line bases places = codes "f" ++ flat_map (corner_text bases) places ++ codes "\n"

-- the lines of faces, from the places of their keys
faces-from_places : (bases : Bases) (keys : List Key) (triangles : List (List Key))
    → flat_map (places_line bases) (map (map (λ key. index_among key keys)) triangles)
    ≡ flat_map (corners_line bases keys) triangles
faces-from_places bases keys triangles =
    flat_map-map (places_line bases) (map (λ key. index_among key keys)) triangles
    ∙ flat_map-same (λ t. places_line bases (map (λ key. index_among key keys) t))
    (corners_line bases keys)
    (λ t. ap (λ ys. codes "f" ++ ys ++ codes "\n")
    (flat_map-map (corner_text bases) (λ key. index_among key keys) t)) triangles

-- the lines of normals
abbrev pub normal_lines : (Key → Normal) → List Key → List ℕ
normal_lines normal keys = flat_map (λ key. normal_line (normal key)) keys

-- a mesh with a triangle has its group, its vertices, their normals and its triangles
parts : (normal : Key → Normal) (bases : Bases) (leaf : Node) (triangles : List (List Key))
    (keys : List Key) (positions : List Pos) → 0 < length triangles
    → mesh_with_normals normal bases (record
    { leaf = leaf; triangles = triangles; keys = keys; positions = positions }) ≡ group_line leaf
    ++ flat_map vertex_line positions ++ normal_lines normal keys
    ++ flat_map (corners_line bases keys) triangles
parts normal bases leaf [] keys positions some = absurd (omega arith)
parts normal bases leaf (t ∷ ts) keys positions some = refl

-- the text of the mesh that lists with triangles show
pub mesh-shown : (normal : Key → Normal) (bases : Bases) (leaf : Node) (lists : MeshLists)
    (m : Mesh) → 0 < length lists.triangles → m.leaf ≡ leaf → ShowsMesh lists m
    → group_line leaf ++ flat_map vertex_line lists.positions ++ normal_lines normal lists.keys
    ++ flat_map (places_line bases) lists.triangles ≡ mesh_with_normals normal bases m
mesh-shown normal bases leaf lists m some at shows =
    let same : length lists.triangles ≡ length m.triangles =
    ap length shows.triangles ∙ length-map m.triangles (map (λ key. index_among key m.keys)) in
    let faces : flat_map (places_line bases) lists.triangles
    ≡ flat_map (corners_line bases m.keys) m.triangles =
    ap (flat_map (places_line bases)) shows.triangles
    ∙ faces-from_places bases m.keys m.triangles in
    let at' = sym at in
    (λ i. group_line (at' i) ++ flat_map vertex_line (shows.positions i)
    ++ normal_lines normal (shows.keys i) ++ faces i)
    ∙ sym (parts normal bases m.leaf m.triangles m.keys m.positions (omega (arith, some, same)))

-- a text that four parts were appended to
pub appended-four : (start before group vertices normals faces a b c d text : List ℕ)
    → before ≡ start → group ≡ before ++ a → vertices ≡ group ++ b → normals ≡ vertices ++ c
    → faces ≡ normals ++ d → a ++ b ++ c ++ d ≡ text → faces ≡ start ++ text
appended-four start before group vertices normals faces a b c d text p q r s t u =
    t ∙ ap (λ x. x ++ d) (s ∙ ap (λ x. x ++ c) (r ∙ ap (λ x. x ++ b) (q ∙ ap (λ x. x ++ a) p)))
    ∙ append_assoc (start ++ a ++ b) c d ∙ append_assoc (start ++ a) b (c ++ d)
    ∙ append_assoc start a (b ++ (c ++ d))
    ∙ ap (λ x. start ++ x) (ap (λ x. a ++ x) (sym (append_assoc b c d))
    ∙ sym (append_assoc a (b ++ c) d) ∙ ap (λ x. x ++ d) (sym (append_assoc a b c)) ∙ u)
