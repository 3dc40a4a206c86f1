-- The text of a block's lists is the text of the mesh that they show.
-- A block lists its triangles by the places of their keys, and `face_line` is the line of such a triangle; the mesh's
-- own line finds each place by the key, which comes to the same (faces-from_places). So the text of the lists, which is
-- group, vertices and faces (lists_text-parts), is the mesh's text (lists_text-shown). At the end appends: a text after
-- three of them, or after one that may fail.
use Rattle.std.proofs.Common.{◌≡◌, ℕ, ◌+◌, ◌<◌, List, [], ◌∷◌, ◌++◌, length, map, flat_map, codes, decimal, refl, sym, ap, ◌∙◌, inl, inr, arith}
use Rattle.std.specs.declared.alloc.AllocError.{AllocError}
use Rattle.std.specs.Prelude.{OnOk, Result, Ok, Err, cond, is_ok}
use Rattle.std.proofs.lemmas.Bool.{cases_eq}
use Rattle.std.proofs.lemmas.List.{length-map, append_assoc}
use Rattle.lattice.specs.declared.node.Node.{Node}
use Rattle.lattice.specs.declared.key.Key.{Key}
use Rattle.lattice.specs.declared.point.Pos.{Pos}
use Rattle.terrain.specs.Blocks.{Mesh}
use Rattle.block_mesh.specs.Mesh.{ShowsMesh, index_among}
use Rattle.terrain.specs.MeshLists.{MeshLists}
use Rattle.mesh_out.specs.Text.{face_line, group_line, lists_text, mesh_text, triangle_line, vertex_line}

-- lists of what a function gives, one after another
pub flat_map-map : {X Y A : Type 0} (f : Y → List A) (g : X → Y) (xs : List X)
    → flat_map f (map g xs) ≡ flat_map (λ x. f (g x)) xs
flat_map-map f g [] = refl
flat_map-map f g (x ∷ xs) = ap (λ ys. f (g x) ++ ys) (flat_map-map f g xs)

-- two functions that give the same
pub flat_map-same : {X A : Type 0} (f g : X → List A) (same : (x : X) → f x ≡ g x) (xs : List X)
    → flat_map f xs ≡ flat_map g xs
flat_map-same f g same [] = refl
flat_map-same f g same (x ∷ xs) =
    ap (λ ys. ys ++ flat_map f xs) (same x) ∙ ap (λ ys. g x ++ ys) (flat_map-same f g same xs)

-- the lines of faces, from the places of their keys
pub faces-from_places : (base : ℕ) (keys : List Key) (triangles : List (List Key))
    → flat_map (face_line base) (map (map (λ key. index_among key keys)) triangles) ≡ flat_map
    (triangle_line base keys) triangles
faces-from_places base keys triangles =
    flat_map-map (face_line base) (map (λ key. index_among key keys)) triangles
    ∙ flat_map-same (λ t. face_line base (map (λ key. index_among key keys) t))
    (triangle_line base keys)
    (λ t. ap (λ ys. codes "f" ++ ys ++ codes "\n")
    (flat_map-map (λ place. codes " " ++ decimal (base + place + 1))
    (λ key. index_among key keys) t)) triangles

-- a mesh with a triangle has its group, its vertices and its triangles
mesh_text-parts : (base : ℕ) (leaf : Node) (triangles : List (List Key)) (keys : List Key)
    (positions : List Pos) → 0 < length triangles
    → mesh_text base (record
    { leaf = leaf; triangles = triangles; keys = keys; positions = positions }) ≡ group_line leaf
    ++ flat_map vertex_line positions ++ flat_map (triangle_line base keys) triangles
mesh_text-parts base leaf [] keys positions some = absurd (omega arith)
mesh_text-parts base leaf (t ∷ ts) keys positions some = refl

-- and so have lists
pub lists_text-parts : (base : ℕ) (leaf : Node) (lists : MeshLists) → 0 < length lists.triangles
    → group_line leaf ++ flat_map vertex_line lists.positions
    ++ flat_map (face_line base) lists.triangles ≡ lists_text base leaf lists
lists_text-parts base leaf lists some = parts lists.triangles lists.keys lists.positions some
  where
    parts : (triangles : List (List ℕ)) (keys : List Key) (positions : List Pos)
        → 0 < length triangles
        → group_line leaf ++ flat_map vertex_line positions ++ flat_map (face_line base) triangles
        ≡ lists_text base leaf (record
        { triangles = triangles; keys = keys; positions = positions })
    parts [] keys positions some = absurd (omega arith)
    parts (t ∷ ts) keys positions some = refl

-- lists without triangles have none
pub lists_text-none : (base : ℕ) (leaf : Node) (lists : MeshLists) → length lists.triangles ≡ 0
    → lists_text base leaf lists ≡ []
lists_text-none base leaf lists none = parts lists.triangles lists.keys lists.positions none
  where
    parts : (triangles : List (List ℕ)) (keys : List Key) (positions : List Pos)
        → length triangles ≡ 0 → lists_text base leaf (record
        { triangles = triangles; keys = keys; positions = positions }) ≡ []
    parts [] keys positions none = refl
    parts (t ∷ ts) keys positions none = absurd (omega arith)

-- the text of a mesh without triangles
mesh_text-none : (base : ℕ) (leaf : Node) (triangles : List (List Key)) (keys : List Key)
    (positions : List Pos) → length triangles ≡ 0
    → mesh_text base (record
    { leaf = leaf; triangles = triangles; keys = keys; positions = positions }) ≡ []
mesh_text-none base leaf [] keys positions none = refl
mesh_text-none base leaf (t ∷ ts) keys positions none = absurd (omega arith)

-- the text of the mesh that lists show
pub lists_text-shown : (base : ℕ) (leaf : Node) (lists : MeshLists) (m : Mesh)
    → m.leaf ≡ leaf → ShowsMesh lists m → lists_text base leaf lists ≡ mesh_text base m
lists_text-shown base leaf lists m at shows =
    let same : length lists.triangles ≡ length m.triangles =
    ap length shows.triangles ∙ length-map m.triangles (map (λ key. index_among key m.keys)) in
    elim (cases_eq (length lists.triangles) 0) [
      | inl none ↦
          lists_text-none base leaf lists none
          ∙ sym (mesh_text-none base m.leaf m.triangles m.keys m.positions (sym same ∙ none))
      | inr some ↦
          (let more : 0 < length lists.triangles = omega (arith, some) in
          let faces : flat_map (face_line base) lists.triangles
          ≡ flat_map (triangle_line base m.keys) m.triangles =
          ap (flat_map (face_line base)) shows.triangles
          ∙ faces-from_places base m.keys m.triangles in
          let parts = mesh_text-parts base m.leaf m.triangles m.keys m.positions
          (omega (arith, more, same)) in
          sym (lists_text-parts base leaf lists more)
          ∙ ap (λ n. group_line n ++ flat_map vertex_line lists.positions
          ++ flat_map (face_line base) lists.triangles) (sym at)
          ∙ ap (λ ps. group_line m.leaf ++ flat_map vertex_line ps
          ++ flat_map (face_line base) lists.triangles) shows.positions
          ∙ ap (λ fs. group_line m.leaf ++ flat_map vertex_line m.positions ++ fs) faces
          ∙ sym parts)
    ]

-- a text that three parts were appended to
pub appended-three : (start before group vertices faces a b c text : List ℕ) → before ≡ start
    → group ≡ before ++ a → vertices ≡ group ++ b → faces ≡ vertices ++ c → a ++ b ++ c ≡ text
    → faces ≡ start ++ text
appended-three start before group vertices faces a b c text p q r s t =
    let left : start ++ a ++ b ++ c ≡ start ++ a ++ (b ++ c) = append_assoc (start ++ a) b c in
    let right : start ++ a ++ (b ++ c) ≡ start ++ (a ++ (b ++ c)) = append_assoc start a (b ++ c) in
    let inner : a ++ b ++ c ≡ a ++ (b ++ c) = append_assoc a b c in
    cc

-- a text with one piece more
pub appended-more : (start before after text piece : List ℕ) → before ≡ start ++ text
    → after ≡ before ++ piece → after ≡ start ++ (text ++ piece)
appended-more start before after text piece so_far more =
    more ∙ ap (λ t. t ++ piece) so_far ∙ append_assoc start text piece

-- the last piece, where there was room for it
pub on_ok_extended : (r : Result (Unit {0}) AllocError) (new old piece : List ℕ)
    → new ≡ cond (is_ok r) (old ++ piece) old → OnOk r (new ≡ old ++ piece)
on_ok_extended (Ok done) new old piece h = h
on_ok_extended (Err fault) new old piece h = tt
