-- The text of a frame is written leaf by leaf, and its vertices are counted with it.
-- The text of meshes with one more is theirs and that of the one, whose first vertex has the number behind all before
-- (meshes_text-more). For the loop over leaves: what is written and counted after one leaf more (text-more,
-- count-more), and that this is a front of the whole text, for a write that stops there (text-rest). At the end
-- numbers: so many leaves with so many vertices each fit the counts.
use Rattle.std.proofs.Common.{◌≡◌, ℕ, ◌+◌, ◌*◌, ◌^◌, ◌<◌, ◌≤◌, List, [], ◌∷◌, ◌++◌, length, take, drop, get_or, map, refl, sym, ap, ◌∙◌, arith, append_assoc}
use Rattle.std.proofs.lemmas.List.{append-nil, map-append, take-append-drop}
use Rattle.lattice.specs.declared.node.Node.{Node}
use Rattle.terrain.specs.Blocks.{Mesh}
use Rattle.audits.specs.declared.leaves.TheConstants.{MAX_LEAVES}
use Rattle.audits.proofs.LeafLemmas.{map-more}
use Rattle.mesh_out.specs.declared.obj.TheConstants.{MAX_MESH_BASE}
use Rattle.mesh_out.specs.declared.shot.TheConstants.{MAX_BASE}
use Rattle.snapshots.specs.Stats.{vertex_count}
use Rattle.mesh_out.specs.Text.{mesh_text, meshes_text}

-- how many vertices there are with one mesh more
pub vertex_count-more : (meshes : List Mesh) (m : Mesh)
    → vertex_count (meshes ++ m ∷ []) ≡ vertex_count meshes + length m.keys
vertex_count-more [] m = omega arith
vertex_count-more (first ∷ meshes) m = omega (arith, vertex_count-more meshes m)

-- the text with one mesh more
pub meshes_text-more : (base : ℕ) (meshes : List Mesh) (m : Mesh)
    → meshes_text base (meshes ++ m ∷ [])
    ≡ meshes_text base meshes ++ mesh_text (base + vertex_count meshes) m
meshes_text-more base [] m =
    let none : base ≡ base + 0 = omega arith in
    append-nil (mesh_text base m) ∙ ap (λ n. mesh_text n m) none
meshes_text-more base (first ∷ meshes) m =
    let next = base + length first.keys in
    let same : next + vertex_count meshes ≡ base + (length first.keys + vertex_count meshes) =
    omega arith in
    ap (λ t. mesh_text base first ++ t) (meshes_text-more next meshes m)
    ∙ ap (λ n. mesh_text base first ++ (meshes_text next meshes ++ mesh_text n m)) same
    ∙ sym (append_assoc (mesh_text base first) (meshes_text next meshes)
    (mesh_text (base + (length first.keys + vertex_count meshes)) m))

-- the text of meshes behind others
pub meshes_text-append : (base : ℕ) (meshes more : List Mesh)
    → meshes_text base (meshes ++ more)
    ≡ meshes_text base meshes ++ meshes_text (base + vertex_count meshes) more
meshes_text-append base [] more =
    let none : base ≡ base + 0 = omega arith in ap (λ n. meshes_text n more) none
meshes_text-append base (first ∷ meshes) more =
    let next = base + length first.keys in
    let same : next + vertex_count meshes ≡ base + (length first.keys + vertex_count meshes) =
    omega arith in
    ap (λ t. mesh_text base first ++ t) (meshes_text-append next meshes more)
    ∙ ap (λ n. mesh_text base first ++ (meshes_text next meshes ++ meshes_text n more)) same
    ∙ sym (append_assoc (mesh_text base first) (meshes_text next meshes)
    (meshes_text (base + (length first.keys + vertex_count meshes)) more))

-- the text and the count with the mesh of one leaf more
module _ (base : ℕ) (f : Node → Mesh) (xs : List Node) (i : ℕ) (d : Node) (inside : i < length xs)
  where
    pub text-more : (start old new : List ℕ) (v : ℕ)
        → old ≡ start ++ meshes_text base (map f (take i xs))
        → v ≡ base + vertex_count (map f (take i xs))
        → new ≡ old ++ mesh_text v (f (get_or xs i d))
        → new ≡ start ++ meshes_text base (map f (take (i + 1) xs))
    text-more start old new v text count added =
        let before = map f (take i xs) in
        let m = f (get_or xs i d) in
        added ∙ ap (λ t. t ++ mesh_text v m) text
        ∙ ap (λ n. start ++ meshes_text base before ++ mesh_text n m) count
        ∙ append_assoc start (meshes_text base before) (mesh_text (base + vertex_count before) m)
        ∙ ap (λ t. start ++ t)
        (sym (meshes_text-more base before m)
        ∙ ap (meshes_text base) (sym (map-more f xs i d inside)))

    -- the text of all, by that of the first ones with the mesh of one leaf more
    pub text-rest : (start : List ℕ) (v : ℕ) → v ≡ base + vertex_count (map f (take i xs))
        → start ++ meshes_text base (map f xs)
        ≡ ((start ++ meshes_text base (map f (take i xs))) ++ mesh_text v (f (get_or xs i d)))
        ++ meshes_text (base + vertex_count (map f (take (i + 1) xs))) (map f (drop (i + 1) xs))
    text-rest start v count =
        let before = take (i + 1) xs in
        let after = drop (i + 1) xs in
        let more = meshes_text (base + vertex_count (map f before)) (map f after) in
        ap (λ t. start ++ meshes_text base t)
        (ap (map f) (sym (take-append-drop (i + 1) xs)) ∙ map-append f before after)
        ∙ ap (λ t. start ++ t) (meshes_text-append base (map f before) (map f after))
        ∙ sym (append_assoc start (meshes_text base (map f before)) more)
        ∙ ap (λ t. t ++ more) (sym (text-more start _ _ v refl count refl))

    pub count-more : (v n : ℕ) → v ≡ base + vertex_count (map f (take i xs))
        → n ≡ length (f (get_or xs i d)).keys
        → v + n ≡ base + vertex_count (map f (take (i + 1) xs))
    count-more v n count added =
        let more = ap vertex_count (map-more f xs i d inside) in
        omega (arith, count, added, more, vertex_count-more (map f (take i xs)) (f (get_or xs i d)))

-- the vertices so far are few
pub few_vertices : (base vertices most count index added : ℕ) → base ≤ MAX_BASE → most ≤ 2 ^ 20
    → count ≤ MAX_LEAVES → index < count → vertices ≤ base + most * index → added ≤ most
    → vertices + added ≤ MAX_MESH_BASE
few_vertices base vertices most count index added below small few inside so_far last = grind arith

-- and are so with one leaf more
pub one_more : (base so_far most index added : ℕ) → so_far ≤ base + most * index → added ≤ most
    → so_far + added ≤ base + most * (index + 1)
one_more base so_far most index added below last = grind arith

-- and with all leaves
pub all_few : (base so_far most index count : ℕ) → so_far ≤ base + most * index → index ≤ count
    → count ≤ MAX_LEAVES → so_far ≤ base + MAX_LEAVES * most
all_few base so_far most index count below inside few = grind arith
