-- The text of meshes with normals is written leaf by leaf, and their vertices are counted with it.
-- The text of meshes behind others begins behind the vertices of these (meshes-append). For the loop over leaves: what
-- is written after one leaf more (text-more), and that this is a front of the whole text, for a write that stops there
-- (text-rest).
use Rattle.std.proofs.Common.{◌≡◌, ℕ, ◌+◌, ◌<◌, List, [], ◌∷◌, ◌++◌, length, take, drop, get_or, map, sym, ap, ◌∙◌, arith, append_assoc}
use Rattle.std.proofs.lemmas.List.{append-nil, map-append, take-append-drop}
use Rattle.audits.proofs.LeafLemmas.{map-more}
use Rattle.lattice.specs.declared.key.Key.{Key}
use Rattle.lattice.specs.declared.node.Node.{Node}
use Rattle.snapshots.specs.Stats.{vertex_count}
use Rattle.terrain.specs.Blocks.{Brick, Mesh, brick}
use Rattle.terrain.specs.Levels.{LevelMap}
use Rattle.terrain.specs.Samples.{Field}
use Rattle.surface_normals.specs.declared.vector.Normal.{Normal}
use Rattle.surface_query.specs.NormalText.{mesh_with_normals, meshes_with_normals, raised}
use Rattle.surface_query.specs.declared.bases.Bases.{Bases}

-- the brick of a leaf is the leaf's
pub brick-node : (depth : ℕ) (s : Field) (m : LevelMap) (n : Node) (b : Brick)
    → b ≡ brick depth s m n → n ≡ b.node
unfolding brick
brick-node depth s m n b is = ap (λ (own : Brick). own.node) (sym is)

-- no vertex more
raised-none : (bases : Bases) → bases ≡ raised bases 0
raised-none bases =
    let vertices : bases.vertices ≡ bases.vertices + 0 = omega arith in
    let normals : bases.normals ≡ bases.normals + 0 = omega arith in
    λ i. record { vertices = vertices i; normals = normals i }

-- some more, and some more behind them
raised-raised : (bases : Bases) (m n : ℕ) → raised (raised bases m) n ≡ raised bases (m + n)
raised-raised bases m n =
    let vertices : bases.vertices + m + n ≡ bases.vertices + (m + n) = omega arith in
    let normals : bases.normals + m + n ≡ bases.normals + (m + n) = omega arith in
    λ i. record { vertices = vertices i; normals = normals i }

module _ (normal : Key → Normal) where
  -- the text of meshes behind others
  pub meshes-append : (bases : Bases) (meshes more : List Mesh)
      → meshes_with_normals normal bases (meshes ++ more)
      ≡ meshes_with_normals normal bases meshes
      ++ meshes_with_normals normal (raised bases (vertex_count meshes)) more
  meshes-append bases [] more = ap (λ b. meshes_with_normals normal b more) (raised-none bases)
  meshes-append bases (first ∷ meshes) more =
      let next = raised bases (length first.keys) in
      let front = mesh_with_normals normal bases first in
      ap (λ t. front ++ t) (meshes-append next meshes more)
      ∙ ap (λ b. front
      ++ (meshes_with_normals normal next meshes ++ meshes_with_normals normal b more))
      (raised-raised bases (length first.keys) (vertex_count meshes))
      ∙ sym (append_assoc front (meshes_with_normals normal next meshes)
      (meshes_with_normals normal
      (raised bases (length first.keys + vertex_count meshes)) more))

  -- the text with the mesh of one leaf more
  module _ (bases : Bases) (f : Node → Mesh) (xs : List Node) (i : ℕ) (d : Node)
      (inside : i < length xs)
    where
      pub text-more : (start : List ℕ) (v : ℕ) → v ≡ vertex_count (map f (take i xs))
          → (start ++ meshes_with_normals normal bases (map f (take i xs)))
          ++ mesh_with_normals normal (raised bases v) (f (get_or xs i d))
          ≡ start ++ meshes_with_normals normal bases (map f (take (i + 1) xs))
      text-more start v count =
          let m = f (get_or xs i d) in
          let before = map f (take i xs) in
          let old = meshes_with_normals normal bases before in
          let one : meshes_with_normals normal (raised bases (vertex_count before)) (m ∷ [])
          ≡ mesh_with_normals normal (raised bases (vertex_count before)) m =
          append-nil (mesh_with_normals normal (raised bases (vertex_count before)) m) in
          append_assoc start old (mesh_with_normals normal (raised bases v) m)
          ∙ ap (λ t. start ++ t)
          (ap (λ n. old ++ mesh_with_normals normal (raised bases n) m) count
          ∙ ap (λ t. old ++ t) (sym one)
          ∙ sym (meshes-append bases before (m ∷ []))
          ∙ ap (meshes_with_normals normal bases) (sym (map-more f xs i d inside)))

      -- the text of all, by that of the first ones with the mesh of one leaf more
      pub text-rest : (start : List ℕ) (v : ℕ) → v ≡ vertex_count (map f (take i xs))
          → start ++ meshes_with_normals normal bases (map f xs)
          ≡ ((start ++ meshes_with_normals normal bases (map f (take i xs)))
          ++ mesh_with_normals normal (raised bases v) (f (get_or xs i d)))
          ++ meshes_with_normals normal (raised bases (vertex_count (map f (take (i + 1) xs))))
          (map f (drop (i + 1) xs))
      text-rest start v count =
          let front = map f (take (i + 1) xs) in
          let back = map f (drop (i + 1) xs) in
          let more = meshes_with_normals normal (raised bases (vertex_count front)) back in
          ap (λ ms. start ++ meshes_with_normals normal bases ms)
          (ap (map f) (sym (take-append-drop (i + 1) xs))
          ∙ map-append f (take (i + 1) xs) (drop (i + 1) xs))
          ∙ ap (λ t. start ++ t) (meshes-append bases front back)
          ∙ sym (append_assoc start (meshes_with_normals normal bases front) more)
          ∙ ap (λ t. t ++ more) (sym (text-more start v count))
