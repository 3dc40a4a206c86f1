-- What the lists of a leaf's mesh are. This project's rule.
use Rattle.std.specs.Prelude.{◌≡◌, ℕ, ◌+◌, ◌<◌, ◌≤◌, List, [], ◌∷◌, All, flat_map, if◌then◌else◌, length, map, max}
use Rattle.std.specs.List.{IsDistinct}
use Rattle.lattice.specs.declared.key.Key.{Key}
use Rattle.lattice.specs.Key.{is_same_key}
use Rattle.terrain.specs.Samples.{Field}
use Rattle.terrain.specs.Levels.{LevelMap}
use Rattle.terrain.specs.Blocks.{Brick, Mesh, mesh}
use Rattle.terrain.specs.MeshLists.{MeshLists}
use Rattle.bricks.specs.Brick.{HasBrick}
use Rattle.block_mesh.specs.declared.mesher.TheConstants.{MAX_KEYS}

-- the index of a key in the list, from 0
abbrev pub index_among : Key → List Key → ℕ
index_among key [] = 0
index_among key (k ∷ keys) = if is_same_key k key then 0 else 1 + index_among key keys

-- triangles by the indices of their keys
abbrev pub indices_of : List Key → List (List Key) → List (List ℕ)
indices_of keys triangles = map (map (λ key. index_among key keys)) triangles

-- the lists are those of the definition's mesh
pub record ShowsMesh (lists : MeshLists) (m : Mesh) : Type 0 where
  pub keys : lists.keys ≡ m.keys
  pub positions : lists.positions ≡ m.positions
  pub triangles : lists.triangles ≡ indices_of m.keys m.triangles

-- lists are those of a brick's mesh, in each field and level map that have the brick
pub record IsMeshOf (b : Brick) (lists : MeshLists) : Type 0 where
  pub shows : (s : Field) (m : LevelMap) → HasBrick s m b
      → ShowsMesh lists (mesh b.depth s m b.node)

-- indices come in the order of first use: each is one of those that are known, or the next one, and in the end so many
-- are known
abbrev pub AreInOrder : ℕ → ℕ → List ℕ → Type 0
AreInOrder count known [] = known ≡ count
AreInOrder count known (place ∷ places) =
    (place ≤ known) × AreInOrder count (max known (place + 1)) places

-- what every mesh keeps: no key is in it twice, there are few enough of them, each has a position, and the triangles
-- are indices of keys, which come in the order of first use
pub record IsMesh (lists : MeshLists) : Type 0 where
  pub once : IsDistinct is_same_key lists.keys
  pub few : length lists.keys ≤ MAX_KEYS
  pub positions : length lists.positions ≡ length lists.keys
  pub places : All (All (λ place. place < length lists.keys)) lists.triangles
  pub order : AreInOrder (length lists.keys) 0 (flat_map (λ triangle. triangle) lists.triangles)
