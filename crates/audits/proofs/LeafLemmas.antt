-- The leaves of a frame one by one, and those of equal level maps.
use Rattle.std.proofs.Common.{◌≡◌, ℕ, ◌+◌, ◌<◌, List, [], ◌∷◌, ◌++◌, get_or, map, take, subst, ◌∙◌, ap, length}
use Rattle.std.proofs.Math.Path.{fun_ext}
use Rattle.std.proofs.lemmas.List.{map-append, take_more}
use Rattle.lattice.specs.declared.node.Node.{Node}
use Rattle.terrain.specs.Blocks.{Mesh}
use Rattle.terrain.specs.Levels.{IsLeaf, LevelMap, leaves}

-- what f gives for one element more
pub map-more : {X : Type 0} (f : X → Mesh) (xs : List X) (i : ℕ) (d : X) → i < length xs
    → map f (take (i + 1) xs) ≡ map f (take i xs) ++ f (get_or xs i d) ∷ []
map-more f xs i d inside =
    ap (map f) (take_more xs i d inside) ∙ map-append f (take i xs) (get_or xs i d ∷ [])

-- maps that are equal at each node have the same leaves
pub leaves-same : (d depth : ℕ) (m n : LevelMap) → d ≡ depth → ((k : Node) → m k ≡ n k)
    → leaves d m ≡ leaves depth n
leaves-same d depth m n at same =
    let maps : ◌≡◌ {A = LevelMap} m n = fun_ext same in
    λ i. leaves (at i) (maps i)

-- and a leaf of one is a leaf of the other
pub leaf-same : (d depth : ℕ) (m n : LevelMap) (k : Node) → d ≡ depth
    → ((k : Node) → m k ≡ n k) → IsLeaf d m k → IsLeaf depth n k
leaf-same d depth m n k at same leaf =
    subst (λ e. IsLeaf e n k) at (subst {A = LevelMap} (λ f. IsLeaf d f k) (fun_ext same) leaf)
