-- The edges of a mesh one after another: each is one of the brick's leaf, and its key is one of the world.
--
-- For the two loops of `vertices.rt`.
use Rattle.std.proofs.Common.{◌≡◌, ℕ, ◌+◌, ◌<◌, List, [], ◌∷◌, ◌++◌, get_or, length, map, take, sym, ap, ◌∙◌, subst}
use Rattle.std.proofs.lemmas.List.{map-append, map_more}
use Rattle.std.proofs.lemmas.List.Elements.{All-get_or}
use Rattle.lattice.specs.declared.key.Key.{Key}
use Rattle.lattice.specs.declared.node.Node.{Node}
use Rattle.lattice.specs.declared.point.Point.{Point}
use Rattle.lattice.specs.declared.point.Pos.{Pos}
use Rattle.lattice.specs.declared.settings.TheConstants.{MAX_DEPTH}
use Rattle.lattice.specs.Key.{IsKey}
use Rattle.lattice.specs.Node.{IsNode, low_corner}
use Rattle.terrain.specs.Blocks.{Brick}
use Rattle.vertex_places.specs.declared.leaf_edge.LeafEdge.{LeafEdge}
use Rattle.vertex_places.specs.LeafEdges.{key_from}
use Rattle.vertex_places.proofs.LeafEdgeLemmas.{edge_key}
use Rattle.block_mesh.specs.Builder.{AreEdgesOf, IsEdgeOf}
use Rattle.block_mesh.specs.MeshEdges.{leaf_edge_of, mesh_key}
use Rattle.block_mesh.specs.declared.mesh_edge.MeshEdge.{MeshEdge}
use Rattle.block_mesh.specs.declared.mesh_edge.MeshEdge.TheVariants.{Coarse}

-- an edge of a list, with its samples
abbrev pub edge_among : Brick → List MeshEdge → ℕ → LeafEdge
edge_among b edges k = leaf_edge_of b (get_or edges k (Coarse 0))

-- each edge is one of the leaf
pub edge-is : (b : Brick) (edges : List MeshEdge) (k : ℕ) → AreEdgesOf b edges → k < length edges
    → IsEdgeOf b (edge_among b edges k)
edge-is b edges k are within =
    All-get_or (λ edge. IsEdgeOf b (leaf_edge_of b edge)) edges k (Coarse 0) within are

-- the code's leaf edge and low corner give a key of the world
pub key-fits : (b : Brick) (edges : List MeshEdge) (k : ℕ) (n : Node) (low : Point)
    (edge : LeafEdge) → AreEdgesOf b edges → k < length edges → n ≡ b.node → IsNode MAX_DEPTH n
    → low ≡ low_corner n → edge ≡ edge_among b edges k → IsKey MAX_DEPTH (key_from low edge)
key-fits b edges k n low edge are within n_is node low_is edge_is =
    subst (λ (x : Point × LeafEdge). IsKey MAX_DEPTH (key_from x.0 x.1))
    (λ i. (sym (low_is ∙ ap low_corner n_is) i, sym edge_is i))
    (edge_key MAX_DEPTH b.node (edge_among b edges k) (subst (IsNode MAX_DEPTH) n_is node)
    (edge-is b edges k are within).leaf.lies)

-- and that of the mesh
pub key-is : (b : Brick) (edges : List MeshEdge) (k : ℕ) (n : Node) (low : Point) (edge : LeafEdge)
    (key : Key) → n ≡ b.node → low ≡ low_corner n → edge ≡ edge_among b edges k
    → key ≡ key_from low edge → key ≡ mesh_key b (get_or edges k (Coarse 0))
key-is b edges k n low edge key n_is low_is edge_is key_is =
    key_is ∙ (λ i. key_from ((low_is ∙ ap low_corner n_is) i) (edge_is i))

-- the keys with one more
pub keys-next : (b : Brick) (edges : List MeshEdge) (k : ℕ) (key : Key) (keys more : List Key)
    → k < length edges → keys ≡ map (mesh_key b) (take k edges) → more ≡ keys ++ key ∷ []
    → key ≡ mesh_key b (get_or edges k (Coarse 0)) → more ≡ map (mesh_key b) (take (k + 1) edges)
keys-next b edges k key keys more within before put key_is =
    put ∙ (λ i. before i ++ key_is i ∷ []) ∙ sym (map_more (mesh_key b) edges k (Coarse 0) within)

-- the positions with one more
pub positions-next : (f : Key → Pos) (key : Key) (keys more : List Key) (position : Pos)
    (positions placed : List Pos) → positions ≡ map f keys → more ≡ keys ++ key ∷ []
    → placed ≡ positions ++ position ∷ [] → position ≡ f key → placed ≡ map f more
positions-next f key keys more position positions placed before put added is =
    added ∙ (λ i. before i ++ is i ∷ []) ∙ sym (map-append f keys (key ∷ [])) ∙ ap (map f) (sym put)
