-- The keys of a leaf's edges are keys of the world, and for three kinds of edge they don't move: those of the level
-- below, those of a leaf whose rim is empty, and those in the box of still points.
--
-- For `edge_position` and `is_still` of `leaf_places`: each is a lemma of `LeafKeyLemmas` with the edge's fields put
-- in.
use Rattle.std.proofs.Common.{◌≡◌, ℕ, ◌-◌, ◌⊎◌, inl, inr, sym, ap, subst}
use Rattle.lattice.specs.declared.node.Node.{Node}
use Rattle.lattice.specs.declared.point.Point.{Point}
use Rattle.lattice.specs.Key.{IsKey}
use Rattle.lattice.specs.Node.{IsNode}
use Rattle.lattice.specs.Point.{moved}
use Rattle.terrain.specs.Levels.{IsBalanced, IsLeaf, LevelMap}
use Rattle.vertex_places.specs.declared.leaf_edge.LeafEdge.{LeafEdge}
use Rattle.vertex_places.specs.declared.leaf_rim.LeafRim.{LeafRim}
use Rattle.vertex_places.specs.Directions.{border_of}
use Rattle.vertex_places.specs.LeafEdges.{IsCoarse, IsFine, key_of, low_end}
use Rattle.lattice.specs.Steps.{key_at}
use Rattle.vertex_places.specs.Moves.{FinePointsStay, IsLeafOf, IsWayIn, still_points}
use Rattle.vertex_places.specs.Places.{AreStill}
use Rattle.vertex_places.proofs.LeafKeyLemmas.{AreAtMost-before, coarse_key, coarse_still, fine_ends, fine_key, still-at, still-within, way-begins, way-ends}
use Rattle.vertex_places.proofs.Shifts.{move_at-none}

-- the key of a leaf's edge is a key of the world
pub edge_key : (depth : ℕ) (n : Node) (e : LeafEdge) → IsNode depth n → IsCoarse n e ⊎ IsFine n e
    → IsKey depth (key_of n e)
edge_key depth n e node (inl coarse) =
    subst (λ l. IsKey depth (key_at l n (low_end e) e.axis)) (sym coarse.level)
    (coarse_key depth n (low_end e) e.axis node coarse.end)
edge_key depth n e node (inr fine) =
    subst (λ l. IsKey depth (key_at l n (low_end e) e.axis)) (sym fine.level)
    (fine_key depth n (low_end e) e.axis node fine.some fine.end)

-- an edge of the level below doesn't move
pub fine_edge-still : FinePointsStay → (depth : ℕ) (m : LevelMap) (n : Node) (e : LeafEdge)
    → IsFine n e → IsBalanced depth m → IsLeaf depth m n → AreStill depth m (key_of n e)
fine_edge-still stay depth m n e fine balanced leaf =
    fine_ends stay depth m (key_of n e) n (low_end e)
    (ap (λ l. key_at l n (low_end e) e.axis) fine.level) balanced leaf fine.some fine.end

-- an edge of a leaf whose rim is empty doesn't move
pub bare_edge-still : (m : LevelMap) (leaf : LeafRim) (e : LeafEdge) → leaf.rim ≡ 0
    → IsCoarse leaf.node e → IsLeafOf m leaf → AreStill leaf.depth m (key_of leaf.node e)
bare_edge-still m leaf e bare coarse of =
    let at = low_end e in
    let end : Point = moved e.axis 1 at in
    coarse_still leaf.depth m (key_of leaf.node e) leaf.node at
    (ap (λ l. key_at l leaf.node at e.axis) coarse.level)
    (still-at m leaf at of (AreAtMost-before 16 e.axis at coarse.end)
    (move_at-none leaf (border_of at.z at.y at.x) bare))
    (still-at m leaf end of coarse.end (move_at-none leaf (border_of end.z end.y end.x) bare))

-- nor does one in the box of still points
pub way_edge-still : (m : LevelMap) (leaf : LeafRim) (e : LeafEdge) → IsCoarse leaf.node e
    → IsLeafOf m leaf → IsWayIn (still_points leaf) (low_end e) (moved e.axis 1 (low_end e))
    → AreStill leaf.depth m (key_of leaf.node e)
way_edge-still m leaf e coarse of way =
    let at = low_end e in
    coarse_still leaf.depth m (key_of leaf.node e) leaf.node at
    (ap (λ l. key_at l leaf.node at e.axis) coarse.level)
    (still-within m leaf at of (way-begins (still_points leaf) e.axis at way))
    (still-within m leaf (moved e.axis 1 at) of (way-ends (still_points leaf) e.axis at way))
