-- No crack between blocks: the whole, put together, for the law `no_crack` (docs/rules.md, "No crack between blocks").
--
-- For each weight (`same-flow`): the flow of a frame is the sum over its leaves (`frame-flow`); each leaf leaves open
-- its faces and the rows round them (`LeafTotals`, docs/rules.md "A leaf"); over all leaves the faces cancel
-- (`FaceSums`, "Faces") and the rows cancel (`LateralRows`, "Sides"), but for those on the border; and these are the
-- curves of each leaf in the border (`LeafTotals` again). Then the clauses `weights`, `pairs`, and `inside`, by
-- `BorderKeys`.
use Rattle.std.proofs.Common.{◌≡◌, ℕ, true, List, [], ◌∷◌, map, ap, sym, ◌∙◌}
use Rattle.std.specs.Prelude.{pos, ◌+ℤ◌, ◌&&◌, ◌||◌, ◌==◌, not}
use Rattle.std.proofs.lemmas.Bool.{and_parts}
use Rattle.lattice.specs.declared.node.Node.{Node}
use Rattle.lattice.specs.declared.key.Key.{Key}
use Rattle.lattice.specs.Node.{IsNode, is_node, parent}
use Rattle.lattice.proofs.TestLemmas.{node_test}
use Rattle.terrain.specs.Curves.{HaveSameNet, all_edges}
use Rattle.terrain.specs.Samples.{Field}
use Rattle.terrain.specs.Levels.{LevelMap, is_leaf, leaves}
use Rattle.terrain.specs.Blocks.{mesh, block, frame, frame_edges, leaf_border, border_edges, border, net, LieOnBorder}
use Rattle.level_laws.specs.Balance.{IsFaceBalanced}
use Rattle.cell_laws.proofs.KeysOf.{nets-from_weights}
use Rattle.seam_laws.specs.Flows.{flow}
use Rattle.seam_laws.specs.Seams.{int_sum, all, on_border, leaf_squares, leaf_rows}
use Rattle.seam_laws.proofs.FlowLemmas.{flow-none, flow-append, flow-flat_map, same-from_flow}
use Rattle.seam_laws.proofs.LeafSums.{over_leaves-at, over_leaves-sum}
use Rattle.seam_laws.proofs.LeafTotals.{leaf-open, leaf-on_border}
use Rattle.seam_laws.proofs.BorderKeys.{border-lie, off-border}
use Rattle.seam_laws.proofs.FaceSums.{faces-cancel}
use Rattle.seam_laws.proofs.LateralRows.{sides-cancel}

-- a leaf is a node of the world, as the lemmas on one leaf require
leaf-node : (depth : ℕ) (m : LevelMap) (n : Node) → is_leaf depth m n ≡ true → IsNode depth n
leaf-node depth m n h =
    let held = n.level == depth || m (parent n) in
    (node_test depth n).0 (and_parts (is_node depth n) (not (m n))
    (and_parts (is_node depth n && not (m n)) held h).0).0

module _ (w : Key → Key → ℕ) (s : Field) (depth : ℕ) (m : LevelMap) where
  -- the edges of all meshes, leaf by leaf
  frame-flow : (xs : List Node) → flow w (frame_edges (map (mesh depth s m) xs))
      ≡ int_sum (map (λ n. flow w (all_edges (block depth s m n))) xs)
  frame-flow [] = flow-none w
  frame-flow (x ∷ xs) =
      flow-append w (all_edges (block depth s m x)) (frame_edges (map (mesh depth s m) xs))
      ∙ ap (λ y. flow w (all_edges (block depth s m x)) +ℤ y) (frame-flow xs)

  -- the theorem for one weight, in the order of the head
  same-flow : IsFaceBalanced depth m → flow w (frame_edges (frame depth s m))
      ≡ flow w (border_edges depth s m)
  same-flow balanced =
      let squares = leaf_squares w s in
      let rows = leaf_rows w s in
      frame-flow (leaves depth m)
      ∙ over_leaves-at depth m (λ n. flow w (all_edges (block depth s m n)))
      (λ n. squares all depth m n +ℤ rows all depth m n)
      (λ n is. leaf-open w s depth m balanced.octree n (leaf-node depth m n is))
      ∙ over_leaves-sum depth m (squares all depth m) (rows all depth m)
      ∙ (λ t. faces-cancel w s depth m balanced t +ℤ sides-cancel w s depth m balanced t)
      ∙ sym (over_leaves-sum depth m (squares (on_border depth) depth m)
      (rows (on_border depth) depth m))
      ∙ sym (over_leaves-at depth m (λ n. flow w (leaf_border depth s m n))
      (λ n. squares (on_border depth) depth m n +ℤ rows (on_border depth) depth m n)
      (λ n is. leaf-on_border w s depth m balanced.octree n (leaf-node depth m n is)))
      ∙ sym (flow-flat_map w (leaf_border depth s m) (leaves depth m))

-- the triangles of a frame leave open just the curves in the border
pub no-crack : (s : Field) (depth : ℕ) (m : LevelMap) → IsFaceBalanced depth m
    → HaveSameNet (frame_edges (frame depth s m)) (border_edges depth s m)
no-crack s depth m balanced = same-from_flow (frame_edges (frame depth s m))
    (border_edges depth s m) (λ w. same-flow w s depth m balanced)

-- the same for each pair of keys
pub no-crack-pairs : (s : Field) (depth : ℕ) (m : LevelMap) → IsFaceBalanced depth m → (a b : Key)
    → net (frame_edges (frame depth s m)) a b ≡ border depth s m a b
no-crack-pairs s depth m balanced = nets-from_weights (frame_edges (frame depth s m))
    (border_edges depth s m) (no-crack s depth m balanced)

-- and two keys that don't lie on the border together have no net
pub no-crack-inside : (s : Field) (depth : ℕ) (m : LevelMap) → IsFaceBalanced depth m → (a b : Key)
    → (LieOnBorder depth a b → ⊥) → net (frame_edges (frame depth s m)) a b ≡ pos 0
no-crack-inside s depth m balanced a b off =
    no-crack-pairs s depth m balanced a b
    ∙ off-border depth a b (border_edges depth s m) off (border-lie depth s m balanced.octree)
