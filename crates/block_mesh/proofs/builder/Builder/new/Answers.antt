-- An empty mesh is that of no triangle.
use Rattle.std.proofs.Common.{◌≡◌, ℕ, ◌-◌, ◌≤◌, ◌∙◌, [], ap, arith, get_or, length, map, replicate, subst, sym}
use Rattle.std.proofs.lemmas.List.{length-replicate}
use Rattle.std.proofs.lemmas.List.Elements.{All-nil}
use Rattle.block_mesh.specs.Builder.{AreEdgesOf, IsEdgeOf}
use Rattle.block_mesh.specs.KeyTable.{IsOnBorder, edge_slot, fine_slot}
use Rattle.lattice.specs.Steps.{AreAtMost}
use Rattle.block_mesh.specs.MeshEdges.{leaf_edge_of, mesh_key}
use Rattle.block_mesh.proofs.KeyTableLemmas.{HasEntries-empty, IsEdgeTable-empty, zeros-at}
use Rattle.block_mesh.proofs.builder.Builder.new.Goals as goal

pub returns-clause-builds : goal.returns-clause-builds
returns-clause-builds c =
    let b = c.args.brick.now in
    let zeros : c.in_ok-vec.field-0.items ≡ replicate 14739 0 =
    c.in_ok-vec.ensures.items_if_clones_equal (λ y same. same) in
    let none : map (mesh_key b) c.new-2.result ≡ [] =
    ap (map (mesh_key b)) c.new-2.ensures in
    let most : (slot : ℕ) → get_or c.in_ok-vec.field-0.items slot 0 ≤ 0 =
    λ slot. omega (arith, ap (λ xs. get_or xs slot 0) zeros, zeros-at 14739 slot) in
    let fine_zeros : c.in_ok-vec-2.field-0.items ≡ replicate 19602 0 =
    c.in_ok-vec-2.ensures.items_if_clones_equal (λ y same. same) in
    let fine_most : (slot : ℕ) → get_or c.in_ok-vec-2.field-0.items slot 0 ≤ 0 =
    λ slot. omega (arith, ap (λ xs. get_or xs slot 0) fine_zeros, zeros-at 19602 slot) in
    record {
      edges = subst (AreEdgesOf b) (sym c.new-2.ensures)
          (All-nil (λ edge. IsEdgeOf b (leaf_edge_of b edge)));
      spare = record {
        coarse = IsEdgeTable-empty 14739 0 (length c.new-2.result) c.in_ok-vec.field-0.items
            (ap length zeros ∙ length-replicate {A = ℕ} 14739 0) most;
        fine = IsEdgeTable-empty 19602 0 (length c.new-2.result) c.in_ok-vec-2.field-0.items
            (ap length fine_zeros ∙ length-replicate {A = ℕ} 19602 0) fine_most;
      };
      coarse = HasEntries-empty b.node b.node.level (AreAtMost 16) edge_slot 0
          c.in_ok-vec.field-0.items (map (mesh_key b) c.new-2.result) most none;
      fine = λ some. HasEntries-empty b.node (b.node.level - 1) IsOnBorder fine_slot 0
          c.in_ok-vec-2.field-0.items (map (mesh_key b) c.new-2.result) fine_most none;
      low = omega arith;
      moves = c.new.ensures ∙ (λ i. record {
        depth = c.depth.ensures.value i;
        node = c.node.ensures.value i;
        rim = c.rim.ensures.value i;
      });
    }
