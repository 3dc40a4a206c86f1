-- Each edge's key and position go behind the others, by the moves of its leaf.
use Rattle.std.proofs.Common.{◌≡◌, length, sym, ap, ◌∙◌, subst, arith}
use Rattle.std.proofs.lemmas.List.{length_push}
use Rattle.terrain.specs.Blocks.{place}
use Rattle.terrain.specs.Levels.{IsBalanced}
use Rattle.vertex_places.specs.declared.leaf_rim.LeafRim.{LeafRim}
use Rattle.vertex_places.specs.LeafEdges.{AreEndSamples, key_of}
use Rattle.vertex_places.specs.Moves.{IsLeafOf}
use Rattle.bricks.proofs.SampleLemmas.{has-samples}
use Rattle.block_mesh.specs.Builder.{IsEdgeOf}
use Rattle.block_mesh.proofs.EdgeLemmas.{has-leaf}
use Rattle.block_mesh.proofs.VertexLemmas.{edge-is, key-fits, key-is, keys-next, positions-next}
use Rattle.block_mesh.proofs.vertices.moved_vertices.Goals as goal

pub key-key-requires : goal.key-key-requires
key-key-requires c =
    key-fits c.args.brick.now c.args.edges.now c.loop-edge.edge-index c.node.result
    c.low_corner-low.result c.leaf_edge-edge.result c.requires.edges c.loop-edge-test.true
    c.node.ensures.value c.node.ensures.most c.low_corner-low.ensures c.leaf_edge-edge.ensures

pub loop-edge-preserved : goal.loop-edge-preserved
loop-edge-preserved c =
    let b = c.args.brick.now in
    let edges = c.args.edges.now in
    let k = c.loop-edge.edge-index in
    let before = c.loop-edge.invariant in
    let put = c.push_reserved.ensures in
    let placed = c.push_reserved-in-loop-edge.ensures in
    let edge_is = c.leaf_edge-edge.ensures in
    let is_edge : IsEdgeOf b c.leaf_edge-edge.result =
    subst (IsEdgeOf b) (sym edge_is) (edge-is b edges k c.requires.edges c.loop-edge-test.true) in
    let key_is = key-is b edges k c.node.result c.low_corner-low.result c.leaf_edge-edge.result
    c.key-key.result c.node.ensures.value c.low_corner-low.ensures edge_is c.key-key.ensures in
    let own : c.key-key.result ≡ key_of b.node c.leaf_edge-edge.result =
    key_is ∙ ap (key_of b.node) (sym edge_is) in
    record {
      keys = keys-next b edges k c.key-key.result c.loop-edge.keys.items
          c.push_reserved.new.self.items c.loop-edge-test.true before.keys put.items key_is;
      count = omega (
        arith,
        ap length placed.items,
        length_push c.loop-edge.positions.items c.edge_position.result,
        before.count,
      );
      room = put.capacity ∙ before.room;
      place_room = placed.capacity ∙ before.place_room;
      placed = λ s m has.
          let is = c.requires.moves in
          let balanced = subst (λ (leaf : LeafRim). IsBalanced leaf.depth m) (sym is)
          has.balanced in
          let leaf = subst (IsLeafOf m) (sym is) (has-leaf s m b has) in
          let ends = subst
          (λ key. AreEndSamples s key c.leaf_edge-edge.result.near c.leaf_edge-edge.result.far)
          (sym own) (is_edge.samples s (has-samples s m b has)) in
          positions-next (place b.depth s m) c.key-key.result c.loop-edge.keys.items
          c.push_reserved.new.self.items c.edge_position.result c.loop-edge.positions.items
          c.push_reserved-in-loop-edge.new.self.items (before.placed s m has) put.items
          placed.items
          (c.edge_position.ensures s m balanced leaf ends
          ∙ ap (λ (leaf : LeafRim). place leaf.depth s m c.key-key.result) is);
    }
