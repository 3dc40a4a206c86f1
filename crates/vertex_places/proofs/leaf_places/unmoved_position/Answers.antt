-- No edge of a leaf moves where the leaf's rim is empty.
use Rattle.std.proofs.Common.{◌≡◌, inl, inr, sym, ◌∙◌, subst, w8, SFits, rules}
use Rattle.std.proofs.lemmas.Int.{to_z-of_z}
use Rattle.vertex_places.specs.LeafEdges.{key_of}
use Rattle.vertex_places.specs.Places.{AreStill}
use Rattle.vertex_places.proofs.LeafEdgeLemmas.{bare_edge-still, fine_edge-still}
use Rattle.vertex_places.proofs.leaf_places.unmoved_position.Goals as goal

pub returns : goal.returns
returns c leaf s m bare is_edge is balanced of ends =
    let edge = c.args.edge.now in
    let near_fits : SFits w8 edge.near = search rules in
    let far_fits : SFits w8 edge.far = search rules in
    let unmoved : AreStill leaf.depth m (key_of leaf.node edge) = elim is_edge.lies [
      | inl coarse ↦ bare_edge-still m leaf edge bare coarse of
      | inr fine ↦
          fine_edge-still c.fine_points_stay.ensures leaf.depth m leaf.node edge fine balanced
          of.node
    ] in
    let still = subst (AreStill leaf.depth m) (sym is) unmoved in
    c.still_position.ensures leaf.depth s m (to_z-of_z w8 edge.near near_fits ∙ ends.near_is)
    (to_z-of_z w8 edge.far far_fits ∙ ends.far_is) still.begins still.ends
