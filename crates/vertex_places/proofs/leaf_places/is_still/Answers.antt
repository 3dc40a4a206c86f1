-- An edge of the leaf's level is still in the box of still points, and where the rim is empty.
use Rattle.std.proofs.Common.{◌≡◌, inl, inr, sym, ◌∙◌, subst}
use Rattle.std.proofs.lemmas.Bool.{cases_eq, true≢false}
use Rattle.lattice.specs.Point.{moved}
use Rattle.vertex_places.specs.LeafEdges.{low_end}
use Rattle.vertex_places.specs.Moves.{IsWayIn, still_points}
use Rattle.vertex_places.proofs.LeafEdgeLemmas.{bare_edge-still, fine_edge-still, way_edge-still}
use Rattle.vertex_places.proofs.leaf_places.is_still.Goals as goal

pub returns-then-not-may_move-clause-still : goal.returns-then-not-may_move-clause-still
returns-then-not-may_move-clause-still c = λ is m balanced leaf.
    let moves = c.args.moves.now in
    let edge = c.args.edge.now in
    elim c.requires.lies [
      | inl coarse ↦
          let bare : moves.rim ≡ 0 = elim (cases_eq moves.rim 0) [
            | inl none ↦ none
            | inr some ↦
                absurd (true≢false (sym (c.may_move.ensures.1 (some, coarse.level))
                ∙ c.if-not-may_move.true))
          ] in
          bare_edge-still m moves edge bare coarse leaf
      | inr fine ↦
          fine_edge-still c.fine_points_stay.ensures moves.depth m moves.node edge fine balanced
          leaf.node
    ]

pub returns-else-not-may_move-clause-still : goal.returns-else-not-may_move-clause-still
returns-else-not-may_move-clause-still c = λ is m balanced leaf.
    let moves = c.args.moves.now in
    let edge = c.args.edge.now in
    elim c.requires.lies [
      | inl coarse ↦
          let way : IsWayIn (still_points moves) (low_end edge)
          (moved edge.axis 1 (low_end edge)) =
          subst (λ p. IsWayIn (still_points moves) p (moved edge.axis 1 p)) c.at.ensures
          (c.have_still.ensures.0 is) in
          way_edge-still m moves edge coarse leaf way
      | inr fine ↦
          fine_edge-still c.fine_points_stay.ensures moves.depth m moves.node edge fine balanced
          leaf.node
    ]
