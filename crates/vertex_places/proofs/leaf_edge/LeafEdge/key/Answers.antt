-- The key begins in the world.
use Rattle.std.proofs.Common.{sym, subst}
use Rattle.lattice.specs.declared.settings.TheConstants.{MAX_DEPTH}
use Rattle.lattice.specs.Point.{IsInWorld, point_from}
use Rattle.vertex_places.specs.LeafEdges.{key_from}
use Rattle.vertex_places.proofs.PlaceLemmas.{near_inside}
use Rattle.vertex_places.proofs.leaf_edge.LeafEdge.key.Goals as goal

pub point_after-requires-clause-world : goal.point_after-requires-clause-world
point_after-requires-clause-world c =
    let edge = c.args.self.now in
    subst (λ p. IsInWorld MAX_DEPTH (point_from c.args.low edge.level p)) (sym c.at.ensures)
    (near_inside MAX_DEPTH (key_from c.args.low edge) c.requires)
