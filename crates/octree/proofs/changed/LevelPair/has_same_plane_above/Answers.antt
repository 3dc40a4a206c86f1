-- The parents are the nodes of a plane of the level above.
use Rattle.std.proofs.Common.{◌≡◌, ◌/◌, subst}
use Rattle.lattice.specs.Node.{parent}
use Rattle.octree.specs.Layers.{LayerOf, PairOf}
use Rattle.octree.specs.SplitBits.{split_at}
use Rattle.octree.proofs.changed.LevelPair.has_same_plane_above.Goals as goal

pub returns : goal.returns
returns c on j i =
    let k = c.args.k / 2 in
    let first = subst (λ (l : LayerOf). split_at l.levels
    (record { level = l.level; k = k; j = j / 2; i = i / 2 })
    ≡ split_at c.self.inside.above_after.levels
    (record { level = c.self.inside.above_after.level; k = k; j = j / 2; i = i / 2 }))
    c.self.invariant.first_above (c.has_same_plane.ensures on (j / 2) (i / 2)) in
    let both = subst (λ (l : LayerOf). split_at c.self.inside.before.levels
    (parent (record { level = c.self.inside.level; k = c.args.k; j = j; i = i }))
    ≡ split_at l.levels (record { level = l.level; k = k; j = j / 2; i = i / 2 }))
    c.self.invariant.second_above first in
    subst (λ (p : PairOf). split_at p.before
    (parent (record { level = p.level; k = c.args.k; j = j; i = i }))
    ≡ split_at p.after (parent (record { level = p.level; k = c.args.k; j = j; i = i })))
    c.self.view_is both
