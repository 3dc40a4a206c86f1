-- No leaf of a level map is none.
use Rattle.std.proofs.Common.{◌≡◌, [], refl, subst, sym, ◌∙◌}
use Rattle.std.specs.Prelude.{filter, not}
use Rattle.lattice.specs.Node.{nodes}
use Rattle.octree.specs.SplitBits.{SplitBits, split_at}
use Rattle.terrain.specs.Levels.{is_leaf, leaves}
use Rattle.snapshots.proofs.AbsorbedLemmas.{others-none}
use Rattle.snapshots.proofs.absorbing.lost_leaves.Goals as goal

pub returns-then-eq : goal.returns-then-eq
returns-then-eq c =
    let before = c.args.before.now in
    let same : before ≡ c.args.after.now = c.if-eq.ensures.fact.0 refl in
    c.new.ensures.items
    ∙ sym (subst (λ (after : SplitBits).
    filter (λ n. not (is_leaf after.depth (split_at after) n))
    (leaves before.depth (split_at before)) ≡ []) same
    (others-none (is_leaf before.depth (split_at before)) (nodes before.depth)))
