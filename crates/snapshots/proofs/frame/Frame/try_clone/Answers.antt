-- The copy has the frame's leaves with their blocks, and no other node has one.
use Rattle.std.proofs.Common.{◌≡◌, ap, sym, ◌∙◌}
use Rattle.octree.specs.SplitBits.{SplitBits, split_at}
use Rattle.terrain.specs.Levels.{leaves}
use Rattle.lattice.specs.Node.{is_among}
use Rattle.snapshots.proofs.FrameLemmas.{among_leaves}
use Rattle.snapshots.proofs.frame.Frame.try_clone.Goals as goal

pub try_clone-requires-3 : goal.try_clone-requires-3
try_clone-requires-3 c = λ n out.
    let levels = c.self.inside.levels.value in
    let all : c.deref-3.result.now ≡ leaves levels.depth (split_at levels) =
    c.deref-3.ensures.value ∙ c.in_ok-leaves.ensures.value
    ∙ ap (λ (l : SplitBits). leaves l.depth (split_at l)) c.deref-2.ensures in
    c.self.invariant.others n
    (sym (among_leaves levels.depth (split_at levels) n) ∙ sym (ap (λ ns. is_among ns n) all) ∙ out)
