-- The copy is the frame still, so it is what absorbing makes of the frame.
use Rattle.std.proofs.Common.{◌≡◌, ap, subst, sym, ◌∙◌}
use Rattle.snapshots.specs.Absorbed.{absorbed}
use Rattle.snapshots.specs.Blocks.{HasOwnMeshes}
use Rattle.snapshots.specs.Frame.{FrameState, IsSound}
use Rattle.board_examples.proofs.standing.look_at_a_copy.Goals as goal

pub look_at-look-requires : goal.look_at-look-requires
look_at-look-requires g c =
    let patch = c.args.patch.now in
    let is : c.absorb.new.frame ≡ absorbed c.args.frame.now patch =
    c.absorb.ensures.absorbed ∙ ap (λ f. absorbed f patch) c.copy_of-copy.ensures in
    subst IsSound (sym is)
    (c.requires
    (subst (λ (f : FrameState). HasOwnMeshes f.blocks) is c.absorb.ensures.meshes))
