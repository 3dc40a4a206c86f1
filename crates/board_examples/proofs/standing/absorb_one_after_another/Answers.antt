-- The frame after both patches is the one that the second makes of the opening frame.
use Rattle.std.proofs.Common.{◌≡◌, ◌+◌, ◌≤◌, ◌++◌, ◌∷◌, [], ap, arith, length, subst, sym, ◌∙◌}
use Rattle.terrain.specs.declared.event.TheConstants.{MAX_EVENTS}
use Rattle.snapshots.specs.Absorbed.{absorbed}
use Rattle.snapshots.specs.Blocks.{HasOwnMeshes}
use Rattle.snapshots.specs.Frame.{FrameState, IsSound}
use Rattle.board_examples.proofs.standing.absorb_one_after_another.Goals as goal

pub look_at-one-requires : goal.look_at-one-requires
look_at-one-requires g c =
    c.absorb.ensures.sound c.opening-frame.ensures.sound
    (c.patches-earlier.ensures.first c.opening-frame.result c.opening-frame.ensures.stands)
    (omega (
      arith,
      ap length c.opening-frame.ensures.stands.journal,
      ap length c.patches-earlier.ensures.first_events,
    ))

pub look_at-both-requires : goal.look_at-both-requires
look_at-both-requires g c =
    let opening = c.opening-frame.result in
    let first = c.patches-earlier.result.0 in
    let later = c.patches-earlier.result.1 in
    let fits = c.patches-earlier.ensures.second opening c.opening-frame.ensures.stands in
    let few : length opening.events + length later.events.items ≤ MAX_EVENTS = omega (
      arith,
      ap length c.opening-frame.ensures.stands.journal,
      ap length c.patches-earlier.ensures.second_events,
    ) in
    let is : c.absorb-2.new.frame ≡ absorbed opening later =
    c.absorb-2.ensures.absorbed
    ∙ ap (λ f. absorbed f later) c.absorb.ensures.absorbed
    ∙ c.later_patches_suffice.ensures.two opening first later (c.args.second ∷ [])
    (c.patches-earlier.ensures.first opening c.opening-frame.ensures.stands) fits
    (c.patches-earlier.ensures.second_events
    ∙ ap (λ events. events ++ c.args.second ∷ []) (sym c.patches-earlier.ensures.first_events))
    few in
    subst IsSound (sym is)
    (c.frames_absorb_patches.ensures.sound opening later
    (subst (λ (f : FrameState). HasOwnMeshes f.blocks) is c.absorb-2.ensures.meshes)
    c.opening-frame.ensures.sound fits few)
