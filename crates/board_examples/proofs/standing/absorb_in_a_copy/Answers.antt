-- The copy after both patches is the frame that the second makes of the opening one.
use Rattle.std.proofs.Common.{◌≡◌, ◌+◌, ◌≤◌, ◌++◌, ◌∷◌, [], ap, arith, length, subst, sym, ◌∙◌}
use Rattle.terrain.specs.declared.event.TheConstants.{MAX_EVENTS}
use Rattle.snapshots.specs.Absorbed.{absorbed}
use Rattle.snapshots.specs.Blocks.{HasOwnMeshes}
use Rattle.snapshots.specs.Frame.{FrameState, IsSound}
use Rattle.board_examples.proofs.standing.absorb_in_a_copy.Goals as goal

pub look_at-one-requires : goal.look_at-one-requires
look_at-one-requires g c =
    c.absorb.ensures.sound c.opening-frame.ensures.sound
    (c.patches-earlier.ensures.first c.opening-frame.result c.opening-frame.ensures.stands)
    (omega (
      arith,
      ap length c.opening-frame.ensures.stands.journal,
      ap length c.patches-earlier.ensures.first_events,
    ))

pub look_at_a_copy-both-requires : goal.look_at_a_copy-both-requires
look_at_a_copy-both-requires g c = λ meshes.
    let opening = c.opening-frame.result in
    let first = c.patches-earlier.result.0 in
    let later = c.patches-earlier.result.1 in
    let fits = c.patches-earlier.ensures.second opening c.opening-frame.ensures.stands in
    let few : length opening.events + length later.events.items ≤ MAX_EVENTS = omega (
      arith,
      ap length c.opening-frame.ensures.stands.journal,
      ap length c.patches-earlier.ensures.second_events,
    ) in
    let is : absorbed c.absorb.new.frame later ≡ absorbed opening later =
    ap (λ f. absorbed f later) c.absorb.ensures.absorbed
    ∙ c.later_patches_suffice.ensures.two opening first later (c.args.second ∷ [])
    (c.patches-earlier.ensures.first opening c.opening-frame.ensures.stands) fits
    (c.patches-earlier.ensures.second_events
    ∙ ap (λ events. events ++ c.args.second ∷ []) (sym c.patches-earlier.ensures.first_events))
    few in
    subst IsSound (sym is)
    (c.frames_absorb_patches.ensures.sound opening later
    (subst (λ (f : FrameState). HasOwnMeshes f.blocks) is meshes)
    c.opening-frame.ensures.sound fits few)
