-- The text of a replica is that of the world that it shows.
use Rattle.std.proofs.Common.{◌≡◌, Some, None, refl, sym, ap, ◌∙◌}
use Rattle.std.specs.Prelude.{Option}
use Rattle.std.proofs.lemmas.Option.{same_Some, none-some}
use Rattle.replicas.specs.Fed.{Shows, block_in, events_left, settings_left}
use Rattle.replicas.specs.Following.{Outcome}
use Rattle.replicas.specs.Held.{HeldState, world_held}
use Rattle.replicas.specs.Reading.{ReplicaWorld}
use Rattle.replicas.specs.Replicas.{ReplicaState, block_shown, events_shown, settings_shown}
use Rattle.patch_wire.specs.Written.{text_shown, world_text}
use Rattle.mirrors.specs.Mirrored.{text_left}

-- by what the replica holds and by the world
text-at : (held : Option HeldState) (r : ReplicaState) → r.held ≡ held → (o : Outcome)
    (w : Option ReplicaWorld) → o.world ≡ w → Shows r o → text_shown r ≡ text_left w
text-at None r is o None world shows = ap (λ h. text_shown (record r { held = h })) is
text-at None r is o (Some w) world shows =
    absurd (none-some w.settings
    (sym (ap (λ h. settings_shown (record r { held = h })) is) ∙ shows.settings
    ∙ ap settings_left world))
text-at (Some h) r is o None world shows =
    absurd (none-some h.settings
    (sym (ap settings_left world) ∙ sym shows.settings
    ∙ ap (λ h. settings_shown (record r { held = h })) is))
text-at (Some h) r is o (Some w) world shows =
    let settings : h.settings ≡ w.settings =
    same_Some h.settings w.settings
    (sym (ap (λ h. settings_shown (record r { held = h })) is) ∙ shows.settings
    ∙ ap settings_left world) in
    let events : h.events ≡ w.events =
    sym (ap (λ h. events_shown (record r { held = h })) is) ∙ shows.events
    ∙ ap events_left world in
    let same : world_held h ≡ w = λ i. record {
      settings = settings i;
      events = events i;
      block = λ n. (sym (ap (λ h. block_shown (record r { held = h }) n) is) ∙ shows.block n
          ∙ ap (λ v. block_in v n) world) i;
    } in
    ap (λ h. text_shown (record r { held = h })) is ∙ ap world_text same

-- a replica that shows an outcome has the text of its world
pub text-shown : (r : ReplicaState) (o : Outcome) → Shows r o → text_shown r ≡ text_left o.world
text-shown r o shows = text-at r.held r refl o o.world refl shows
