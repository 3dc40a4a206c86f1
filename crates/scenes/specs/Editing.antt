-- Editors of a scene and their clerk.
-- Source: this project's rule.
use Rattle.std.specs.Prelude.{◌≡◌, ◌≤◌, ◌⊎◌, List, length, map}
use Rattle.std.specs.Arc.{arc_value}
use Rattle.terrain.specs.declared.event.Event.{Event}
use Rattle.terrain.specs.declared.event.TheConstants.{MAX_EVENTS}
use Rattle.editors.specs.declared.clerk.Clerk.{Clerk}
use Rattle.editors.specs.declared.editor.Editor.{Editor}
use Rattle.editors.specs.declared.mail.Mail.{Mail}
use Rattle.editors.specs.Mail.{HaveAllEnded, taken_by}
use Rattle.editors.specs.Notes.{owners_in}
use Rattle.scenes.specs.declared.holders.SceneEditor.{SceneEditor}
use Rattle.scenes.specs.declared.unsent.Unsent.{Unsent}
use Rattle.scenes.specs.declared.unsent.Unsent.TheVariants.{Full, NotLawful}

-- these editors, without their mail
abbrev pub editors_of : List SceneEditor → List Editor
editors_of seated = map (λ (one : SceneEditor). one.editor) seated

-- an editor sends through this mail
abbrev pub SendsThrough : Mail → SceneEditor → Type 0
SendsThrough mail one = arc_value one.mail ≡ mail

-- the event that wasn't sent
abbrev pub unsent_event : Unsent → Event
unsent_event (NotLawful event) = event
unsent_event (Full event) = event

-- a clerk took as many events as a journal may have
abbrev pub HasTakenMost : Clerk → Type 0
HasTakenMost clerk = MAX_EVENTS ≤ length (owners_in (taken_by clerk))

-- a clerk has no more to take: the end notes of all editors, or as many events as a journal may have
abbrev pub HasNoMore : Clerk → Type 0
HasNoMore clerk = HaveAllEnded clerk ⊎ HasTakenMost clerk
