-- The events of commands are no more than the commands, and a drill has no undo: what `write_output` asks of a drill's
-- commands.
-- That no command is an undo without an edit goes by the commands of a drill: the event of a state is an edit or a
-- camera (drilled-edit), a line of stats is none (stats-edits), and so on to the end (edits_from-edits).
use Rattle.std.proofs.Common.{◌≡◌, ℕ, zero, suc, ◌+◌, ◌≤◌, false, Bool, List, [], ◌∷◌, ◌++◌, ◌==◌, ◌%◌, length, refl, arith, inl, inr}
use Rattle.std.specs.Prelude.{if◌then◌else◌}
use Rattle.std.proofs.lemmas.Bool.{cases_Bool}
use Rattle.lattice.specs.declared.point.Point.{Point}
use Rattle.terrain.specs.declared.brush.Mode.{Mode}
use Rattle.camera_script.specs.declared.commands.Command.{Command}
use Rattle.camera_script.specs.declared.commands.Command.TheVariants.{Event as AskedFor, Shot, Stats, Pick}
use Rattle.terrain.specs.declared.event.Event.{Event}
use Rattle.drills.specs.Drill.{after_draws, drill, edits_from, event_draws, event_from, event_of, mode_from, picked, picked_point}
use Rattle.drills.specs.declared.drill.TheConstants.{STATS_STEP}
use Rattle.drills.specs.declared.generator.TheConstants.{KINDS, MAX_EXTENT}
use Rattle.script_play.specs.Script.{NoneIsBare, events_of, is_bare}

-- each command is at most one event
pub few_events : (commands : List Command) → length (events_of commands) ≤ length commands
few_events [] = omega arith
few_events (AskedFor e ∷ commands) = omega (arith, few_events commands)
few_events (Shot normals ∷ commands) = omega (arith, few_events commands)
few_events (Stats ∷ commands) = omega (arith, few_events commands)
few_events (Pick x y ∷ commands) = omega (arith, few_events commands)

-- an event of a drill is an edit or a camera
drilled-edit : (events : List Event) (depth kind : ℕ) (mode : Mode) (at : Point) (extent : ℕ)
    → is_bare events (AskedFor (event_of depth kind mode at extent)) ≡ false
drilled-edit events depth kind mode at extent =
    elim (cases_Bool (kind == 0)) [
      | inl is ↦ rw is refl
      | inr other ↦ elim (cases_Bool (kind == 1)) [
        | inl is ↦ rw (other, is) refl
        | inr other-1 ↦ elim (cases_Bool (kind == 2)) [
          | inl is ↦ rw (other, other-1, is) refl
          | inr other-2 ↦ rw (other, other-1, other-2) refl
        ]
      ]
    ]

-- a line of stats undoes nothing
stats-edits : (events : List Event) (due : Bool) (rest : List Command)
    → ((later : List Event) → NoneIsBare later rest)
    → NoneIsBare events (if due then Stats ∷ rest else rest)
stats-edits events due rest edits =
    elim (cases_Bool due) [
      | inl is ↦ rw is (refl, edits (events ++ []))
      | inr other ↦ rw other (edits events)
    ]

-- the commands of a drill behind its ground undo nothing
edits_from-edits : (depth left done state : ℕ) (events : List Event)
    → NoneIsBare events (edits_from depth left done state)
edits_from-edits depth zero done state events = (refl, tt)
edits_from-edits depth (suc left) done state events =
    let rest = edits_from depth left (done + 1) (after_draws event_draws state) in (
      drilled-edit events depth (picked KINDS (after_draws 1 state))
          (mode_from (after_draws 2 state)) (picked_point depth (after_draws 2 state))
          (picked MAX_EXTENT (after_draws 6 state) + 1),
      stats-edits (events ++ event_from depth state ∷ []) ((done + 1) % STATS_STEP == 0) rest
          (edits_from-edits depth left (done + 1) (after_draws event_draws state)),
    )

-- so do all of them
pub drill-edits : (seed edits depth : ℕ) → NoneIsBare [] (drill seed edits depth)
drill-edits seed edits depth = (refl, edits_from-edits depth edits 0 seed _)
