-- Commands that are carried out one after another write what they are to write, part by part: the loop of
-- `write_output`, and the start of any engine.
-- What is left to write for the commands from a place on is what the command there writes and what is left after it. So
-- where it was carried out, what was written before goes on with it (Writes-next); where it stopped, all stops with a
-- first part (Writes-stops, stops-longer). At the start all is left (Writes-start).
use Rattle.std.proofs.Common.{◌≡◌, ℕ, ◌+◌, ◌<◌, false, List, [], ◌∷◌, ◌++◌, length, drop, get_or, refl, sym, ap, subst, ◌∙◌, append_assoc, length-append}
use Rattle.std.specs.Prelude.{Result, Ok, Err, IfErr}
use Rattle.std.proofs.lemmas.List.{drop_more}
use Rattle.terra_io.specs.Stream.{Stream}
use Rattle.camera_script.specs.declared.commands.Command.{Command}
use Rattle.terrain.specs.declared.event.Event.{Event}
use Rattle.mesh_out.specs.declared.fault.OutFault.{OutFault}
use Rattle.lattice.specs.declared.settings.Settings.{Settings}
use Rattle.script_play.specs.Engine.{EngineState, left_to_write}
use Rattle.script_play.specs.Output.{no_bases, output, output_after}
use Rattle.script_play.specs.Script.{NoneIsBare, events_by, events_of, is_bare}
use Rattle.mesh_out.specs.Writing.{StopsWriting, Writes}
use Rattle.terra_io.proofs.StreamLemmas.{Appends-trans}
use Rattle.mesh_out.proofs.WritingLemmas.{Appends-none, StopsWriting-longer, StopsWriting-rest}
use Rattle.script_play.proofs.StreamLemmas.{IsFaultless-trans}

-- more is written
pub Writes-more : (old mid new : Stream) (before between after : List ℕ)
    → Writes old mid before between → Writes mid new between after → Writes old new before after
Writes-more old mid new before between after first second = record {
  front = first.front ++ second.front;
  parts = rw append_assoc (first.parts ∙ ap (λ t. first.front ++ t) second.parts);
  appended =
      Appends-trans old mid new first.front second.front first.appended second.appended;
  faultless = IsFaultless-trans old mid new first.faultless second.faultless;
}

-- the commands from a place on are the one there and those from the next place on
module _ (commands : List Command) (i : ℕ) (d : Command) (inside : i < length commands) where
  -- the commands from a place on, by the one there
  here : drop i commands ≡ get_or commands i d ∷ drop (i + 1) commands
  here = drop_more commands i d inside

  -- the command at a place was carried out
  pub Writes-next : (old mid new : Stream) (before : List ℕ) (engine engine' : EngineState)
      → Writes old mid before (left_to_write engine (drop i commands))
      → ((rest : List Command) → Writes mid new
      (left_to_write engine (get_or commands i d ∷ rest)) (left_to_write engine' rest))
      → Writes old new before (left_to_write engine' (drop (i + 1) commands))
  Writes-next old mid new before engine engine' so_far step =
      let first = subst (λ cs. Writes old mid before (left_to_write engine cs)) here so_far in
      Writes-more old mid new before
      (left_to_write engine (get_or commands i d ∷ drop (i + 1) commands))
      (left_to_write engine' (drop (i + 1) commands)) first (step (drop (i + 1) commands))

  -- the command at a place stopped
  pub Writes-stops : (old mid new : Stream) (before : List ℕ) (engine : EngineState)
      (fault : OutFault)
      → Writes old mid before (left_to_write engine (drop i commands))
      → ((rest : List Command) → StopsWriting fault mid new
      (left_to_write engine (get_or commands i d ∷ rest)))
      → StopsWriting fault old new before
  Writes-stops old mid new before engine fault so_far stops =
      let first = subst (λ cs. Writes old mid before (left_to_write engine cs)) here so_far in
      StopsWriting-rest old mid new before
      (left_to_write engine (get_or commands i d ∷ drop (i + 1) commands)) first fault
      (stops (drop (i + 1) commands))

  -- how many events the commands from a place on are
  pub events-here : length (events_of (drop i commands))
      ≡ length (events_by (get_or commands i d)) + length (events_of (drop (i + 1) commands))
  events-here =
      ap (λ cs. length (events_of cs)) here
      ∙ length-append (events_by (get_or commands i d)) (events_of (drop (i + 1) commands))

  -- the one there undoes an edit if it is an undo, and so do those behind it
  pub edits-here : (events : List Event) → NoneIsBare events (drop i commands)
      → (is_bare events (get_or commands i d) ≡ false)
      × NoneIsBare (events ++ events_by (get_or commands i d)) (drop (i + 1) commands)
  edits-here events edits = subst (NoneIsBare events) here edits

-- what stops a part of a text stops all of it
pub stops-longer : (r : Result (Unit {0}) OutFault) (old new : Stream) (text : List ℕ)
    (more : List Command → List ℕ) → IfErr r (λ fault. StopsWriting fault old new text)
    → IfErr r (λ fault. (rest : List Command) → StopsWriting fault old new (text ++ more rest))
stops-longer (Ok done) old new text more stops = stops
stops-longer (Err fault) old new text more stops =
    λ rest. StopsWriting-longer fault old new text (more rest) stops

-- all of the output is left at the start
pub Writes-start : (s : Stream) (settings : Settings) (commands : List Command)
    (engine : EngineState) → engine.board.world.settings ≡ settings
    → engine.board.world.events ≡ [] → engine.shot ≡ 1 → engine.bases ≡ no_bases
    → Writes s s (output settings commands) (left_to_write engine commands)
Writes-start s settings commands engine rules none first written = record {
  front = [];
  parts = sym (λ i. output_after (rules i) (none i) (first i) (written i) commands);
  appended = Appends-none s;
  faultless = refl;
}
