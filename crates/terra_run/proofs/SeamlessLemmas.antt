-- What a run writes is of meshes without a crack: the clause `seamless` of `run`.
--
-- Each output command writes a text of the mesh from scratch of a history, which is seamless (`output-seamless`), and
-- behind the output there is nothing, or the line of the watchers (`closing-is`). The table of statuses says of each
-- status that all of a text was written, or a first part of it (`ends-prefix`, `unread-prefix`). So whatever was asked
-- for but a wire, and however it ended, what was written is a first part of such a text (`seamless-written`).
use Rattle.std.proofs.Common.{◌≡◌, ◌≢◌, ℕ, ◌+◌, ◌*◌, Bool, true, false, List, [], ◌∷◌, ◌++◌, refl, sym, ap, subst, ◌∙◌, inl, inr}
use Rattle.std.specs.Prelude.{Option, Some, None, if◌then◌else◌, nat_eq}
use Rattle.std.proofs.lemmas.List.{append-nil}
use Rattle.lattice.specs.declared.settings.Settings.{Settings}
use Rattle.terrain.specs.declared.event.Event.{Event}
use Rattle.camera_script.specs.declared.commands.Command.{Command}
use Rattle.camera_script.specs.declared.commands.Command.TheVariants as commands
use Rattle.terrain.specs.Blocks.{scratch}
use Rattle.snapshots.specs.Seamless.{IsSeamless}
use Rattle.snapshots.specs.Stats.{stats_of}
use Rattle.surface_query.specs.declared.bases.Bases.{Bases}
use Rattle.mesh_out.specs.Text.{stats_text, watch_text}
use Rattle.drills.specs.Drill.{drill}
use Rattle.drills.specs.declared.drill.TheConstants.{DRILL_REACH}
use Rattle.arguments.specs.declared.options.Options.{Options}
use Rattle.arguments.specs.Request.{AskFor}
use Rattle.arguments.specs.declared.request.Request.{Request}
use Rattle.arguments.specs.declared.request.Request.TheVariants as requests
use Rattle.terra_io.specs.Stream.{Stream}
use Rattle.script_play.specs.declared.status.Status.{Status}
use Rattle.script_play.specs.declared.status.Status.TheVariants.{Done, NoMemory, BadWords, BadScript, ReadFault, WriteFault, JournalFull, InputLimit, NothingToUndo, BadWire, CutWire}
use Rattle.requests.specs.Drilled.{drill_output}
use Rattle.requests.specs.Edited.{edited_journal, edited_text, edited_world, owner_lines}
use Rattle.script_play.specs.Output.{bases_after, no_bases, output_after, pick_after, shot_after}
use Rattle.script_play.specs.Ending.{Ends, Run, WritesPrefix, output_of}
use Rattle.terra_run.specs.Run.{EndsFor, EndsUnread, HasStatus, Ran}
use Rattle.requests.specs.Texts.{closing, text_of}
use Rattle.script_play.specs.Script.{Refusal}
use Rattle.terra_run.specs.SeamlessOutput.{IsClosing, IsOwnerText, IsSeamlessOutput, IsShotOf, ShowsSeamless, WritesSeamless, of_pick, of_shot, of_stats}

-- ---- what was written is a first part of a text

-- a text that was written whole is a first part of itself
whole : (text : List ℕ) (run : Run) → run.appended ≡ text → WritesPrefix text run
whole text run is = record { rest = []; prefix = sym is ∙ sym (append-nil run.appended) }

-- under each status of a run that reads a script
ends-prefix : (text : List ℕ) (run : Run) (status : Status) → Ends text run status
    → WritesPrefix text run
ends-prefix text run Done ends = whole text run ends.2.appended
ends-prefix text run NoMemory ends = ends.1
ends-prefix text run BadWords ends = absurd ends
ends-prefix text run (BadScript line fault) ends = whole text run ends.1.appended
ends-prefix text run ReadFault ends = whole text run ends.3.appended
ends-prefix text run WriteFault ends = ends.2
ends-prefix text run (JournalFull line) ends = whole text run ends.1.appended
ends-prefix text run InputLimit ends = whole text run ends.3.appended
ends-prefix text run (NothingToUndo line) ends = whole text run ends.1.appended
ends-prefix text run (BadWire at fault) ends = absurd ends
ends-prefix text run CutWire ends = absurd ends

-- and of one that reads nothing
unread-prefix : (text : List ℕ) (run : Run) (status : Status) → EndsUnread text run status
    → WritesPrefix text run
unread-prefix text run Done ends = whole text run ends.2
unread-prefix text run NoMemory ends = ends.2
unread-prefix text run BadWords ends = absurd ends
unread-prefix text run (BadScript line fault) ends = absurd ends
unread-prefix text run ReadFault ends = absurd ends
unread-prefix text run WriteFault ends = ends.3
unread-prefix text run (JournalFull line) ends = absurd ends
unread-prefix text run InputLimit ends = absurd ends
unread-prefix text run (NothingToUndo line) ends = absurd ends
unread-prefix text run (BadWire at fault) ends = absurd ends
unread-prefix text run CutWire ends = absurd ends

-- ---- what comes behind the output

-- nothing, where a test passes, and else the line of so many looks
line-is : (b : Bool) (looks : ℕ)
    → IsClosing (if b then [] else watch_text (record { looks = looks; cracks = 0; backward = 0 }))
line-is true looks = inl refl
line-is false looks = inr (looks, refl)

-- behind a script's output
closing-is : (options : Options) (refusal : Option Refusal) (ended : Bool)
    → IsClosing (closing options refusal ended)
closing-is options None true =
    line-is (nat_eq options.watchers 0) (options.watchers * options.looks)
closing-is options None false = inl refl
closing-is options (Some refusal) ended = inl refl

-- ---- a whole run

-- a first part of an output of seamless meshes, of what opens it and of what closes it
record IsSeamlessPart (run : Run) : Type 0 where
  opening : List ℕ
  output : List ℕ
  close : List ℕ
  opens : IsOwnerText opening
  seamless : IsSeamlessOutput output
  closes : IsClosing close
  prefix : WritesPrefix (opening ++ output ++ close) run

module _ (law : (rules : Settings) (history : List Event) → IsSeamless rules history) where
  -- a shot is of seamless meshes
  shot-shows : (rules : Settings) (events : List Event) (number : ℕ) (bases : Bases)
      (normals : Bool) → IsShotOf (shot_after rules events number bases normals) rules events
      (scratch rules events)
  shot-shows rules events number bases true =
      record { number = number; bases = bases; shot = inr refl }
  shot-shows rules events number bases false =
      record { number = number; bases = bases; shot = inl refl }

  -- commands write shots, lines of stats and picks of seamless meshes
  output-seamless : (rules : Settings) (events : List Event) (number : ℕ) (bases : Bases)
      (some : List Command) → IsSeamlessOutput (output_after rules events number bases some)
  output-seamless rules events number bases [] =
      record { parts = []; joined = refl; seamless = tt }
  output-seamless rules events number bases (commands.Event event ∷ rest) =
      output-seamless rules (events ++ event ∷ []) number bases rest
  output-seamless rules events number bases (commands.Shot normals ∷ rest) =
      let meshes = scratch rules events in
      let text = shot_after rules events number bases normals in
      let later =
      output-seamless rules events (number + 1) (bases_after bases normals meshes) rest in
      let shows : ShowsSeamless text = record {
        rules = rules;
        history = events;
        meshes = meshes;
        seamless = law rules events;
        shows = of_shot (shot-shows rules events number bases normals);
      } in record {
        parts = text ∷ later.parts;
        joined = ap (λ t. text ++ t) later.joined;
        seamless = (shows, later.seamless);
      }
  output-seamless rules events number bases (commands.Stats ∷ rest) =
      let meshes = scratch rules events in
      let text = stats_text (stats_of meshes) in
      let later = output-seamless rules events number bases rest in
      let shows : ShowsSeamless text = record {
        rules = rules;
        history = events;
        meshes = meshes;
        seamless = law rules events;
        shows = of_stats refl;
      } in record {
        parts = text ∷ later.parts;
        joined = ap (λ t. text ++ t) later.joined;
        seamless = (shows, later.seamless);
      }
  output-seamless rules events number bases (commands.Pick x y ∷ rest) =
      let text = pick_after rules events x y in
      let later = output-seamless rules events number bases rest in
      let shows : ShowsSeamless text = record {
        rules = rules;
        history = events;
        meshes = scratch rules events;
        seamless = law rules events;
        shows = of_pick (record { x = x; y = y; pick = refl });
      } in record {
        parts = text ∷ later.parts;
        joined = ap (λ t. text ++ t) later.joined;
        seamless = (shows, later.seamless);
      }

  -- by what was asked for
  asked-seamless : (request : Request) (run : Run) (status : Status) → (request ≢ requests.Wire)
      → EndsFor request run status → IsSeamlessPart run
  asked-seamless requests.Help run status text ends = absurd ends
  asked-seamless requests.Version run status text ends = absurd ends
  asked-seamless (requests.Run options) run status text ends = record {
    opening = [];
    opens = inl refl;
    output = output_of run.said;
    close = closing options run.said.refusal run.ended;
    seamless = output-seamless run.said.settings [] 1 no_bases run.said.commands;
    closes = closing-is options run.said.refusal run.ended;
    prefix = ends-prefix (text_of options run.ended run.said) run status ends;
  }
  asked-seamless requests.Wire run status text ends = absurd (text refl)
  asked-seamless requests.Mirror run status text ends = absurd ends
  asked-seamless (requests.Drill asked) run status text ends =
      let part = unread-prefix (drill_output asked) run status ends in
      let rules : Settings = record { depth = asked.depth; reach = DRILL_REACH } in record {
        opening = [];
        opens = inl refl;
        output = drill_output asked;
        close = [];
        seamless = output-seamless rules [] 1 no_bases
            (drill asked.seed asked.edits asked.depth);
        closes = inl refl;
        prefix = record {
          rest = part.rest;
          prefix = append-nil (drill_output asked) ∙ part.prefix;
        };
      }
  asked-seamless (requests.Edit asked) run status text ends =
      let owners = ends.0 in
      let rules = edited_world asked in
      let events = edited_journal asked owners in
      let line = stats_text (stats_of (scratch rules events)) in
      let part = unread-prefix (edited_text asked owners) run status ends.2 in record {
        opening = owner_lines owners;
        output = line ++ [];
        close = [];
        opens = inr (owners, refl);
        seamless = output-seamless rules events 1 no_bases (commands.Stats ∷ []);
        closes = inl refl;
        prefix = record {
          rest = part.rest;
          prefix = append-nil (owner_lines owners ++ (line ++ []))
              ∙ ap (λ t. owner_lines owners ++ t) (append-nil line) ∙ part.prefix;
        };
      }

  -- by the status
  status-seamless : (arguments : List (List ℕ)) (run : Run) (status : Status)
      → (AskFor arguments requests.Wire → ⊥) → HasStatus arguments run status
      → IsSeamlessPart run
  status-seamless arguments run BadWords text has = record {
    opening = [];
    opens = inl refl;
    output = [];
    close = [];
    seamless = record { parts = []; joined = refl; seamless = tt };
    closes = inl refl;
    prefix = whole [] run has.3;
  }
  status-seamless arguments run Done text has =
      asked-seamless has.0 run Done
      (λ is. text (subst (AskFor arguments) is has.1)) has.2
  status-seamless arguments run NoMemory text has =
      asked-seamless has.0 run NoMemory
      (λ is. text (subst (AskFor arguments) is has.1)) has.2
  status-seamless arguments run (BadScript line fault) text has =
      asked-seamless has.0 run (BadScript line fault)
      (λ is. text (subst (AskFor arguments) is has.1)) has.2
  status-seamless arguments run ReadFault text has =
      asked-seamless has.0 run ReadFault
      (λ is. text (subst (AskFor arguments) is has.1)) has.2
  status-seamless arguments run WriteFault text has =
      asked-seamless has.0 run WriteFault
      (λ is. text (subst (AskFor arguments) is has.1)) has.2
  status-seamless arguments run (JournalFull line) text has =
      asked-seamless has.0 run (JournalFull line)
      (λ is. text (subst (AskFor arguments) is has.1)) has.2
  status-seamless arguments run InputLimit text has =
      asked-seamless has.0 run InputLimit
      (λ is. text (subst (AskFor arguments) is has.1)) has.2
  status-seamless arguments run (NothingToUndo line) text has =
      asked-seamless has.0 run (NothingToUndo line)
      (λ is. text (subst (AskFor arguments) is has.1)) has.2
  status-seamless arguments run (BadWire at fault) text has =
      asked-seamless has.0 run (BadWire at fault)
      (λ is. text (subst (AskFor arguments) is has.1)) has.2
  status-seamless arguments run CutWire text has =
      asked-seamless has.0 run CutWire
      (λ is. text (subst (AskFor arguments) is has.1)) has.2

  -- what a run writes is of meshes without a crack
  pub seamless-written : (arguments : List (List ℕ)) (source source' sink sink' : Stream)
      (status : Status) → (AskFor arguments requests.Wire → ⊥)
      → Ran arguments source source' sink sink' status → WritesSeamless sink sink'
  seamless-written arguments source source' sink sink' status text ran =
      let part = status-seamless arguments _ status text ran.table in record {
        opening = part.opening;
        output = part.output;
        closing = part.close;
        opens = part.opens;
        seamless = part.seamless;
        closes = part.closes;
        written = record {
          front = ran.appended;
          rest = part.prefix.rest;
          parts = part.prefix.prefix;
          appended = ran.written;
        };
      }
