-- What was carried out is a run as the table of statuses has it: the clause `table` of `run`.
-- Each request has a contract of its own, which says what was read and written under each status. Here that is put in
-- the one table: of a script in a form (Ran-plays), a drill (Ran-drilled) and several editors (Ran-edited), each with
-- the arguments that ask for it; and of arguments that ask for nothing, where nothing is read (Ran-refused).
use Rattle.std.proofs.Common.{ℕ, false, List, [], length, refl, sym, arith}
use Rattle.std.proofs.lemmas.Bool.{true≢false}
use Rattle.terra_io.specs.Stream.{Stream}
use Rattle.script_play.specs.declared.status.Status.{Status}
use Rattle.script_play.specs.declared.status.Status.TheVariants.{Done, NoMemory, BadWords, BadScript, ReadFault, WriteFault, JournalFull, InputLimit, NothingToUndo, BadWire, CutWire}
use Rattle.script_play.specs.Play.{Plays}
use Rattle.requests.specs.declared.form.Form.{Form}
use Rattle.requests.specs.declared.form.Form.TheVariants as forms
use Rattle.script_play.specs.Ending.{Ends, Run}
use Rattle.terra_run.specs.Run.{EndsFor, HasStatus, Ran, request_of}
use Rattle.requests.specs.Texts.{text_in}
use Rattle.arguments.specs.Drill.{IsDrill}
use Rattle.arguments.specs.Request.{AskFor, AskForNoTask}
use Rattle.arguments.specs.declared.drill.Drill.{Drill}
use Rattle.arguments.specs.declared.request.Request.TheVariants as requests
use Rattle.requests.specs.Drilled.{IsDrilled, drill_output}
use Rattle.script_play.specs.Script.{said_by}
use Rattle.mesh_out.proofs.WritingLemmas.{Appends-none}
use Rattle.script_play.proofs.StreamLemmas.{Yields-none}
use Rattle.arguments.specs.Editing.{IsEditing}
use Rattle.arguments.specs.declared.editing.Editing.{Editing}
use Rattle.requests.specs.Edited.{HaveEdited, edited_text}

-- ---- the whole run

-- a run in a form ends as what asks for it
ends-for : (form : Form) (run : Run) (status : Status)
    → Ends (text_in form run.ended run.said) run status → EndsFor (request_of form) run status
ends-for (forms.Text options) run status ends = ends
ends-for forms.Wire run status ends = ends

-- the status that it ends with
has_status : (arguments : List (List ℕ)) (form : Form) (run : Run) (status : Status)
    → AskFor arguments (request_of form) → Ends (text_in form run.ended run.said) run status
    → HasStatus arguments run status
has_status arguments form run Done asked ends =
    (request_of form, asked, ends-for form run Done ends)
has_status arguments form run NoMemory asked ends =
    (request_of form, asked, ends-for form run NoMemory ends)
has_status arguments form run BadWords asked ends = absurd ends
has_status arguments form run (BadScript line fault) asked ends =
    (request_of form, asked, ends-for form run (BadScript line fault) ends)
has_status arguments form run ReadFault asked ends =
    (request_of form, asked, ends-for form run ReadFault ends)
has_status arguments form run WriteFault asked ends =
    (request_of form, asked, ends-for form run WriteFault ends)
has_status arguments form run (JournalFull line) asked ends =
    (request_of form, asked, ends-for form run (JournalFull line) ends)
has_status arguments form run InputLimit asked ends =
    (request_of form, asked, ends-for form run InputLimit ends)
has_status arguments form run (NothingToUndo line) asked ends =
    (request_of form, asked, ends-for form run (NothingToUndo line) ends)
has_status arguments form run (BadWire at fault) asked ends = absurd ends
has_status arguments form run CutWire asked ends = absurd ends

-- a run that is asked for
pub Ran-plays : (arguments : List (List ℕ)) (form : Form)
    (source source' sink sink' : Stream) (status : Status) → AskFor arguments (request_of form)
    → Plays length said_by (text_in form) source source' sink sink' status
    → Ran arguments source source' sink sink' status
Ran-plays arguments form source source' sink sink' status asked plays = record {
  read = plays.more;
  ended = plays.ended;
  appended = plays.appended;
  taken = plays.taken;
  written = plays.written;
  within = plays.within;
  end = λ is. (plays.end is, plays.below is);
  table = has_status arguments form (record {
    source = source;
    source' = source';
    sink = sink;
    sink' = sink';
    count = length plays.more;
    ended = plays.ended;
    said = said_by plays.ended plays.more;
    appended = plays.appended;
  }) status asked plays.table;
}

-- other arguments
pub Ran-refused : (arguments : List (List ℕ)) (source sink : Stream) → AskForNoTask arguments
    → Ran arguments source source sink sink BadWords
Ran-refused arguments source sink other = record {
  read = [];
  ended = false;
  appended = [];
  taken = Yields-none source;
  written = Appends-none sink;
  within = omega arith;
  end = λ is. absurd (true≢false (sym is));
  table = (other, record { source = refl; sink = refl }, refl, refl);
}

-- a drill
pub Ran-drilled : (arguments : List (List ℕ)) (drill : Drill) (source sink sink' : Stream)
    (status : Status) → IsDrill arguments drill → IsDrilled drill sink sink' status
    → Ran arguments source source sink sink' status
Ran-drilled arguments drill source sink sink' Done asked drilled = record {
  read = [];
  ended = false;
  appended = drill_output drill;
  taken = Yields-none source;
  written = drilled.0;
  within = omega arith;
  end = λ is. absurd (true≢false (sym is));
  table = (requests.Drill drill, asked, (record { source = refl; sink = drilled.1 }, refl, refl));
}
Ran-drilled arguments drill source sink sink' NoMemory asked drilled = record {
  read = [];
  ended = false;
  appended = drilled.0.front;
  taken = Yields-none source;
  written = drilled.0.appended;
  within = omega arith;
  end = λ is. absurd (true≢false (sym is));
  table = (
    requests.Drill drill,
    asked,
    (
      record { source = refl; sink = drilled.1 },
      refl,
      record { rest = drilled.0.rest; prefix = drilled.0.parts },
    ),
  );
}
Ran-drilled arguments drill source sink sink' WriteFault asked drilled = record {
  read = [];
  ended = false;
  appended = drilled.0.front;
  taken = Yields-none source;
  written = drilled.0.appended;
  within = omega arith;
  end = λ is. absurd (true≢false (sym is));
  table = (
    requests.Drill drill,
    asked,
    (refl, drilled.1, refl, record { rest = drilled.0.rest; prefix = drilled.0.parts }),
  );
}
Ran-drilled arguments drill source sink sink' BadWords asked drilled = absurd drilled
Ran-drilled arguments drill source sink sink' (BadScript line fault) asked drilled = absurd drilled
Ran-drilled arguments drill source sink sink' ReadFault asked drilled = absurd drilled
Ran-drilled arguments drill source sink sink' (JournalFull line) asked drilled = absurd drilled
Ran-drilled arguments drill source sink sink' InputLimit asked drilled = absurd drilled
Ran-drilled arguments drill source sink sink' (NothingToUndo line) asked drilled = absurd drilled
Ran-drilled arguments drill source sink sink' (BadWire at fault) asked drilled = absurd drilled
Ran-drilled arguments drill source sink sink' CutWire asked drilled = absurd drilled

-- ---- several editors

-- the run of several editors, by how they ended
pub Ran-edited : (arguments : List (List ℕ)) (asked : Editing) (source sink sink' : Stream)
    (status : Status) → IsEditing arguments asked → HaveEdited asked sink sink' status
    → Ran arguments source source sink sink' status
Ran-edited arguments asked source sink sink' Done grammar edited = record {
  read = [];
  ended = false;
  appended = edited_text asked edited.0;
  taken = Yields-none source;
  written = edited.2.0;
  within = omega arith;
  end = λ is. absurd (true≢false (sym is));
  table = (
    requests.Edit asked,
    grammar,
    (edited.0, edited.1, (record { source = refl; sink = edited.2.1 }, refl, refl)),
  );
}
Ran-edited arguments asked source sink sink' NoMemory grammar edited = record {
  read = [];
  ended = false;
  appended = edited.2.0.front;
  taken = Yields-none source;
  written = edited.2.0.appended;
  within = omega arith;
  end = λ is. absurd (true≢false (sym is));
  table = (
    requests.Edit asked,
    grammar,
    (
      edited.0,
      edited.1,
      (
        record { source = refl; sink = edited.2.1 },
        refl,
        record { rest = edited.2.0.rest; prefix = edited.2.0.parts },
      ),
    ),
  );
}
Ran-edited arguments asked source sink sink' WriteFault grammar edited = record {
  read = [];
  ended = false;
  appended = edited.2.0.front;
  taken = Yields-none source;
  written = edited.2.0.appended;
  within = omega arith;
  end = λ is. absurd (true≢false (sym is));
  table = (
    requests.Edit asked,
    grammar,
    (
      edited.0,
      edited.1,
      (
        refl,
        edited.2.1,
        refl,
        record { rest = edited.2.0.rest; prefix = edited.2.0.parts },
      ),
    ),
  );
}
Ran-edited arguments asked source sink sink' BadWords grammar edited = absurd edited.2
Ran-edited arguments asked source sink sink' (BadScript line fault) grammar edited =
    absurd edited.2
Ran-edited arguments asked source sink sink' ReadFault grammar edited = absurd edited.2
Ran-edited arguments asked source sink sink' (JournalFull line) grammar edited = absurd edited.2
Ran-edited arguments asked source sink sink' InputLimit grammar edited = absurd edited.2
Ran-edited arguments asked source sink sink' (NothingToUndo line) grammar edited =
    absurd edited.2
Ran-edited arguments asked source sink sink' (BadWire at fault) grammar edited =
    absurd edited.2
Ran-edited arguments asked source sink sink' CutWire grammar edited = absurd edited.2
