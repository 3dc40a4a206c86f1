-- What each status of a run says: the table of statuses. This project's rule.
use Rattle.std.specs.Prelude.{◌≡◌, ℕ, ◌<◌, ◌≤◌, ◌⊎◌, Bool, true, List, [], length, take, Option, Some, None}
use Rattle.std.specs.Io.KnownBytes.{IsAtEnd}
use Rattle.terra_io.specs.Stream.{Stream, Yields, Appends, AppendsPrefix, IsFaultless, HasFailed}
use Rattle.script_play.specs.declared.refusal.TheConstants.{INPUT_LIMIT}
use Rattle.script_play.specs.declared.status.Status.{Status}
use Rattle.script_play.specs.declared.status.Status.TheVariants.{Done, NoMemory, BadWords, BadScript, WriteFault, JournalFull, InputLimit, NothingToUndo}
use Rattle.script_play.specs.Script.{Refusal, Fault, Full, Bare, said_by, script, script_so_far}
use Rattle.script_play.specs.Ending.{Ends, IsCalm, Run, WritesPrefix, wire_of}
use Rattle.requests.specs.Texts.{output_in, text_in, text_of}
use Rattle.requests.specs.Drilled.{drill_output}
use Rattle.requests.specs.Edited.{AreEditors, edited_text}
use Rattle.arguments.specs.Request.{AskFor, AskForNoTask}
use Rattle.arguments.specs.declared.request.Request.{Request}
use Rattle.arguments.specs.declared.request.Request.TheVariants as requests
use Rattle.requests.specs.declared.form.Form.{Form}
use Rattle.requests.specs.declared.form.Form.TheVariants as forms

-- what asks for a run in a form
abbrev pub request_of : Form → Request
request_of (forms.Text options) = requests.Run options
request_of forms.Wire = requests.Wire

-- When each status of a run comes that reads nothing, and what of its text was appended under it.
abbrev pub EndsUnread : List ℕ → Run → Status → Type 0
EndsUnread text run Done = IsCalm run × (run.count ≡ 0) × (run.appended ≡ text)
EndsUnread text run NoMemory = IsCalm run × (run.count ≡ 0) × WritesPrefix text run
EndsUnread text run WriteFault =
    IsFaultless run.source run.source' × HasFailed run.sink run.sink' × (run.count ≡ 0)
    × WritesPrefix text run
EndsUnread text run status = ⊥

-- when each status comes of a run that is asked for this; a mirror has a table of its own
abbrev pub EndsFor : Request → Run → Status → Type 0
EndsFor requests.Help run status = ⊥
EndsFor requests.Version run status = ⊥
EndsFor (requests.Run options) run status =
    Ends (text_of options run.ended run.said) run status
EndsFor (requests.Drill drill) run status = EndsUnread (drill_output drill) run status
EndsFor (requests.Edit asked) run status =
    (owners : List ℕ) × AreEditors asked owners
    × EndsUnread (edited_text asked owners) run status
EndsFor requests.Wire run status = Ends (wire_of run.said) run status
EndsFor requests.Mirror run status = ⊥

-- arguments that ask for nothing that a run carries out come first, and then nothing is read or written
abbrev pub HasStatus : List (List ℕ) → Run → Status → Type 0
HasStatus arguments run BadWords =
    AskForNoTask arguments × IsCalm run × (run.count ≡ 0) × (run.appended ≡ [])
HasStatus arguments run status =
    (request : Request) × AskFor arguments request × EndsFor request run status

-- these bytes were taken and those appended, and the status is the one for it
pub record Ran (arguments : List (List ℕ)) (source source' sink sink' : Stream)
    (status : Status) : Type 0 where
  pub read : List ℕ
  pub ended : Bool
  pub appended : List ℕ
  pub taken : Yields source source' read
  pub written : Appends sink sink' appended
  pub within : length read ≤ INPUT_LIMIT
  pub end : ended ≡ true → IsAtEnd source'.bytes × (length read < INPUT_LIMIT)
  pub table : HasStatus arguments (record {
    source = source;
    source' = source';
    sink = sink;
    sink' = sink';
    count = length read;
    ended = ended;
    said = said_by ended read;
    appended = appended;
  }) status

-- ---- the status for each way in which a part of a run ends

-- of a run that read its input to the end
abbrev pub status_of : Option Refusal → Status
status_of None = Done
status_of (Some (Fault line fault)) = BadScript line fault
status_of (Some (Full line)) = JournalFull line
status_of (Some (Bare line)) = NothingToUndo line

-- of one that read all bytes that it may
abbrev pub status_at_limit : Option Refusal → Status
status_at_limit None = InputLimit
status_at_limit (Some (Fault line fault)) = BadScript line fault
status_at_limit (Some (Full line)) = JournalFull line
status_at_limit (Some (Bare line)) = NothingToUndo line

-- ---- the other way round, where the source tells its bytes: the status unless memory runs out or a call fails

-- the status is this one, and the text was appended; or memory ran out, and a first part of it was
abbrev pub IsStatus : Status → List ℕ → Stream → Stream → Status → Type 0
IsStatus this text sink sink' status =
    ((status ≡ this) × Appends sink sink' text)
    ⊎ ((status ≡ NoMemory) × AppendsPrefix sink sink' text)

-- of an input below the limit, what it says
abbrev pub IsExact : List (List ℕ) → Stream → Stream → Stream → Stream → Status → Type 0
IsExact arguments source source' sink sink' status =
    (input : List ℕ) → source.bytes ≡ Some input → length input < INPUT_LIMIT
    → (form : Form) → AskFor arguments (request_of form)
    → (HasFailed source source' → ⊥) → (HasFailed sink sink' → ⊥)
    → IsStatus (status_of (script input).refusal) (text_in form true (script input)) sink sink'
    status

-- of a longer one, what its first bytes say, and the limit where they say no refusal
abbrev pub IsExactAtLimit : List (List ℕ) → Stream → Stream → Stream → Stream → Status → Type 0
IsExactAtLimit arguments source source' sink sink' status =
    (input : List ℕ) → source.bytes ≡ Some input → INPUT_LIMIT ≤ length input
    → (form : Form) → AskFor arguments (request_of form)
    → (HasFailed source source' → ⊥) → (HasFailed sink sink' → ⊥)
    → let said = script_so_far (take INPUT_LIMIT input) in
    IsStatus (status_at_limit said.refusal) (output_in form said) sink sink' status
