-- A script says one thing, and so a run has one status unless memory runs out or a call fails: the clauses `exact` and
-- `limit` of `run`.
-- The table of statuses says of each status what was read and appended. A source that tells its bytes tells whether all
-- of them were read (given_whole). Then what was read says what all says, or all goes on with it (SaysMore, from
-- said-extend). So row by row: a refusal that was found is the refusal of all, no refusal at the end is none of all,
-- and a first part of the output is a first part of the whole (exact-same, exact-refused, exact-prefix). The rows are
-- put together for a run that saw the end (exact-ended) and for one that didn't (exact-open); at the bottom the two
-- clauses (exact-below, exact-above).
use Rattle.std.proofs.Common.{◌≡◌, ◌≢◌, ℕ, ◌<◌, ◌≤◌, ◌⊎◌, Bool, true, false, List, [], ◌++◌, length, take, drop, refl, sym, ap, subst, ◌∙◌, arith, inl, inr, length-append, append_assoc}
use Rattle.std.specs.Prelude.{Option, Some, None}
use Rattle.std.specs.Io.KnownBytes.{IsAtEnd, prepend_known}
use Rattle.std.proofs.lemmas.Bool.{cases_Bool, true≢false}
use Rattle.std.proofs.lemmas.Option.{same_Some, none-some}
use Rattle.std.proofs.lemmas.List.{append-nil, take-append-drop, take-take, take_at}
use Rattle.terra_io.specs.Stream.{Stream, Appends, HasFailed}
use Rattle.script_play.specs.declared.refusal.TheConstants.{INPUT_LIMIT}
use Rattle.script_play.specs.declared.status.Status.{Status}
use Rattle.script_play.specs.declared.status.Status.TheVariants.{Done, NoMemory, BadWords, BadScript, ReadFault, WriteFault, JournalFull, InputLimit, NothingToUndo, BadWire, CutWire}
use Rattle.arguments.specs.Request.{AskFor, AskForNoTask, IsTask}
use Rattle.arguments.specs.declared.request.Request.{Request}
use Rattle.arguments.specs.declared.request.Request.TheVariants as requests
use Rattle.script_play.specs.Script.{Bare, Fault, Full, Refusal, Said, said_by, script, script_so_far}
use Rattle.script_play.specs.Ending.{Ends, Run, WritesPrefix, WritesText}
use Rattle.terra_run.specs.Run.{EndsFor, HasStatus, IsExact, IsExactAtLimit, IsStatus, Ran, request_of, status_at_limit, status_of}
use Rattle.requests.specs.Texts.{closing, output_in, text_in}
use Rattle.requests.specs.declared.form.Form.{Form}
use Rattle.requests.specs.declared.form.Form.TheVariants as forms
use Rattle.requests.proofs.ClosingLemmas.{closing-open as closing-open-of}
use Rattle.terra_run.proofs.ExtendLemmas.{SaysMore, said-extend}

-- ---- what a source that tells its bytes gave

-- what was read is a first part of the input, and the rest is left
given : (input read : List ℕ) (left : Option (List ℕ)) → Some input ≡ prepend_known read left
    → (rest : List ℕ) × (left ≡ Some rest) × (input ≡ read ++ rest)
given input read None taken = absurd (none-some input (sym taken))
given input read (Some rest) taken = (rest, refl, same_Some input (read ++ rest) taken)

-- all of it, where nothing is left
given_whole : (input read : List ℕ) (left : Option (List ℕ)) → Some input ≡ prepend_known read left
    → IsAtEnd left → read ≡ input
given_whole input read left taken end =
    let g = given input read left taken in
    let none : g.0 ≡ [] = subst IsAtEnd g.1 end in
    sym (g.2 ∙ ap (λ rest. read ++ rest) none ∙ append-nil read)

-- no more was read than there is
given_part : (input read : List ℕ) (left : Option (List ℕ)) → Some input ≡ prepend_known read left
    → length read ≤ length input
given_part input read left taken =
    let g = given input read left taken in
    let long = ap length g.2 in
    omega (arith, long, length-append read g.0)

-- ---- the one status

-- the status is this one, and the text was appended; or memory ran out
Exact : Run → Status → List ℕ → Status → Type 0
Exact run this text status =
    ((status ≡ this) × (run.appended ≡ text))
    ⊎ ((status ≡ NoMemory) × ((rest : List ℕ) × (text ≡ run.appended ++ rest)))

-- all that is said was read
exact-same : (form : Form) (run : Run) (all : Said) (of : Option Refusal → Status)
    (found : Option Refusal)
    → WritesText (output_in form run.said) run found → all ≡ run.said
    → Exact run (of all.refusal) (output_in form all) (of found)
unfolding Exact
exact-same form run all of found writes same = inl (
  ap of (sym writes.said ∙ ap (λ said. said.refusal) (sym same)),
  writes.appended ∙ ap (output_in form) (sym same),
)

-- what was read is refused, and so is all that is said
exact-refused : (form : Form) (run : Run) (all : Said) (of : Option Refusal → Status)
    (found : Refusal)
    → WritesText (output_in form run.said) run (Some found) → SaysMore form run.said all
    → Exact run (of all.refusal) (output_in form all) (of (Some found))
unfolding SaysMore
exact-refused form run all of found writes (inl same) = exact-same form run all of
    (Some found) writes same
exact-refused form run all of found writes (inr more) =
    absurd (none-some found (sym more.0 ∙ writes.said))

-- memory ran out
exact-prefix : (form : Form) (run : Run) (all : Said) (this : Status) → WritesPrefix
    (output_in form run.said) run
    → SaysMore form run.said all → Exact run this (output_in form all) NoMemory
unfolding Exact SaysMore
exact-prefix form run all this writes (inl same) =
    inr (refl, (writes.rest, ap (output_in form) same ∙ writes.prefix))
exact-prefix form run all this writes (inr more) =
    inr (
      refl,
      (
        writes.rest ++ more.1.0,
        more.1.1 ∙ ap (λ t. t ++ more.1.0) writes.prefix
            ∙ append_assoc run.appended writes.rest more.1.0,
      ),
    )

-- the end wasn't seen: the status is that of all that is said (`of`), or the limit, and the text the output alone
exact-open : (form : Form) (run : Run) (status : Status) (all : Said) (of : Option Refusal → Status)
    → Ends (output_in form run.said) run status → SaysMore form run.said all → run.ended ≡ false
    → ((found : Refusal) → of (Some found) ≡ status_of (Some found))
    → (run.count ≡ INPUT_LIMIT → (all ≡ run.said) × (of None ≡ InputLimit))
    → (HasFailed run.source run.source' → ⊥) → (HasFailed run.sink run.sink' → ⊥)
    → Exact run (of all.refusal) (output_in form all) status
exact-open form run Done all of ends more open_end refused limit calm calm' =
    absurd (true≢false (sym ends.1 ∙ open_end))
exact-open form run NoMemory all of ends more open_end refused limit calm calm' =
    exact-prefix form run all (of all.refusal) ends.1 more
exact-open form run BadWords all of ends more open_end refused limit calm calm' = absurd ends
exact-open form run (BadScript line fault) all of ends more open_end refused limit calm calm' =
    subst (Exact run (of all.refusal) (output_in form all)) (refused (Fault line fault))
    (exact-refused form run all of (Fault line fault) ends.1 more)
exact-open form run ReadFault all of ends more open_end refused limit calm calm' =
    absurd (calm ends.0)
exact-open form run WriteFault all of ends more open_end refused limit calm calm' =
    absurd (calm' ends.1)
exact-open form run (JournalFull line) all of ends more open_end refused limit calm calm' =
    subst (Exact run (of all.refusal) (output_in form all)) (refused (Full line))
    (exact-refused form run all of (Full line) ends.1 more)
exact-open form run InputLimit all of ends more open_end refused limit calm calm' =
    let at_limit = limit ends.2 in
    subst (Exact run (of all.refusal) (output_in form all)) at_limit.1
    (exact-same form run all of None ends.3 at_limit.0)
exact-open form run (NothingToUndo line) all of ends more open_end refused limit calm calm' =
    subst (Exact run (of all.refusal) (output_in form all)) (refused (Bare line))
    (exact-refused form run all of (Bare line) ends.1 more)
exact-open form run (BadWire at fault) all of ends more open_end refused limit calm calm' =
    absurd ends
exact-open form run CutWire all of ends more open_end refused limit calm calm' = absurd ends

-- the end was seen
exact-ended : (text : List ℕ) (run : Run) (status : Status) (all : Said) → Ends text run status
    → all ≡ run.said → run.count < INPUT_LIMIT
    → (HasFailed run.source run.source' → ⊥) → (HasFailed run.sink run.sink' → ⊥)
    → Exact run (status_of all.refusal) text status
unfolding Exact
exact-ended text run Done all ends same below calm calm' =
    inl (sym (ap (λ s. status_of s.refusal) same ∙ ap status_of ends.2.said), ends.2.appended)
exact-ended text run NoMemory all ends same below calm calm' =
    inr (refl, (ends.1.rest, ends.1.prefix))
exact-ended text run BadWords all ends same below calm calm' = absurd ends
exact-ended text run (BadScript line fault) all ends same below calm calm' =
    inl (sym (ap (λ s. status_of s.refusal) same ∙ ap status_of ends.1.said), ends.1.appended)
exact-ended text run ReadFault all ends same below calm calm' = absurd (calm ends.0)
exact-ended text run WriteFault all ends same below calm calm' = absurd (calm' ends.1)
exact-ended text run (JournalFull line) all ends same below calm calm' =
    inl (sym (ap (λ s. status_of s.refusal) same ∙ ap status_of ends.1.said), ends.1.appended)
exact-ended text run InputLimit all ends same below calm calm' =
    let limit = ends.2 in
    absurd (omega (arith, limit, below))
exact-ended text run (NothingToUndo line) all ends same below calm calm' =
    inl (sym (ap (λ s. status_of s.refusal) same ∙ ap status_of ends.1.said), ends.1.appended)
exact-ended text run (BadWire at fault) all ends same below calm calm' = absurd ends
exact-ended text run CutWire all ends same below calm calm' = absurd ends

-- ---- the text of a run in a form

-- what comes behind the output
closing_in : Form → Option Refusal → Bool → List ℕ
closing_in (forms.Text options) refusal ended = closing options refusal ended
closing_in forms.Wire refusal ended = []

-- the text is the output and that
text-joined : (form : Form) (ended : Bool) (said : Said)
    → text_in form ended said ≡ output_in form said ++ closing_in form said.refusal ended
unfolding closing_in
text-joined (forms.Text options) ended said = refl
text-joined forms.Wire ended said = sym (append-nil (output_in forms.Wire said))

-- it is the output where nothing comes behind
text-alone : (form : Form) (ended : Bool) (said : Said)
    → closing_in form said.refusal ended ≡ [] → text_in form ended said ≡ output_in form said
text-alone form ended said none =
    text-joined form ended said ∙ ap (λ t. output_in form said ++ t) none
    ∙ append-nil (output_in form said)

-- so it is where the end wasn't seen
closing-open : (form : Form) (refusal : Option Refusal) (ended : Bool) → ended ≡ false
    → closing_in form refusal ended ≡ []
unfolding closing_in
closing-open (forms.Text options) refusal ended is = closing-open-of options refusal ended is
closing-open forms.Wire refusal ended is = refl

-- and where a line is refused
closing-refused : (form : Form) (refusal : Refusal) → closing_in form (Some refusal) true ≡ []
unfolding closing_in
closing-refused (forms.Text options) refusal = refl
closing-refused forms.Wire refusal = refl

-- a status of the output alone is one of the text, where it isn't Done
closing_none : (form : Form) (found : Option Refusal) (status : Status)
    → status ≡ status_of found → (status ≢ Done) → closing_in form found true ≡ []
closing_none form None status is other = absurd (other is)
closing_none form (Some refusal) status is other = closing-refused form refusal

-- what is exact of the output is exact of the text, where the run isn't done
exact-text : (form : Form) (run : Run) (all : Said) (status : Status) → (status ≢ Done)
    → Exact run (status_of all.refusal) (output_in form all) status
    → Exact run (status_of all.refusal) (text_in form true all) status
unfolding Exact
exact-text form run all status other (inl whole) = inl (
  whole.0,
  whole.1
      ∙ sym (text-alone form true all (closing_none form all.refusal status whole.0 other)),
)
exact-text form run all status other (inr part) =
    let more = closing_in form all.refusal true in
    inr (
      part.0,
      (
        part.1.0 ++ more,
        text-joined form true all ∙ ap (λ t. t ++ more) part.1.1
            ∙ append_assoc run.appended part.1.0 more,
      ),
    )

-- a run that didn't see the end isn't done
open_not_done : (text : List ℕ) (run : Run) (status : Status) → Ends text run status
    → run.ended ≡ false → status ≢ Done
open_not_done text run status ends open_end is =
    let done = subst (Ends text run) is ends in
    true≢false (sym done.1 ∙ open_end)

-- where the end wasn't seen, the text is the output
Ends-open : (form : Form) (run : Run) (status : Status)
    → Ends (text_in form run.ended run.said) run status → run.ended ≡ false
    → Ends (output_in form run.said) run status
Ends-open form run status ends open_end =
    subst (λ t. Ends t run status)
    (text-alone form run.ended run.said
    (closing-open form run.said.refusal run.ended open_end)) ends

-- arguments ask for one thing at most
abbrev pub IsOneRequest : List (List ℕ) → Type 0
IsOneRequest arguments =
    (one other : Request) → AskFor arguments one → AskFor arguments other → one ≡ other

-- a form is of a task
pub form-task : (form : Form) → IsTask (request_of form)
form-task (forms.Text options) = _
form-task forms.Wire = _

-- and its request ends as the form
ends-in : (form : Form) (run : Run) (status : Status) → EndsFor (request_of form) run status
    → Ends (text_in form run.ended run.said) run status
ends-in (forms.Text options) run status ends = ends
ends-in forms.Wire run status ends = ends

-- what the table says of the form that the arguments ask for
ends-of : (arguments : List (List ℕ)) (run : Run) (status : Status) (form : Form)
    → HasStatus arguments run status → AskFor arguments (request_of form) → IsOneRequest arguments
    → Ends (text_in form run.ended run.said) run status
ends-of arguments run Done form table grammar one =
    ends-in form run Done (subst (λ r. EndsFor r run Done)
    (one table.0 (request_of form) table.1 grammar) table.2)
ends-of arguments run NoMemory form table grammar one =
    ends-in form run NoMemory (subst (λ r. EndsFor r run NoMemory)
    (one table.0 (request_of form) table.1 grammar) table.2)
ends-of arguments run BadWords form table grammar one =
    absurd (table.0 (request_of form) (form-task form) grammar)
ends-of arguments run (BadScript line fault) form table grammar one =
    ends-in form run (BadScript line fault) (subst (λ r. EndsFor r run (BadScript line fault))
    (one table.0 (request_of form) table.1 grammar) table.2)
ends-of arguments run ReadFault form table grammar one =
    ends-in form run ReadFault (subst (λ r. EndsFor r run ReadFault)
    (one table.0 (request_of form) table.1 grammar) table.2)
ends-of arguments run WriteFault form table grammar one =
    ends-in form run WriteFault (subst (λ r. EndsFor r run WriteFault)
    (one table.0 (request_of form) table.1 grammar) table.2)
ends-of arguments run (JournalFull line) form table grammar one =
    ends-in form run (JournalFull line) (subst (λ r. EndsFor r run (JournalFull line))
    (one table.0 (request_of form) table.1 grammar) table.2)
ends-of arguments run InputLimit form table grammar one =
    ends-in form run InputLimit (subst (λ r. EndsFor r run InputLimit)
    (one table.0 (request_of form) table.1 grammar) table.2)
ends-of arguments run (NothingToUndo line) form table grammar one =
    ends-in form run (NothingToUndo line) (subst (λ r. EndsFor r run (NothingToUndo line))
    (one table.0 (request_of form) table.1 grammar) table.2)
ends-of arguments run (BadWire at fault) form table grammar one =
    ends-in form run (BadWire at fault) (subst (λ r. EndsFor r run (BadWire at fault))
    (one table.0 (request_of form) table.1 grammar) table.2)
ends-of arguments run CutWire form table grammar one =
    ends-in form run CutWire (subst (λ r. EndsFor r run CutWire)
    (one table.0 (request_of form) table.1 grammar) table.2)

-- what was appended to the sink, where it is the text or a first part of it
exact-sink : (run : Run) (this : Status) (text : List ℕ) (status : Status)
    → Appends run.sink run.sink' run.appended → Exact run this text status
    → IsStatus this text run.sink run.sink' status
unfolding Exact
exact-sink run this text status written (inl whole) =
    inl (whole.0, subst (Appends run.sink run.sink') whole.1 written)
exact-sink run this text status written (inr part) = inr (
  part.0,
  record { front = run.appended; rest = part.1.0; parts = part.1.1; appended = written },
)

-- at the limit a refused line has the status that it has before
at_limit-refused : (found : Refusal) → status_at_limit (Some found) ≡ status_of (Some found)
at_limit-refused (Fault line fault) = refl
at_limit-refused (Full line) = refl
at_limit-refused (Bare line) = refl

module _ (arguments : List (List ℕ)) (source source' sink sink' : Stream) (status : Status)
    (ran : Ran arguments source source' sink sink' status)
    (one : IsOneRequest arguments)
    (input : List ℕ) (told : source.bytes ≡ Some input) (form : Form)
    (grammar : AskFor arguments (request_of form)) where
  -- the run, as the table has it
  abbrev the_run : Run
  the_run = record {
    source = source;
    source' = source';
    sink = sink;
    sink' = sink';
    count = length ran.read;
    ended = ran.ended;
    said = said_by ran.ended ran.read;
    appended = ran.appended;
  }

  -- what was read and what is left are the input
  taken : Some input ≡ prepend_known ran.read source'.bytes
  taken = subst (λ o. o ≡ prepend_known ran.read source'.bytes) told ran.taken.bytes

  -- where the end was seen, all was read
  all_read : ran.ended ≡ true → ran.read ≡ input
  all_read is = given_whole input ran.read source'.bytes taken (ran.end is).0

  -- what all bytes say goes on with what was read
  grows : (ended : Bool) (bytes rest : List ℕ) → bytes ≡ ran.read ++ rest
      → (ran.ended ≡ true → said_by ended bytes ≡ said_by ran.ended ran.read)
      → SaysMore form (said_by ran.ended ran.read) (said_by ended bytes)
  unfolding SaysMore
  grows ended bytes rest is whole =
      elim (cases_Bool ran.ended) [
        | inl seen ↦ inl (whole seen)
        | inr not_seen ↦ rw (not_seen, is) (said-extend form ended ran.read rest)
      ]

  -- the row of the table for the form that the arguments ask for
  ends : Ends (text_in form ran.ended (said_by ran.ended ran.read)) the_run status
  ends = ends-of arguments the_run status form ran.table grammar one

  -- the status where the input is below the limit
  pub exact-below : length input < INPUT_LIMIT
      → (HasFailed source source' → ⊥) → (HasFailed sink sink' → ⊥)
      → IsStatus (status_of (script input).refusal) (text_in form true (script input)) sink
      sink' status
  exact-below below calm calm' =
      let all = script input in
      let g = given input ran.read source'.bytes taken in
      let part = given_part input ran.read source'.bytes taken in
      let short : length ran.read < INPUT_LIMIT = omega (arith, part, below) in
      let whole : ran.ended ≡ true → all ≡ said_by ran.ended ran.read =
      λ is. ap (λ e. said_by e input) (sym is) ∙ ap (said_by ran.ended) (sym (all_read is)) in
      exact-sink the_run (status_of all.refusal) (text_in form true all) status ran.written
      (elim (cases_Bool ran.ended) [
        | inl is ↦ exact-ended (text_in form true all) the_run status all
            (subst (λ s. Ends (text_in form true s) the_run status) (sym (whole is))
            (subst (λ e. Ends (text_in form e the_run.said) the_run status) is ends))
            (whole is) short calm calm'
        | inr open_end ↦ exact-text form the_run all status
            (open_not_done (text_in form ran.ended the_run.said) the_run status ends open_end)
            (exact-open form the_run status all status_of
            (Ends-open form the_run status ends open_end)
            (grows true input g.0 g.2 whole) open_end (λ found. refl)
            (λ at_limit. absurd (omega (arith, at_limit, short))) calm calm')
      ])

  -- the status where it is not
  pub exact-above : INPUT_LIMIT ≤ length input
      → (HasFailed source source' → ⊥) → (HasFailed sink sink' → ⊥)
      → let said = script_so_far (take INPUT_LIMIT input) in
      IsStatus (status_at_limit said.refusal) (output_in form said) sink sink' status
  exact-above above calm calm' =
      let g = given input ran.read source'.bytes taken in
      let bytes = take INPUT_LIMIT input in
      let all = script_so_far bytes in
      let size = length ran.read in
      let front : take size input ≡ ran.read =
      ap (take size) g.2 ∙ take_at ran.read g.0 size refl in
      let begins : bytes ≡ ran.read ++ drop size bytes =
      sym (take-append-drop size bytes)
      ∙ ap (λ t. t ++ drop size bytes) (take-take size INPUT_LIMIT input ran.within ∙ front) in
      let not_ended : ran.ended ≡ true → ⊥ =
      λ is. let read = ap length (all_read is) in
      let below = (ran.end is).1 in
      omega (arith, read, below, above) in
      let open_end : ran.ended ≡ false =
      elim (cases_Bool ran.ended) [
        | inl is ↦ absurd (not_ended is)
        | inr is ↦ is
      ] in
      let whole : length ran.read ≡ INPUT_LIMIT → all ≡ said_by ran.ended ran.read =
      λ limit. ap (λ e. said_by e bytes) (sym open_end)
      ∙ ap (λ n. said_by ran.ended (take n input)) (sym limit)
      ∙ ap (said_by ran.ended) front in
      exact-sink the_run (status_at_limit all.refusal) (output_in form all) status ran.written
      (exact-open form the_run status all status_at_limit
      (Ends-open form the_run status ends open_end)
      (grows false bytes (drop size bytes) begins (λ is. absurd (not_ended is))) open_end
      at_limit-refused (λ limit. (whole limit, refl)) calm calm')

-- of an input below the limit
pub exact-status : (arguments : List (List ℕ)) (source source' sink sink' : Stream)
    (status : Status) → Ran arguments source source' sink sink' status → IsOneRequest arguments
    → IsExact arguments source source' sink sink' status
exact-status arguments source source' sink sink' status ran one input told below form grammar
    calm calm' =
    exact-below arguments source source' sink sink' status ran one input told form grammar below
    calm calm'

-- of a longer one
pub limit-status : (arguments : List (List ℕ)) (source source' sink sink' : Stream)
    (status : Status) → Ran arguments source source' sink sink' status → IsOneRequest arguments
    → IsExactAtLimit arguments source source' sink sink' status
limit-status arguments source source' sink sink' status ran one input told above form grammar
    calm calm' =
    exact-above arguments source source' sink sink' status ran one input told form grammar above
    calm calm'

-- what ends as a run is one
task-ends : (request : Request) (run : Run) (status : Status) → EndsFor request run status
    → IsTask request
task-ends requests.Help run status ended = ended
task-ends requests.Version run status ended = ended
task-ends (requests.Run options) run status ended = _
task-ends (requests.Drill drill) run status ended = _
task-ends (requests.Edit asked) run status ended = _
task-ends requests.Wire run status ended = _
task-ends requests.Mirror run status ended = absurd ended

-- arguments that ask for no task have the status for it
refused-status : (arguments : List (List ℕ)) (run : Run) (status : Status)
    → HasStatus arguments run status → AskForNoTask arguments → status ≡ BadWords
refused-status arguments run Done table other =
    absurd (other table.0 (task-ends table.0 run Done table.2) table.1)
refused-status arguments run NoMemory table other =
    absurd (other table.0 (task-ends table.0 run NoMemory table.2) table.1)
refused-status arguments run BadWords table other = refl
refused-status arguments run (BadScript line fault) table other =
    absurd (other table.0 (task-ends table.0 run (BadScript line fault) table.2) table.1)
refused-status arguments run ReadFault table other =
    absurd (other table.0 (task-ends table.0 run ReadFault table.2) table.1)
refused-status arguments run WriteFault table other =
    absurd (other table.0 (task-ends table.0 run WriteFault table.2) table.1)
refused-status arguments run (JournalFull line) table other =
    absurd (other table.0 (task-ends table.0 run (JournalFull line) table.2) table.1)
refused-status arguments run InputLimit table other =
    absurd (other table.0 (task-ends table.0 run InputLimit table.2) table.1)
refused-status arguments run (NothingToUndo line) table other =
    absurd (other table.0 (task-ends table.0 run (NothingToUndo line) table.2) table.1)
refused-status arguments run (BadWire at fault) table other =
    absurd (other table.0 (task-ends table.0 run (BadWire at fault) table.2) table.1)
refused-status arguments run CutWire table other =
    absurd (other table.0 (task-ends table.0 run CutWire table.2) table.1)

-- the status of a run whose arguments ask for no task
pub bad_words-status : (arguments : List (List ℕ)) (source source' sink sink' : Stream)
    (status : Status)
    → Ran arguments source source' sink sink' status → AskForNoTask arguments → status ≡ BadWords
bad_words-status arguments source source' sink sink' status ran other =
    refused-status arguments (record {
      source = source;
      source' = source';
      sink = sink;
      sink' = sink';
      count = length ran.read;
      ended = ran.ended;
      said = said_by ran.ended ran.read;
      appended = ran.appended;
    }) status ran.table other
