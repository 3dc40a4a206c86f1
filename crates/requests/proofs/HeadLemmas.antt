-- How a script goes as far as its head, and with it as a whole: the clause of `carry_out_script`.
-- A head is the first line that isn't skipped. Where it came and is accepted, what is said of the lines behind it is
-- said of the whole, and the bytes before them are put in front (plays_lines, by Ends-from, which goes through the
-- rows). Where none came, it was refused, or the reading stopped, nothing was written, and the row says so
-- (plays_missing, plays_head, plays_stops_first, all by plays_nothing).
use Rattle.std.proofs.Common.{◌≡◌, ℕ, ◌+◌, ◌⊎◌, Bool, true, false, List, [], ◌∷◌, ◌++◌, length, refl, sym, ap, subst, ◌∙◌, arith, length-append, inl, inr}
use Rattle.std.specs.Prelude.{Option, Some, None, Ok, Err}
use Rattle.std.specs.Io.KnownBytes.{IsAtEnd}
use Rattle.std.proofs.lemmas.Bool.{true≢false}
use Rattle.std.proofs.lemmas.List.{append-nil}
use Rattle.lattice.specs.declared.settings.Settings.{Settings}
use Rattle.camera_script.specs.declared.fault.LineFault.{LineFault}
use Rattle.camera_script.specs.declared.fault.LineFault.TheVariants as faults
use Rattle.camera_script.specs.Line.{after}
use Rattle.camera_script.specs.Lines.{Numbered, lines_behind, lines_from}
use Rattle.camera_script.specs.Reading.{head_in, head_reading}
use Rattle.camera_script.proofs.LineLemmas.{line_members_long}
use Rattle.terra_io.specs.Stream.{Stream, Yields, IsFaultless}
use Rattle.script_play.specs.declared.refusal.ReadRefusal.{ReadRefusal}
use Rattle.script_play.specs.declared.refusal.ReadRefusal.TheVariants as reading
use Rattle.script_play.specs.declared.status.Status.{Status}
use Rattle.script_play.specs.declared.status.Status.TheVariants.{Done, NoMemory, BadWords, BadScript, ReadFault, WriteFault, JournalFull, InputLimit, NothingToUndo, BadWire, CutWire}
use Rattle.script_play.specs.Input.{CountsFit, HasNoLine, InputState, Passes, Stops, MayCome, StartsLongAt, TakesFor, fresh_input, kept_left, lines_left, this_line}
use Rattle.script_play.specs.Play.{Plays, PlaysLines}
use Rattle.script_play.specs.Statuses.{refused_status, reading_status}
use Rattle.requests.specs.declared.form.Form.{Form}
use Rattle.requests.specs.declared.form.Form.TheVariants as forms
use Rattle.script_play.specs.Ending.{Ends, IsCalm, Run, WritesText, WritesPrefix}
use Rattle.requests.specs.Texts.{text_in}
use Rattle.script_play.specs.Script.{Bare, Fault, Full, Refusal, Said, commands_said, head_said, headless, lines_said, said_by}
use Rattle.mesh_out.proofs.WritingLemmas.{Appends-none}
use Rattle.script_play.proofs.StreamLemmas.{Yields-append, IsFaultless-trans, HasFailed-after}
use Rattle.script_play.proofs.PlayLemmas.{known, refused_is, run_of}

-- ---- before and at the head

-- what is said where the first line came
said_behind : (input : InputState) (more : List ℕ) (line : Numbered)
    → Passes fresh_input input more (line ∷ []) → (ended : Bool) (rest : List ℕ)
    → MayCome input ended rest
    → said_by ended (more ++ rest)
    ≡ head_said line.number (head_reading line.text) (kept_left input ended rest)
said_behind input more line passes ended rest may =
    ap (lines_said ended (length (lines_behind ended [] (more ++ rest))))
    (passes.kept ended rest may)

-- the same run with calls before it, none of which failed
abbrev from_source : Run → Stream → Run
from_source run source = record run { source = source }

-- a text that was written is one from an earlier source on
text_from : (text : List ℕ) (run : Run) (source : Stream) (found : Option Refusal)
    → WritesText text run found → WritesText text (from_source run source) found
text_from text run source found writes =
    record { said = writes.said; appended = writes.appended }

-- so is a first part of a text
prefix_from : (text : List ℕ) (run : Run) (source : Stream) → WritesPrefix text run
    → WritesPrefix text (from_source run source)
prefix_from text run source writes = record { rest = writes.rest; prefix = writes.prefix }

-- no call failed from the earlier source on
calm_from : (run : Run) (source : Stream) → IsFaultless source run.source → IsCalm run
    → IsCalm (from_source run source)
calm_from run source before calm = record {
  source = IsFaultless-trans source run.source run.source' before calm.source;
  sink = calm.sink;
}

-- each row of the table, from an earlier source on
Ends-from : (text : List ℕ) (run : Run) (source : Stream) (status : Status)
    → IsFaultless source run.source → Ends text run status
    → Ends text (from_source run source) status
Ends-from text run source Done before ends =
    (calm_from run source before ends.0, ends.1, text_from text run source None ends.2)
Ends-from text run source NoMemory before ends =
    (calm_from run source before ends.0, prefix_from text run source ends.1)
Ends-from text run source BadWords before ends = absurd ends
Ends-from text run source (BadScript line fault) before ends = (
  calm_from run source before ends.0,
  text_from text run source (Some (Fault line fault)) ends.1,
)
Ends-from text run source ReadFault before ends = (
  HasFailed-after source run.source run.source' before ends.0,
  ends.1,
  ends.2,
  text_from text run source None ends.3,
)
Ends-from text run source WriteFault before ends = (
  IsFaultless-trans source run.source run.source' before ends.0,
  ends.1,
  prefix_from text run source ends.2,
)
Ends-from text run source (JournalFull line) before ends =
    (calm_from run source before ends.0, text_from text run source (Some (Full line)) ends.1)
Ends-from text run source InputLimit before ends = (
  calm_from run source before ends.0,
  ends.1,
  ends.2,
  text_from text run source None ends.3,
)
Ends-from text run source (NothingToUndo line) before ends =
    (calm_from run source before ends.0, text_from text run source (Some (Bare line)) ends.1)
Ends-from text run source (BadWire at fault) before ends = absurd ends
Ends-from text run source CutWire before ends = absurd ends

-- the lines behind the head were carried out
pub plays_lines : (text : Bool → Said → List ℕ) (settings : Settings) (input : InputState)
    (line : Numbered) (source source' source'' sink sink' : Stream) (more : List ℕ)
    (status : Status)
    → Yields source source' more → IsFaultless source source'
    → Passes fresh_input input more (line ∷ []) → head_reading line.text ≡ Ok settings
    → PlaysLines settings input text source' source'' sink sink' status
    → Plays length said_by text source source'' sink sink' status
plays_lines text settings input line source source' source'' sink sink' more status taken calm
    passes reads lines =
    let plays = lines.plays in
    let counted : length plays.more + input.count ≡ length (more ++ plays.more) =
    omega (arith, passes.count, length-append more plays.more) in
    let said : commands_said settings [] (kept_left input plays.ended plays.more)
    ≡ said_by plays.ended (more ++ plays.more) =
    sym (said_behind input more line passes plays.ended plays.more lines.may_come
    ∙ ap (λ r. head_said line.number r (kept_left input plays.ended plays.more)) reads) in
    let run = run_of settings input source' source'' sink sink' plays.more plays.ended
    plays.appended in
    let ends = Ends-from (text plays.ended run.said) run source status calm plays.table in
    record {
      more = more ++ plays.more;
      ended = plays.ended;
      appended = plays.appended;
      taken = Yields-append source source' source'' more plays.more taken plays.taken;
      written = plays.written;
      end = plays.end;
      within = omega (arith, counted, plays.within);
      below = λ is. omega (arith, counted, plays.below is);
      table = subst (λ n. Ends
          (text plays.ended (said_by plays.ended (more ++ plays.more))) (record {
            source = source;
            source' = source'';
            sink = sink;
            sink' = sink';
            count = n;
            ended = plays.ended;
            said = said_by plays.ended (more ++ plays.more);
            appended = plays.appended;
          }) status) counted (subst (λ s. Ends (text plays.ended s) (record {
            source = source;
            source' = source'';
            sink = sink;
            sink' = sink';
            count = length plays.more + input.count;
            ended = plays.ended;
            said = s;
            appended = plays.appended;
          }) status) said ends);
    }

-- where no head is read, there is no text
text-headless : (form : Form) (ended : Bool) (refusal : Refusal)
    → text_in form ended (headless (Some refusal)) ≡ []
text-headless (forms.Text options) ended refusal = refl
text-headless forms.Wire ended refusal = refl

-- nor where none is there yet
text-unsaid : (form : Form) → text_in form false (headless None) ≡ []
text-unsaid (forms.Text options) = refl
text-unsaid forms.Wire = refl

-- nothing was written, and what was read says this refusal or none, and no command
module _ (form : Form) (input : InputState) (source source' sink : Stream) (more : List ℕ)
    (ended : Bool)
    (taken : Yields source source' more) (counted : input.count ≡ length more)
    (fits : CountsFit input) (end : ended ≡ true → IsAtEnd source'.bytes)
    (seen : ended ≡ true → input.is_ended ≡ true) where
  -- the row of a run that wrote nothing, by what its input says
  plays_nothing : (found : Option Refusal) (status : Status)
      → said_by ended more ≡ headless found
      → text_in form ended (headless found) ≡ []
      → (WritesText (text_in form ended (said_by ended more)) (record {
        source = source;
        source' = source';
        sink = sink;
        sink' = sink;
        count = length more;
        ended = ended;
        said = said_by ended more;
        appended = [];
      }) found
      → Ends (text_in form ended (said_by ended more)) (record {
        source = source;
        source' = source';
        sink = sink;
        sink' = sink;
        count = length more;
        ended = ended;
        said = said_by ended more;
        appended = [];
      }) status)
      → Plays length said_by (text_in form) source source' sink sink status
  plays_nothing found status said closes row = record {
    more = more;
    ended = ended;
    appended = [];
    taken = taken;
    written = Appends-none sink;
    end = end;
    within = omega (arith, counted, fits.within);
    below = λ is. omega (arith, counted, fits.below (seen is));
    table = row (record {
      said = ap (λ s. s.refusal) said;
      appended = sym closes ∙ ap (text_in form ended) (sym said);
    });
  }

-- the input ended before a head
pub plays_missing : (form : Form) (input : InputState) (source source' sink : Stream)
    (more : List ℕ)
    → Yields source source' more → IsFaultless source source' → Passes fresh_input input more []
    → CountsFit input → IsAtEnd source'.bytes → input.is_ended ≡ true
    → Plays length said_by (text_in form) source source' sink sink
    (BadScript (input.number + 1) faults.MissingMember)
plays_missing form input source source' sink more taken calm passes fits end is =
    let kept : lines_from 1 (lines_behind true [] more) ≡ [] =
    ap (λ t. lines_from 1 (lines_behind true [] t)) (sym (append-nil more))
    ∙ passes.kept true [] (λ e. (refl, refl)) ∙ rw is refl in
    let none : length (lines_left input true []) ≡ 0 = rw is refl in
    let all = passes.total true [] (λ e. (refl, refl)) in
    let counted : length (lines_behind true [] (more ++ [])) ≡ input.number =
    omega (arith, none, all) in
    let total : length (lines_behind true [] more) ≡ input.number =
    ap (λ t. length (lines_behind true [] t)) (sym (append-nil more)) ∙ counted in
    let found : Option Refusal = Some (Fault (input.number + 1) faults.MissingMember) in
    plays_nothing form input source source' sink more true taken
    (omega (arith, passes.count)) fits (λ e. end) (λ e. is) found
    (BadScript (input.number + 1) faults.MissingMember)
    (ap (lines_said true (length (lines_behind true [] more))) kept
    ∙ ap (λ n. headless (Some (Fault (n + 1) faults.MissingMember))) total)
    (text-headless form true (Fault (input.number + 1) faults.MissingMember))
    (λ writes. (record { source = calm; sink = refl }, writes))

-- no line is whole, and nothing is said
nothing_said : (input : InputState) (more : List ℕ) → Passes fresh_input input more []
    → HasNoLine input
    → said_by false more ≡ headless None
nothing_said input more passes no_line =
    let kept : lines_from 1 (lines_behind false [] more) ≡ [] =
    ap (λ t. lines_from 1 (lines_behind false [] t)) (sym (append-nil more))
    ∙ passes.kept false [] (λ is. absurd (true≢false (sym is ∙ no_line.open_end)))
    ∙ no_line.none in
    ap (lines_said false (length (lines_behind false [] more))) kept

-- a head that is too long
pub head_long : (ended : Bool) (count number : ℕ) (lines : List Numbered)
    → StartsLongAt number lines
    → lines_said ended count lines ≡ headless (Some (Fault number faults.TooLong))
head_long ended count number [] long = absurd long
head_long ended count number (line ∷ lines) long =
    ap (λ r. head_said line.number r lines)
    (ap (after head_in) (line_members_long line.text long.1))
    ∙ ap (λ n. headless (Some (Fault n faults.TooLong))) long.0

-- the head is refused
pub plays_head : (form : Form) (input : InputState) (source source' sink : Stream)
    (more : List ℕ) (fault : LineFault)
    → TakesFor fresh_input input source source' more → IsFaultless source source'
    → Passes fresh_input input more (this_line input ∷ []) → CountsFit input
    → (fault ≡ faults.NoMemory) ⊎ (head_reading (this_line input).text ≡ Err fault)
    → Plays length said_by (text_in form) source source' sink sink
    (refused_status input.number fault)
plays_head form input source source' sink more fault takes calm passes fits reads =
    let line = this_line input in
    let end : input.is_ended ≡ true → IsAtEnd source'.bytes =
    takes.end (λ is. absurd (true≢false (sym is))) in
    elim (refused_is input.number fault) [
      | inl out ↦ rw out (record {
        more = more;
        ended = input.is_ended;
        appended = [];
        taken = takes.taken;
        written = Appends-none sink;
        end = end;
        within = omega (arith, passes.count, fits.within);
        below = λ is. omega (arith, passes.count, fits.below is);
        table = (
          record { source = calm; sink = refl },
          record {
            rest = text_in form input.is_ended (said_by input.is_ended more);
            prefix = refl;
          },
        );
      })
      | inr told ↦
          let read : head_reading line.text ≡ Err fault = known reads told.1 in
          let said = ap (said_by input.is_ended) (sym (append-nil more))
          ∙ said_behind input more line passes input.is_ended [] (λ is. (is, refl))
          ∙ ap (λ r. head_said line.number r (kept_left input input.is_ended [])) read in
          rw (told.0) (plays_nothing form input source source' sink more input.is_ended
          takes.taken (omega (arith, passes.count)) fits end (λ is. is)
          (Some (Fault input.number fault))
          (BadScript input.number fault) said
          (text-headless form input.is_ended (Fault input.number fault))
          (λ writes. (record { source = calm; sink = refl }, writes)))
    ]

-- the reading stopped before the head
pub plays_stops_first : (form : Form) (input : InputState)
    (source source' sink : Stream) (more : List ℕ) (refusal : ReadRefusal)
    → TakesFor fresh_input input source source' more → CountsFit input
    → Stops fresh_input input more source source' refusal
    → Plays length said_by (text_in form) source source' sink sink (reading_status refusal)
plays_stops_first form input source source' sink more reading.ReadFault takes fits stops =
    plays_nothing form input source source' sink more false takes.taken
    (omega (arith, stops.1.count)) fits (λ is. absurd (true≢false (sym is)))
    (λ is. absurd (true≢false (sym is))) None ReadFault
    (nothing_said input more stops.1 stops.2) (text-unsaid form)
    (λ writes. (stops.0, refl, refl, writes))
plays_stops_first form input source source' sink more reading.InputLimit takes fits stops =
    plays_nothing form input source source' sink more false takes.taken
    (omega (arith, stops.1.count)) fits (λ is. absurd (true≢false (sym is)))
    (λ is. absurd (true≢false (sym is))) None InputLimit
    (nothing_said input more stops.1 stops.2) (text-unsaid form)
    (λ writes. (
      record { source = stops.0; sink = refl },
      refl,
      omega (arith, stops.1.count, stops.3),
      writes,
    ))
plays_stops_first form input source source' sink more (reading.TooLong line) takes fits stops =
    let long = subst (λ t. StartsLongAt line (kept_left fresh_input false t)) (append-nil more)
    (stops.3 false []) in
    plays_nothing form input source source' sink more false takes.taken
    (omega (arith, stops.2)) fits (λ is. absurd (true≢false (sym is)))
    (λ is. absurd (true≢false (sym is))) (Some (Fault line faults.TooLong))
    (BadScript line faults.TooLong)
    (head_long false (length (lines_behind false [] more)) line (kept_left fresh_input false more)
    long) (text-headless form false (Fault line faults.TooLong))
    (λ writes. (record { source = stops.0; sink = refl }, writes))
