-- What all bytes of an input say goes on with what the first ones say, or is the same: said-extend. So a line can be
-- carried out before more is read, and what was written stays right whatever comes.
-- The lines of the first bytes, while more may come, are the first lines of all, but for a last one that is too long
-- already (Extends, lines-extend). So the lines behind the head say the same, or no refusal yet and more commands later
-- (CommandsMore, commands-extend); and the output of more commands begins with that of the first (output-append). The
-- head goes last (SaysMore, head-extend, lines_said-extend).
use Rattle.std.proofs.Common.{◌≡◌, ℕ, ◌+◌, ◌⊎◌, Bool, true, false, List, [], ◌∷◌, ◌++◌, length, refl, sym, ap, subst, ◌∙◌, append_assoc, inl, inr, eqb}
use Rattle.std.specs.Prelude.{None, Result, Ok, Err, if◌then◌else◌}
use Rattle.std.proofs.lemmas.Bool.{cases_Bool, lt-leb, ltb-true}
use Rattle.lattice.specs.declared.settings.Settings.{Settings}
use Rattle.snapshots.specs.Stats.{stats_of}
use Rattle.surface_query.specs.declared.bases.Bases.{Bases}
use Rattle.mesh_out.specs.Text.{stats_text}
use Rattle.terrain.specs.declared.event.Event.{Event}
use Rattle.camera_script.specs.declared.commands.Command.{Command}
use Rattle.camera_script.specs.declared.commands.Command.TheVariants as commands
use Rattle.terrain.specs.Blocks.{scratch}
use Rattle.camera_script.specs.declared.fault.LineFault.{LineFault}
use Rattle.camera_script.specs.declared.json_line.TheConstants.{LINE_LIMIT}
use Rattle.camera_script.specs.Line.{is_blank}
use Rattle.camera_script.specs.Lines.{StartsLong, is_long, is_skipped, line_feed, lines_behind, lines_from, without_return}
use Rattle.camera_script.specs.Reading.{command_reading, head_reading}
use Rattle.camera_script.proofs.CutterLemmas.{lines_behind-long}
use Rattle.script_play.specs.Input.{StartsLongAt}
use Rattle.script_play.specs.Output.{bases_after, no_bases, output, output_after, pick_after, shot_after}
use Rattle.requests.specs.Texts.{output_in}
use Rattle.script_play.specs.Wire.{publication, wire_after, wire_output}
use Rattle.requests.specs.declared.form.Form.{Form}
use Rattle.requests.specs.declared.form.Form.TheVariants as forms
use Rattle.replicas.specs.Grammar.{head_bytes}
use Rattle.script_play.specs.Script.{Said, command_said, commands_said, events_after, has_room, head_said, headless, is_bare, lines_said, said_by}
use Rattle.requests.proofs.HeadLemmas.{head_long}
use Rattle.script_play.proofs.PlayLemmas.{said_headed, said_long, said_settings}

-- ---- lines

-- the first lines, of which the last one may be too long and go on
Extends : List (List ℕ) → List (List ℕ) → Type 0
Extends [] all = Unit {0}
Extends (line ∷ lines) [] = ⊥
Extends (line ∷ lines) (other ∷ all) =
    ((line ≡ other) × Extends lines all)
    ⊎ ((is_long line ≡ true) × (is_long other ≡ true))

-- a line that is too long is the first of lines that begin with one
long_first : (line : List ℕ) (all : List (List ℕ)) → is_long line ≡ true → StartsLong all
    → Extends (line ∷ []) all
unfolding Extends
long_first line [] long first = absurd first
long_first line (other ∷ all) long first = inr (long, first)

-- the lines of the first bytes, while more may come, are the first ones
lines-extend : (ended : Bool) (line bytes more : List ℕ)
    → Extends (lines_behind false line bytes) (lines_behind ended line (bytes ++ more))
unfolding Extends
lines-extend ended line [] more =
    elim (cases_Bool (is_long line)) [
      | inl long ↦ rw long (long_first line (lines_behind ended line more) long
          (lines_behind-long ended line more long))
      | inr short ↦ rw short tt
    ]
lines-extend ended line (byte ∷ bytes) more =
    elim (cases_Bool (eqb byte line_feed)) [
      | inl is ↦ rw is (inl (refl, lines-extend ended [] bytes more))
      | inr other ↦ rw other (lines-extend ended (line ++ byte ∷ []) bytes more)
    ]

-- a line that is too long isn't skipped
long_kept : (n : ℕ) (line : List ℕ) (lines : List (List ℕ)) → is_long line ≡ true
    → StartsLongAt n (lines_from n (line ∷ lines))
long_kept n line lines long =
    let above = ltb-true LINE_LIMIT (length (without_return line)) long in
    let not_short = lt-leb (length (without_return line)) LINE_LIMIT above in
    elim (cases_Bool (is_blank (without_return line))) [
      | inl blank ↦ rw (blank, not_short) (refl, above)
      | inr other ↦ rw other (refl, above)
    ]

-- ---- what the lines behind the head say

-- the same; or no refusal, and more commands
CommandsMore : Said → Said → Type 0
CommandsMore said all =
    (all ≡ said)
    ⊎ ((said.refusal ≡ None) × (all.headed ≡ said.headed) × (all.settings ≡ said.settings)
    × ((later : List Command) × (all.commands ≡ said.commands ++ later)))

-- behind one line that says a command, or none
command-extend : (settings : Settings) (events : List Event) (line : ℕ)
    (reading : Result Command LineFault) (said all : Said) → CommandsMore said all
    → CommandsMore (command_said settings events line reading said)
    (command_said settings events line reading all)
unfolding CommandsMore
command-extend settings events line (Err fault) said all more = inl refl
command-extend settings events line (Ok command) said all (inl same) =
    inl (ap (command_said settings events line (Ok command)) same)
command-extend settings events line (Ok command) said all (inr more) =
    elim (cases_Bool (has_room events command)) [
      | inl room ↦ elim (cases_Bool (is_bare events command)) [
        | inl bare ↦ rw (room, bare) (inl refl)
        | inr edit ↦ rw (room, edit)
            (inr (more.0, more.1, more.2, (more.3.0, ap (λ cs. command ∷ cs) more.3.1)))
      ]
      | inr full ↦ rw full (inl refl)
    ]

-- behind all lines after the head, one after another
commands-extend : (settings : Settings) (events : List Event) (n : ℕ)
    (lines all : List (List ℕ))
    → Extends lines all
    → CommandsMore (commands_said settings events (lines_from n lines))
    (commands_said settings events (lines_from n all))
unfolding Extends CommandsMore
commands-extend settings events n [] all extends =
    inr (
      refl,
      said_headed settings events (lines_from n all),
      said_settings settings events (lines_from n all),
      ((commands_said settings events (lines_from n all)).commands, refl),
    )
commands-extend settings events n (line ∷ lines) [] extends = absurd extends
commands-extend settings events n (line ∷ lines) (other ∷ all) (inr long) =
    inl (said_long settings events n (lines_from n (other ∷ all)) (long_kept n other all long.1)
    ∙ sym (said_long settings events n (lines_from n (line ∷ lines))
    (long_kept n line lines long.0)))
commands-extend settings events n (line ∷ lines) (other ∷ all) (inl (same, extends)) =
    let says : List (List ℕ) → Said = λ ls. commands_said settings events (lines_from n ls) in
    subst (λ o. CommandsMore (says (line ∷ lines)) (says (o ∷ all))) same
    (elim (cases_Bool (is_skipped (without_return line))) [
      | inl skipped ↦ rw skipped (commands-extend settings events (n + 1) lines all extends)
      | inr kept ↦ rw kept
          (let reading = command_reading settings.depth (without_return line) in
          command-extend settings events n reading
          (commands_said settings (events_after events reading) (lines_from (n + 1) lines))
          (commands_said settings (events_after events reading) (lines_from (n + 1) all))
          (commands-extend settings (events_after events reading) (n + 1) lines all extends))
    ])

-- ---- what they write

-- the output of commands begins with that of the first of them
output-append : (settings : Settings) (events : List Event) (number : ℕ) (bases : Bases)
    (before later : List Command)
    → (rest : List ℕ) × (output_after settings events number bases (before ++ later)
    ≡ output_after settings events number bases before ++ rest)
output-append settings events number bases [] later =
    (output_after settings events number bases later, refl)
output-append settings events number bases (commands.Event event ∷ before) later =
    output-append settings (events ++ event ∷ []) number bases before later
output-append settings events number bases (commands.Shot normals ∷ before) later =
    let text = shot_after settings events number bases normals in
    let more = bases_after bases normals (scratch settings events) in
    let behind = output-append settings events (number + 1) more before later in (
      behind.0,
      ap (λ t. text ++ t) behind.1
          ∙ sym (append_assoc text (output_after settings events (number + 1) more before)
          behind.0),
    )
output-append settings events number bases (commands.Stats ∷ before) later =
    let text = stats_text (stats_of (scratch settings events)) in
    let behind = output-append settings events number bases before later in (
      behind.0,
      ap (λ t. text ++ t) behind.1
          ∙ sym (append_assoc text (output_after settings events number bases before) behind.0),
    )
output-append settings events number bases (commands.Pick x y ∷ before) later =
    let text = pick_after settings events x y in
    let behind = output-append settings events number bases before later in (
      behind.0,
      ap (λ t. text ++ t) behind.1
          ∙ sym (append_assoc text (output_after settings events number bases before) behind.0),
    )

-- and so does the wire
wire-append : (settings : Settings) (sent since : List Event) (before later : List Command)
    → (rest : List ℕ) × (wire_after settings sent since (before ++ later)
    ≡ wire_after settings sent since before ++ rest)
wire-append settings sent since [] later = (wire_after settings sent since later, refl)
wire-append settings sent since (commands.Event event ∷ before) later =
    wire-append settings sent (since ++ event ∷ []) before later
wire-append settings sent since (commands.Shot normals ∷ before) later =
    let behind = wire-append settings (sent ++ since) [] before later in (
      behind.0,
      ap (λ t. publication settings sent since ++ t) behind.1
          ∙ sym (append_assoc (publication settings sent since)
          (wire_after settings (sent ++ since) [] before) behind.0),
    )
wire-append settings sent since (commands.Stats ∷ before) later =
    let behind = wire-append settings (sent ++ since) [] before later in (
      behind.0,
      ap (λ t. publication settings sent since ++ t) behind.1
          ∙ sym (append_assoc (publication settings sent since)
          (wire_after settings (sent ++ since) [] before) behind.0),
    )
wire-append settings sent since (commands.Pick x y ∷ before) later =
    let behind = wire-append settings (sent ++ since) [] before later in (
      behind.0,
      ap (λ t. publication settings sent since ++ t) behind.1
          ∙ sym (append_assoc (publication settings sent since)
          (wire_after settings (sent ++ since) [] before) behind.0),
    )

-- the wire by whether there is a head
wire_by : Bool → Settings → List Command → List ℕ
wire_by headed settings some = if headed then wire_output settings some else []

-- it goes on where commands do
wire_by-append : (headed : Bool) (settings : Settings) (before later : List Command)
    → (rest : List ℕ) × (wire_by headed settings (before ++ later)
    ≡ wire_by headed settings before ++ rest)
unfolding wire_by
wire_by-append false settings before later = ([], refl)
wire_by-append true settings before later =
    let more = wire-append settings [] [] before later in (
      more.0,
      ap (λ t. head_bytes settings ++ t) more.1
          ∙ sym (append_assoc (head_bytes settings) (wire_after settings [] [] before) more.0),
    )

-- the same; or no refusal, and the output of the one begins with that of the other
unfoldable pub SaysMore : Form → Said → Said → Type 0
SaysMore form said all =
    (all ≡ said)
    ⊎ ((said.refusal ≡ None)
    × ((rest : List ℕ) × (output_in form all ≡ output_in form said ++ rest)))

-- the output goes on, in each form
output_in-more : (form : Form) (said all : Said) → all.headed ≡ said.headed
    → all.settings ≡ said.settings → (later : List Command)
    → all.commands ≡ said.commands ++ later
    → (rest : List ℕ) × (output_in form all ≡ output_in form said ++ rest)
unfolding wire_by
output_in-more (forms.Text options) said all headed rules later grows =
    let written = output-append said.settings [] 1 no_bases said.commands later in (
      written.0,
      ap (λ s. output s all.commands) rules ∙ ap (output said.settings) grows ∙ written.1,
    )
output_in-more forms.Wire said all headed rules later grows =
    let written = wire_by-append said.headed said.settings said.commands later in (
      written.0,
      ap (λ h. wire_by h all.settings all.commands) headed
          ∙ ap (λ s. wire_by said.headed s all.commands) rules
          ∙ ap (wire_by said.headed said.settings) grows ∙ written.1,
    )

-- more commands write more, so what they say goes on
says-commands : (form : Form) (said all : Said) → CommandsMore said all
    → SaysMore form said all
unfolding CommandsMore SaysMore
says-commands form said all (inl same) = inl same
says-commands form said all (inr more) =
    inr (more.0, output_in-more form said all more.1 more.2 more.3.0 more.3.1)

-- with the head before them, which says the same
head-extend : (form : Form) (line : ℕ) (reading : Result Settings LineFault) (ended : Bool) (n : ℕ)
    (lines all : List (List ℕ)) → Extends lines all
    → SaysMore form (head_said line reading (lines_from n lines))
    (head_said line reading (lines_from n all))
unfolding SaysMore
head-extend form line (Ok settings) ended n lines all extends =
    says-commands form (commands_said settings [] (lines_from n lines))
    (commands_said settings [] (lines_from n all))
    (commands-extend settings [] n lines all extends)
head-extend form line (Err fault) ended n lines all extends = inl refl

-- where nothing is said, there is no output
output_in-none : (form : Form) (all : Said)
    → output_in form all ≡ output_in form (headless None) ++ output_in form all
output_in-none (forms.Text options) all = refl
output_in-none forms.Wire all = refl

-- with lines before the head that are skipped
lines_said-extend : (form : Form) (ended : Bool) (count count' n : ℕ) (lines all : List (List ℕ))
    → Extends lines all
    → SaysMore form (lines_said false count (lines_from n lines))
    (lines_said ended count' (lines_from n all))
unfolding Extends SaysMore
lines_said-extend form ended count count' n [] all extends =
    let said = lines_said ended count' (lines_from n all) in
    inr (refl, (output_in form said, output_in-none form said))
lines_said-extend form ended count count' n (line ∷ lines) [] extends = absurd extends
lines_said-extend form ended count count' n (line ∷ lines) (other ∷ all) (inr long) =
    inl (head_long ended count' n (lines_from n (other ∷ all)) (long_kept n other all long.1)
    ∙ sym (head_long false count n (lines_from n (line ∷ lines))
    (long_kept n line lines long.0)))
lines_said-extend form ended count count' n (line ∷ lines) (other ∷ all) (inl (same, extends)) =
    subst (λ o. SaysMore form (lines_said false count (lines_from n (line ∷ lines)))
    (lines_said ended count' (lines_from n (o ∷ all)))) same
    (elim (cases_Bool (is_skipped (without_return line))) [
      | inl skipped ↦ rw skipped (lines_said-extend form ended count count'
          (n + 1) lines all extends)
      | inr kept ↦ rw kept (head-extend form n (head_reading (without_return line)) ended (n + 1)
          lines all extends)
    ])

-- what all bytes say, or more of them, is what the first ones say, or goes on with it
pub said-extend : (form : Form) (ended : Bool) (bytes more : List ℕ)
    → SaysMore form (said_by false bytes) (said_by ended (bytes ++ more))
said-extend form ended bytes more =
    lines_said-extend form ended (length (lines_behind false [] bytes))
    (length (lines_behind ended [] (bytes ++ more))) 1 (lines_behind false [] bytes)
    (lines_behind ended [] (bytes ++ more)) (lines-extend ended [] bytes more)
