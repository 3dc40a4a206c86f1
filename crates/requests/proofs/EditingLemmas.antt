-- What several editors read and write, and whose each event is.
-- Where nothing or a first part was written, some owners are there all the same: those that take one list after another
-- (`some_owners`). Each list has an event more than edits (`sent-count`), so all lists together are no more than a
-- journal takes. The events of a drill's commands are lawful, since the commands are (`lawful-events`).
use Rattle.std.proofs.Common.{All, Global, Vec, get_or, map, take, ◌≡◌, ℕ, zero, suc, ◌+◌, ◌%◌, ◌^◌, ◌==◌, ◌<◌, ◌≤◌, eqb, Bool, true, false, cond, List, [], ◌∷◌, ◌++◌, length, append-nil, append_assoc, codes, decimal, refl, sym, ap, ◌∙◌, subst, ⊎_elim, eq-eqb, ne_eqb, arith, length-append}
use Rattle.std.specs.Prelude.{Err, IfOk, Ok, Result}
use Rattle.std.specs.declared.alloc.AllocError.{AllocError}
use Rattle.std.proofs.lemmas.Bool.{cases_lt}
use Rattle.std.proofs.lemmas.List.{get_or_append_left, get_or_push, length-map, take_more}
use Rattle.std.proofs.lemmas.List.Elements.{All-append, All-cons, All-head, All-nil, All-tail}
use Rattle.arguments.specs.declared.editing.Editing.{Editing}
use Rattle.drills.specs.Drill.{after_draws, edits_from, event_draws}
use Rattle.drills.specs.declared.drill.TheConstants.{STATS_STEP}
use Rattle.editors.specs.Beside.{AreOwners, journal_of, list_of, owned_by}
use Rattle.lattice.specs.declared.settings.Settings.{Settings}
use Rattle.mesh_board.specs.Board.{BoardState}
use Rattle.mesh_out.proofs.WritingLemmas.{Appends-none}
use Rattle.mesh_out.specs.Text.{stats_text}
use Rattle.snapshots.specs.Stats.{stats_of}
use Rattle.snapshots.specs.declared.stats.Stats.{Stats as StatsOf}
use Rattle.terra_io.specs.Stream.{Stream}
use Rattle.requests.specs.Edited.{AreEditors, AreEditorsWith, HaveEdited, IsEditedBy, edited_text, edited_world, lists_below, owner_lines, sent_by_editor}
use Rattle.script_play.specs.Script.{events_by, events_of}
use Rattle.script_play.specs.declared.status.Status.TheVariants.{NoMemory}
use Rattle.terrain.specs.Blocks.{scratch}
use Rattle.camera_script.specs.Commands.{IsAllowedCommand}
use Rattle.camera_script.specs.declared.commands.Command.{Command}
use Rattle.terrain.specs.History.{IsLawfulEvent}
use Rattle.camera_script.specs.declared.commands.Command.TheVariants.{Event as AskedFor, Pick, Shot, Stats}
use Rattle.terrain.specs.declared.event.Event.{Event}

-- ---- there are owners, if only those that come one editor after another

-- so many events of one owner
repeated : ℕ → ℕ → List ℕ
repeated owner zero = []
repeated owner (suc count) = owner ∷ repeated owner count

-- each editor below a count as often
by_turns : ℕ → ℕ → List ℕ
by_turns each zero = []
by_turns each (suc count) = by_turns each count ++ repeated count each

-- how often an editor is among two lists
times-append : (editor : ℕ) (xs ys : List ℕ)
    → owned_by editor (xs ++ ys) ≡ owned_by editor xs + owned_by editor ys
times-append editor [] ys =
    let none : owned_by editor ys ≡ 0 + owned_by editor ys = omega arith in none
times-append editor (x ∷ xs) ys =
    let one : ℕ = cond (eqb x editor) 1 0 in
    let all : one + owned_by editor (xs ++ ys) ≡ one + owned_by editor xs + owned_by editor ys =
    omega (arith, times-append editor xs ys) in
    all

-- an owner is as often among its own events as there are
times-own : (owner count : ℕ) → owned_by owner (repeated owner count) ≡ count
unfolding repeated
times-own owner zero = refl
times-own owner (suc count) =
    let more : 1 + owned_by owner (repeated owner count) ≡ suc count =
    omega (arith, times-own owner count) in
    ap (λ (b : Bool). cond b 1 0 + owned_by owner (repeated owner count))
    (eq-eqb owner owner refl)
    ∙ more

-- and another one isn't
times-other : (owner other count : ℕ) → (owner ≡ other → ⊥)
    → owned_by other (repeated owner count) ≡ 0
unfolding repeated
times-other owner other zero differ = refl
times-other owner other (suc count) differ =
    let more : 0 + owned_by other (repeated owner count) ≡ 0 =
    omega (arith, times-other owner other count differ) in
    ap (λ (b : Bool). cond b 1 0 + owned_by other (repeated owner count))
    (ne_eqb owner other differ)
    ∙ more

-- nobody from the count on is there
times-beyond : (each count editor : ℕ) → count ≤ editor → owned_by editor (by_turns each count) ≡ 0
unfolding by_turns
times-beyond each zero editor far = refl
times-beyond each (suc count) editor far =
    times-append editor (by_turns each count) (repeated count each)
    ∙ omega (
      arith,
      times-beyond each count editor (omega arith),
      times-other count editor each (λ same. omega (arith, same)),
    )

-- and all below it as often as they should
times-each : (each count editor : ℕ) → editor < count
    → owned_by editor (by_turns each count) ≡ each
unfolding by_turns
times-each each zero editor few = absurd (omega arith)
times-each each (suc count) editor few =
    times-append editor (by_turns each count) (repeated count each)
    ∙ ⊎_elim (λ (below : editor < count).
    let none = times-other count editor each (λ same. omega (arith, same, below)) in
    omega (arith, times-each each count editor below, none))
    (λ (last : count ≤ editor).
    let same : count ≡ editor = omega arith in
    let own : owned_by editor (repeated count each) ≡ each =
    (λ t. owned_by editor (repeated (same t) each)) ∙ times-own editor each in
    omega (arith, times-beyond each count editor last, own))
    (cases_lt editor count)

-- so there are owners
pub some_owners : (asked : Editing) → (owners : List ℕ) × AreEditors asked owners
some_owners asked = (
  by_turns (asked.edits + 1) asked.editors,
  record {
    each = λ editor few. times-each (asked.edits + 1) asked.editors editor few;
    none = λ editor far. times-beyond (asked.edits + 1) asked.editors editor far;
  },
)

-- nothing was written: it is a first part of a text of some owners
pub edited-nothing : (asked : Editing) (sink : Stream) → HaveEdited asked sink sink NoMemory
edited-nothing asked sink =
    let some = some_owners asked in (
      some.0,
      some.1,
      (
        record {
          front = [];
          rest = edited_text asked some.0;
          parts = refl;
          appended = Appends-none sink;
        },
        refl,
      ),
    )

-- ---- how long the lists are

-- a line of stats is no event
stats-count : (due : Bool) (rest : List Command)
    → length (events_of (cond due (Stats ∷ rest) rest)) ≡ length (events_of rest)
stats-count true rest = refl
stats-count false rest = refl

-- behind its ground a drill has as many events as edits
edits_from-count : (depth left done state : ℕ)
    → length (events_of (edits_from depth left done state)) ≡ left
edits_from-count depth zero done state = refl
edits_from-count depth (suc left) done state =
    let rest = edits_from depth left (done + 1) (after_draws event_draws state) in
    ap suc (stats-count ((done + 1) % STATS_STEP == 0) rest
    ∙ edits_from-count depth left (done + 1) (after_draws event_draws state))

-- so each editor sends one event more than it makes edits
pub sent-count : (asked : Editing) (editor : ℕ)
    → length (sent_by_editor asked editor) ≡ asked.edits + 1
sent-count asked editor =
    let rest = edits_from-count asked.depth asked.edits 0 ((asked.first + editor) % 2 ^ 32) in
    omega (arith, rest)

-- there are as many lists as editors
lists-count : (asked : Editing) (count : ℕ) → length (lists_below asked count) ≡ count
lists-count asked zero = refl
lists-count asked (suc count) =
    omega (
      arith,
      length-append (lists_below asked count) (sent_by_editor asked count ∷ []),
      lists-count asked count,
    )

-- so there are if they are lists of vectors
pub vectors-count : (asked : Editing) (vectors : List (Vec Event Global))
    → map (λ list. list.items) vectors ≡ lists_below asked asked.editors
    → length vectors ≡ asked.editors
vectors-count asked vectors are =
    sym (length-map vectors (λ (list : Vec Event Global). list.items))
    ∙ ap length are ∙ lists-count asked asked.editors

-- the list of an editor
list-below : (asked : Editing) (count editor : ℕ) → editor < count
    → list_of (lists_below asked count) editor ≡ sent_by_editor asked editor
list-below asked zero editor few = absurd (omega arith)
list-below asked (suc count) editor few =
    let lists = lists_below asked count in
    let all = lists-count asked count in
    ⊎_elim (λ (below : editor < count).
    get_or_append_left lists (sent_by_editor asked count ∷ []) [] editor (omega (arith, all))
    ∙ list-below asked count editor below)
    (λ (last : count ≤ editor).
    let same : count ≡ editor = omega arith in
    get_or_push lists (sent_by_editor asked count) [] editor (omega (arith, all))
    ∙ ap (sent_by_editor asked) same)
    (cases_lt editor count)

-- there is none past the last
list-past : (lists : List (List Event)) (n : ℕ) → length lists ≤ n → list_of lists n ≡ []
list-past [] n far = refl
list-past (list ∷ lists) zero far = absurd (omega arith)
list-past (list ∷ lists) (suc n) far = list-past lists n (omega arith)

-- so owners of these lists are the editors', each as often as it has events
pub owners-editors : (asked : Editing) (owners : List ℕ)
    → AreOwners (list_of (lists_below asked asked.editors)) owners → AreEditors asked owners
owners-editors asked owners are = record {
  each = λ editor few.
      are editor ∙ ap length (list-below asked asked.editors editor few)
      ∙ sent-count asked editor;
  none = λ editor far.
      are editor ∙ ap length (list-past (lists_below asked asked.editors) editor
      (omega (arith, far, lists-count asked asked.editors)));
}

-- ---- what is gathered and written, one after another

-- the events of one command more
pub events_of-more : (commands : List Command) (command : Command)
    → events_of (commands ++ command ∷ []) ≡ events_of commands ++ events_by command
events_of-more [] command = append-nil (events_by command)
events_of-more (first ∷ commands) command =
    ap (λ (es : List Event). events_by first ++ es) (events_of-more commands command)
    ∙ sym (append_assoc (events_by first) (events_of commands) (events_by command))

-- so are those of the first commands and the next one
pub events_of-next : (commands : List Command) (n : ℕ) (past_end : Command)
    (before after : List Event) → n < length commands → before ≡ events_of (take n commands)
    → after ≡ before ++ events_by (get_or commands n past_end)
    → after ≡ events_of (take (n + 1) commands)
events_of-next commands n past_end before after within so_far is =
    let next = get_or commands n past_end in
    is ∙ ap (λ (es : List Event). es ++ events_by next) so_far
    ∙ sym (events_of-more (take n commands) next)
    ∙ ap events_of (sym (take_more commands n past_end within))

-- an event of a lawful command is lawful
lawful-by : (depth : ℕ) (command : Command) → IsAllowedCommand depth command
    → All (IsLawfulEvent depth) (events_by command)
lawful-by depth (AskedFor event) lawful =
    All-cons (IsLawfulEvent depth) event [] lawful (All-nil (IsLawfulEvent depth))
lawful-by depth (Shot normals) lawful = All-nil (IsLawfulEvent depth)
lawful-by depth Stats lawful = All-nil (IsLawfulEvent depth)
lawful-by depth (Pick x y) lawful = All-nil (IsLawfulEvent depth)

-- so are those of lawful commands
pub lawful-events : (depth : ℕ) (commands : List Command) → All (IsAllowedCommand depth) commands
    → All (IsLawfulEvent depth) (events_of commands)
lawful-events depth [] lawful = All-nil (IsLawfulEvent depth)
lawful-events depth (first ∷ rest) lawful =
    All-append (IsLawfulEvent depth) (events_by first) (events_of rest)
    (lawful-by depth first (All-head (IsAllowedCommand depth) first rest lawful))
    (lawful-events depth rest (All-tail (IsAllowedCommand depth) first rest lawful))

-- the line of one owner more
pub owner_lines-more : (owners : List ℕ) (owner : ℕ)
    → owner_lines (owners ++ owner ∷ []) ≡ owner_lines owners ++ owner_lines (owner ∷ [])
owner_lines-more [] owner = refl
owner_lines-more (first ∷ owners) owner =
    let head : List ℕ = codes "# from " ++ decimal first ++ codes "\n" in
    ap (λ (text : List ℕ). head ++ text) (owner_lines-more owners owner)
    ∙ sym (append_assoc head (owner_lines owners) (owner_lines (owner ∷ [])))

-- ---- the owners

-- the owners of the events that a world before any event read
pub owners-read : (asked : Editing) (lists : List (List Event)) (before after : BoardState)
    (is_whole : Bool) (result : Result (Vec ℕ Global) AllocError)
    → lists ≡ lists_below asked asked.editors → before.world.settings ≡ edited_world asked
    → before.world.events ≡ [] → before.marked ≡ 0
    → IfOk result (λ owners. AreOwners (list_of lists) owners.items)
    → IfOk result (λ owners. (after.world.settings ≡ before.world.settings)
    × (after.marked ≡ before.marked)
    × (is_whole ≡ true
    → after.world.events ≡ before.world.events ++ journal_of (list_of lists) owners.items))
    → IfOk result (λ owners. IsEditedBy asked owners.items after is_whole)
owners-read asked lists before after is_whole (Ok owners) lists_are rules none unmarked are read =
    record {
      editors = owners-editors asked owners.items
          (subst (λ (some : List (List Event)). AreOwners (list_of some) owners.items) lists_are
          are);
      settings = read.0 ∙ rules;
      unmarked = read.1 ∙ unmarked;
      journal = λ whole.
          read.2 whole
          ∙ ap (λ (es : List Event). es ++ journal_of (list_of lists) owners.items) none
          ∙ ap (λ (some : List (List Event)). journal_of (list_of some) owners.items) lists_are;
    }
owners-read asked lists before after is_whole (Err fault) lists_are rules none unmarked are read =
    tt

-- these owners with the stats of that world
pub owners-edited : (asked : Editing) (owners : List ℕ) (board : BoardState) (is_whole : Bool)
    (settings : Settings) (stats : StatsOf) → IsEditedBy asked owners board is_whole
    → is_whole ≡ true → settings ≡ edited_world asked
    → stats ≡ stats_of (scratch settings board.world.events) → AreEditorsWith asked owners stats
owners-edited asked owners board is_whole settings stats edited whole rules is = record {
  editors = edited.editors;
  stats_are = is
      ∙ ap (λ (some : Settings). stats_of (scratch some board.world.events)) rules
      ∙ ap (λ (es : List Event). stats_of (scratch (edited_world asked) es))
      (edited.journal whole);
}

-- ---- the text

-- the text of owners that are the editors, and of the stats with them
pub text-edited : (asked : Editing) (owners lent : List ℕ) (stats : StatsOf)
    (result : Result (Vec ℕ Global) AllocError) → AreEditorsWith asked owners stats → lent ≡ owners
    → IfOk result (λ text. text.items ≡ owner_lines lent ++ stats_text stats)
    → IfOk result (λ text. (some : List ℕ) × AreEditors asked some
    × (text.items ≡ edited_text asked some))
text-edited asked owners lent stats (Ok text) edited same is = (
  owners,
  edited.editors,
  is ∙ ap (λ (some : List ℕ). owner_lines some ++ stats_text stats) same
      ∙ ap (λ (one : StatsOf). owner_lines owners ++ stats_text one) edited.stats_are,
)
text-edited asked owners lent stats (Err fault) edited same is = tt
