-- What became of all notes, where all editors were handed in.
-- Notes that are those on sheets of different editors, and of no other editor, have as many events as these sent
-- (`counts`): the notes of the first editor are its own, and the others are those of the other sheets. An editor's
-- events are those in its notes (`events_of`), and its end note is the last of them (`ends_last`).
use Rattle.std.proofs.Common.{◌≡◌, ◌≢◌, ℕ, zero, suc, ◌+◌, ◌<◌, ◌≤◌, eqb, Bool, true, false, cond, not, List, [], ◌∷◌, ◌++◌, length, map, slice_index_or, sym, refl, ap, ◌∙◌, subst, ⊎_elim, ◌⊎◌, inl, inr, append-nil, ne_eqb, true≢false, arith, All, Any, ◌||◌, length-append}
use Rattle.std.proofs.lemmas.Bool.{cases_eq, cases_lt}
use Rattle.std.proofs.lemmas.Bool.Decides.{eqb_tells}
use Rattle.std.proofs.lemmas.List.Elements.{All-cons, All-head, All-nil, All-tail}
use Rattle.std.specs.List.{filter}
use Rattle.crossbeam_queue.specs.Passes.{view}
use Rattle.terrain.specs.declared.event.Event.{Event}
use Rattle.editors.specs.declared.clerk.Clerk.{Clerk}
use Rattle.editors.specs.declared.editor.Ended.{Ended}
use Rattle.editors.specs.declared.mail.Mail.{Mail}
use Rattle.editors.specs.declared.note.Note.{Note}
use Rattle.editors.specs.declared.note.Note.TheVariants as note
use Rattle.editors.specs.declared.sheet.Sheet.{Sheet}
use Rattle.editors.specs.declared.shown.Shown.{Shown}
use Rattle.editors.specs.Letters.{AreLetters, IsDelivered, IsEmptied, sent_count, sheets_of, with_sheets}
use Rattle.editors.specs.Mail.{IsClerkOf, IsEndedOf}
use Rattle.editors.specs.Notes.{author, events_in, has_end, notes_by, notes_of}
use Rattle.editors.specs.Rule.{AreSheets, IsOff, HasAllNotes}
use Rattle.editors.proofs.ClerkLemmas.{length-owners_in}
use Rattle.editors.proofs.NoteLemmas.{none_by_all, notes_by-append, second_nil}

-- ---- events in notes

-- one list behind the other
pub events_in-append : (xs ys : List Note) → events_in (xs ++ ys) ≡ events_in xs ++ events_in ys
events_in-append [] ys = refl
events_in-append (note.Sent editor event ∷ xs) ys =
    ap (λ (es : List Event). event ∷ es) (events_in-append xs ys)
events_in-append (note.Ended editor ∷ xs) ys = events_in-append xs ys

-- the events in what an editor has sent
events_in-sent : (editor : ℕ) (events : List Event) (rest : List Note) → events_in rest ≡ []
    → events_in (map (note.Sent editor) events ++ rest) ≡ events
events_in-sent editor [] rest none = none
events_in-sent editor (event ∷ events) rest none =
    ap (λ (es : List Event). event ∷ es) (events_in-sent editor events rest none)

-- an end note has no event, whether it is there or not
no_event : (b : Bool) (editor : ℕ) → events_in (cond b (note.Ended editor ∷ []) []) ≡ []
no_event true editor = refl
no_event false editor = refl

-- the events in the notes of a sheet are its own
pub events_of : (sheet : Sheet) → events_in (notes_of sheet) ≡ sheet.events
events_of sheet =
    events_in-sent sheet.editor sheet.events
    (cond sheet.has_ended (note.Ended sheet.editor ∷ []) []) (no_event sheet.has_ended sheet.editor)

-- ---- the end note is the last

-- a list of events' notes with an end note behind them, cut in two behind the end note
ends_last : (editor : ℕ) (events : List Event) (xs ys : List Note)
    → xs ++ ys ≡ map (note.Sent editor) events ++ note.Ended editor ∷ []
    → has_end editor xs ≡ true → ys ≡ []
ends_last editor events [] ys is has = absurd (true≢false (sym has))
ends_last editor [] (x ∷ xs) ys is has = second_nil xs ys (cc)
ends_last editor (event ∷ events) (note.Sent by sent ∷ xs) ys is has =
    ends_last editor events xs ys (cc) has
ends_last editor (event ∷ events) (note.Ended by ∷ xs) ys is has = absurd (cc)

-- an editor's end note is among its notes
kept_sent : (editor by : ℕ) (event : Event) (notes : List Note) (b : Bool)
    → has_end editor (cond b (note.Sent by event ∷ notes) notes) ≡ has_end editor notes
kept_sent editor by event notes true = refl
kept_sent editor by event notes false = refl

-- the same where it is the end note that is looked for
kept_end : (editor by : ℕ) (notes : List Note) (b : Bool) → eqb by editor ≡ b
    → has_end editor (cond b (note.Ended by ∷ notes) notes) ≡ (b || has_end editor notes)
kept_end editor by notes true is = ap (λ (c : Bool). c || has_end editor notes) is
kept_end editor by notes false is = refl

-- so the end note of an editor is among all notes exactly where it is among its own
pub has_end-by : (editor : ℕ) (notes : List Note)
    → has_end editor (notes_by editor notes) ≡ has_end editor notes
has_end-by editor [] = refl
has_end-by editor (note.Sent by event ∷ notes) =
    kept_sent editor by event (notes_by editor notes) (eqb by editor) ∙ has_end-by editor notes
has_end-by editor (note.Ended by ∷ notes) =
    kept_end editor by (notes_by editor notes) (eqb by editor) refl
    ∙ ap (λ (c : Bool). eqb by editor || c) (has_end-by editor notes)

-- ---- of an editor that was handed in

-- what it sent is delivered
delivered : (mail : Mail) (taken left : List Note) (ended : Ended) → IsEndedOf mail ended
    → notes_by (view ended.pass).sheet.editor (taken ++ left) ≡ notes_of (view ended.pass).sheet
    → IsDelivered taken left ended
delivered mail taken left ended of are =
    let sheet = (view ended.pass).sheet in
    let number : sheet.editor ≡ ended.number = of.pass.number_is in
    let cut : notes_by ended.number taken ++ notes_by ended.number left ≡ notes_of sheet =
    sym (notes_by-append ended.number taken left)
    ∙ ap (λ (n : ℕ). notes_by n (taken ++ left)) (sym number) ∙ are in
    let ends : notes_of sheet
    ≡ map (note.Sent ended.number) sheet.events ++ note.Ended ended.number ∷ [] =
    ap (λ (b : Bool). map (note.Sent sheet.editor) sheet.events
    ++ cond b (note.Ended sheet.editor ∷ []) []) of.has_ended
    ∙ ap (λ (n : ℕ). map (note.Sent n) sheet.events ++ note.Ended n ∷ []) number in record {
      events =
          sym (events_of sheet) ∙ ap events_in (sym cut)
          ∙ events_in-append (notes_by ended.number taken) (notes_by ended.number left);
      whole = λ has.
          ends_last ended.number sheet.events (notes_by ended.number taken)
          (notes_by ended.number left) (cut ∙ ends)
          (has_end-by ended.number taken ∙ has);
    }

-- and so is that of all editors
pub all_delivered : (mail : Mail) (taken left : List Note) (ended : List Ended)
    → All (IsEndedOf mail) ended → AreSheets (taken ++ left) (sheets_of ended)
    → All (IsDelivered taken left) ended
all_delivered mail taken left [] of are = All-nil (IsDelivered taken left)
all_delivered mail taken left (e ∷ ended) of are =
    All-cons (IsDelivered taken left) e ended
    (delivered mail taken left e (All-head (IsEndedOf mail) e ended of) are.0)
    (all_delivered mail taken left ended (All-tail (IsEndedOf mail) e ended of) are.2)

-- ---- all events together

-- the notes that aren't an editor's
abbrev notes_off : ℕ → List Note → List Note
notes_off editor notes = filter (λ (n : Note). not (eqb (author n) editor)) notes

-- the notes of another editor are among these, and its own aren't
off-other : (editor other : ℕ) (notes : List Note) → other ≢ editor
    → notes_by other (notes_off editor notes) ≡ notes_by other notes
off-other editor other [] apart = refl
off-other editor other (n ∷ notes) apart =
    let more = off-other editor other notes apart in
    ⊎_elim (λ (x : (eqb (author n) editor ≡ true) × (author n ≡ editor)).
    ap (λ (b : Bool).
    notes_by other (cond (not b) (n ∷ notes_off editor notes) (notes_off editor notes)))
    x.0
    ∙ more
    ∙ ap (λ (b : Bool). cond b (n ∷ notes_by other notes) (notes_by other notes))
    (sym (ne_eqb (author n) other (λ is. apart (sym is ∙ x.1)))))
    (λ (x : (eqb (author n) editor ≡ false) × (author n ≢ editor)).
    ap (λ (b : Bool).
    notes_by other (cond (not b) (n ∷ notes_off editor notes) (notes_off editor notes)))
    x.0
    ∙ ap (λ (ns : List Note). cond (eqb (author n) other) (n ∷ ns) ns) more)
    (eqb_tells (author n) editor)

-- the notes that aren't an editor's have none of its
off-own : (editor : ℕ) (notes : List Note) → notes_by editor (notes_off editor notes) ≡ []
off-own editor [] = refl
off-own editor (n ∷ notes) =
    let more = off-own editor notes in
    let here : (b : Bool) → eqb (author n) editor ≡ b
    → notes_by editor (notes_off editor (n ∷ notes))
    ≡ notes_by editor (cond (not b) (n ∷ notes_off editor notes) (notes_off editor notes)) =
    λ b is. ap (λ (c : Bool).
    notes_by editor (cond (not c) (n ∷ notes_off editor notes) (notes_off editor notes))) is in
    ⊎_elim (λ (x : (eqb (author n) editor ≡ true) × (author n ≡ editor)). here true x.0 ∙ more)
    (λ (x : (eqb (author n) editor ≡ false) × (author n ≢ editor)).
    here false x.0
    ∙ ap (λ (b : Bool). cond b (n ∷ notes_by editor (notes_off editor notes))
    (notes_by editor (notes_off editor notes))) x.0
    ∙ more)
    (eqb_tells (author n) editor)

-- one that has no note has none among fewer
off-none : (editor other : ℕ) (notes : List Note) → notes_by other notes ≡ []
    → notes_by other (notes_off editor notes) ≡ []
off-none editor other notes none =
    ⊎_elim (λ (is : other ≡ editor).
    subst (λ (e : ℕ). notes_by e (notes_off editor notes) ≡ []) (sym is) (off-own editor notes))
    (λ (apart : other ≢ editor). off-other editor other notes apart ∙ none)
    (cases_eq other editor)

-- an editor's notes and the others have all events together
single : (n : Note) (notes : List Note)
    → length (events_in (n ∷ notes)) ≡ length (events_in (n ∷ [])) + length (events_in notes)
single (note.Sent editor event) notes = omega arith
single (note.Ended editor) notes = omega arith

-- one more note is on one side or on the other
parts : (n : Note) (own others : List Note) (b : Bool)
    → length (events_in (cond b (n ∷ own) own))
    + length (events_in (cond (not b) (n ∷ others) others))
    ≡ length (events_in (n ∷ [])) + (length (events_in own) + length (events_in others))
parts n own others true = omega (arith, single n own)
parts n own others false = omega (arith, single n others)

-- so both sides have all events together
both : (editor : ℕ) (notes : List Note)
    → length (events_in (notes_by editor notes)) + length (events_in (notes_off editor notes))
    ≡ length (events_in notes)
both editor [] = refl
both editor (n ∷ notes) =
    omega (
      arith,
      parts n (notes_by editor notes) (notes_off editor notes) (eqb (author n) editor),
      both editor notes,
      single n notes,
    )

-- sheets of other editors have their notes among those that aren't an editor's
sheets_off : (editor : ℕ) (notes : List Note) (sheets : List Sheet) → IsOff editor sheets
    → AreSheets notes sheets → AreSheets (notes_off editor notes) sheets
sheets_off editor notes [] off are = tt
sheets_off editor notes (sheet ∷ sheets) off are = (
  off-other editor sheet.editor notes off.0 ∙ are.0,
  are.1,
  sheets_off editor notes sheets off.1 are.2,
)

-- one of these sheets is an editor's
abbrev pub IsOn : ℕ → List Sheet → Type 0
IsOn editor [] = ⊥
IsOn editor (sheet ∷ sheets) = (sheet.editor ≡ editor) ⊎ IsOn editor sheets

-- how many events are on sheets
abbrev pub on_sheets : List Sheet → ℕ
on_sheets [] = 0
on_sheets (sheet ∷ sheets) = length sheet.events + on_sheets sheets

-- where all notes are on sheets, so are all events
pub counts : (sheets : List Sheet) (notes : List Note) → AreSheets notes sheets
    → ((editor : ℕ) → IsOn editor sheets ⊎ (notes_by editor notes ≡ []))
    → length (events_in notes) ≡ on_sheets sheets
counts [] notes are each =
    ap (λ (ns : List Note). length (events_in ns))
    (none_by_all notes (λ editor.
    ⊎_elim (λ (x : ⊥). absurd x) (λ (none : notes_by editor notes ≡ []). none) (each editor)))
counts (sheet ∷ sheets) notes are each =
    let others = notes_off sheet.editor notes in
    let Left : ℕ → Type 0 = λ e. IsOn e sheets ⊎ (notes_by e others ≡ []) in
    let left : (e : ℕ) → Left e = λ e.
    ⊎_elim (λ (on : (sheet.editor ≡ e) ⊎ IsOn e sheets).
    ⊎_elim (λ (is : sheet.editor ≡ e). subst Left is (inr (off-own sheet.editor notes)))
    (λ (x : IsOn e sheets). inl x) on)
    (λ (none : notes_by e notes ≡ []). inr (off-none sheet.editor e notes none))
    (each e) in
    omega (
      arith,
      both sheet.editor notes,
      ap (λ (ns : List Note). length (events_in ns)) are.0,
      ap (λ (es : List Event). length es) (events_of sheet),
      counts sheets others (sheets_off sheet.editor notes sheets are.1 are.2) left,
    )

-- ---- of all editors together

-- sheets have what their editors sent
sheets-count : (ended : List Ended) → on_sheets (sheets_of ended) ≡ sent_count ended
sheets-count [] = refl
sheets-count (e ∷ ended) =
    ap (λ (n : ℕ). length (view e.pass).sheet.events + n) (sheets-count ended)

-- the sheet of an editor that was handed in is there
on_sheet : (mail : Mail) (editor : ℕ) (ended : List Ended) (k : ℕ) (one : Ended)
    → All (IsEndedOf mail) ended → k < length ended → slice_index_or ended k one ≡ one
    → one.number ≡ editor → IsOn editor (sheets_of ended)
on_sheet mail editor [] k one of within at is = absurd (omega arith)
on_sheet mail editor (e ∷ ended) zero one of within at is =
    let here = All-head (IsEndedOf mail) e ended of in
    inl (here.pass.number_is ∙ ap (λ (x : Ended). x.number) at ∙ is)
on_sheet mail editor (e ∷ ended) (suc k) one of within at is =
    inr (on_sheet mail editor ended k one (All-tail (IsEndedOf mail) e ended of) (omega arith) at
    is)

-- events that were taken and that were left are those that were sent
pub all_counted : (mail : Mail) (editors : ℕ) (taken left : List Note) (ended : List Ended)
    → All (IsEndedOf mail) ended
    → ((e : ℕ) → e < editors → Any (λ (one : Ended). one.number ≡ e) ended)
    → HasAllNotes (taken ++ left) editors (sheets_of ended)
    → length (events_in taken) + length (events_in left) ≡ sent_count ended
all_counted mail editors taken left ended of each whole =
    let on : (e : ℕ) → IsOn e (sheets_of ended) ⊎ (notes_by e (taken ++ left) ≡ []) = λ e.
    ⊎_elim (λ (within : e < editors).
    let one = each e within in inl (on_sheet mail e ended one.0 one.1 of one.2 one.3 one.4))
    (λ (past : editors ≤ e). inr (whole.others e past))
    (cases_lt e editors) in
    omega (
      arith,
      counts (sheets_of ended) (taken ++ left) whole.sheets_are on,
      sheets-count ended,
      ap (λ (es : List Event). length es) (events_in-append taken left),
      length-append (events_in taken) (events_in left),
    )

-- ---- the letters

-- what is known of a mail that is closed
pub letters_are : (mail : Mail) (clerk : Clerk) (ended : List Ended) (shown : Shown)
    (left : List Note) (taken count : ℕ) → IsClerkOf mail clerk → All (IsEndedOf mail) ended
    → ((e : ℕ) → e < clerk.editors → Any (λ (one : Ended). one.number ≡ e) ended)
    → shown ≡ with_sheets (view clerk.pass) (sheets_of ended ++ (view clerk.pass).sheets)
    → IsEmptied shown left count → taken ≡ length clerk.owners.items
    → AreLetters clerk ended (record { taken = taken; left = count }) left
letters_are mail clerk ended shown left taken count of are each is emptied taken_is =
    let before = view clerk.pass in
    let sheets : sheets_of ended ++ before.sheets ≡ sheets_of ended =
    ap (λ (ss : List Sheet). sheets_of ended ++ ss) of.none_in ∙ append-nil (sheets_of ended) in
    let Whole : Shown → Type 0 = λ s. HasAllNotes (s.taken ++ left) s.made s.sheets in
    let found : HasAllNotes (before.taken ++ left) before.made (sheets_of ended ++ before.sheets) =
    subst Whole is emptied.whole in
    let whole : HasAllNotes (before.taken ++ left) clerk.editors (sheets_of ended) =
    subst (λ (y : ℕ × List Sheet). HasAllNotes (before.taken ++ left) y.0 y.1)
    (λ i. (of.pass.made i, sheets i)) found in
    let took : taken ≡ length (events_in before.taken) =
    taken_is ∙ ap (λ (es : List ℕ). length es) of.keeps.owners
    ∙ length-owners_in before.taken in record {
      each = all_delivered mail before.taken left ended are whole.sheets_are;
      taken_are = took;
      left_are = emptied.count_is;
      all = omega (
        arith,
        took,
        emptied.count_is,
        all_counted mail clerk.editors before.taken left ended are each whole,
      );
    }
