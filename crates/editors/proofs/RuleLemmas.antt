-- Each step keeps the rule of a mail's queue.
-- Each editor is at one place, that of its own pass, or the clerk's where it isn't made yet or was handed in. So a note
-- that one editor sends changes the notes of no editor at another place (`others_stay`). A note that the clerk takes
-- goes from the front of the queue to the back of what was taken, so all notes together stay as they are. An editor
-- that is made or handed in changes its place alone.
use Rattle.std.proofs.Common.{◌≡◌, ◌≢◌, ℕ, zero, suc, ◌<◌, ◌≤◌, true, false, List, [], ◌∷◌, ◌++◌, length, sym, refl, ap, ◌∙◌, subst, ⊎_elim, ◌⊎◌, inl, inr, append_assoc, true≢false, lt_of_not-le, arith}
use Rattle.std.proofs.lemmas.List.Elements.{All-head, All-push, All-tail}
use mathlib.Core.Option.{some, some-ne-none, some-injective}
use lib.ListN.{get_elem?}
use Rattle.crossbeam_queue.specs.Fifo.{Pops, Pushes}
use Rattle.crossbeam_queue.proofs.Lists.{at_set}
use Rattle.editors.specs.declared.note.Note.{Note}
use Rattle.editors.specs.declared.note.Note.TheVariants.{Ended, Sent}
use Rattle.editors.specs.declared.sheet.Sheet.{Sheet}
use Rattle.editors.specs.declared.shown.Shown.{Shown}
use Rattle.editors.specs.Notes.{IsLawfulNote, author, notes_by, notes_of}
use Rattle.editors.specs.Rule.{AreAt, AreSheets, DeliversInOrder, FitsClerk, FitsEditor}
use Rattle.editors.specs.Sending.{MaySend}
use Rattle.editors.specs.Shown.{with_note, with_taken}
use Rattle.editors.proofs.NoteLemmas.{notes_by-other, notes_by-own, notes_by-some, notes_of-ended, notes_of-sent}

-- ---- places of passes

-- the pass at a place of a list with one more
pub at_last : {A : Type 0} (xs : List A) (a b : A) (place : ℕ)
    → get_elem? (xs ++ a ∷ []) place ≡ some b
    → (get_elem? xs place ≡ some b) ⊎ ((place ≡ length xs) × (a ≡ b))
at_last [] a b zero is = inr (refl, some-injective a b is)
at_last [] a b (suc place) is = absurd (some-ne-none b (sym is))
at_last (x ∷ xs) a b zero is = inl is
at_last (x ∷ xs) a b (suc place) is =
    ⊎_elim (λ (was : get_elem? xs place ≡ some b). inl was)
    (λ (y : (place ≡ length xs) × (a ≡ b)). inr (omega (arith, y.0), y.1))
    (at_last xs a b place is)

-- two editors at different places aren't one
pub apart : (seat : ℕ → ℕ) (e f p q : ℕ) → seat e ≡ p → seat f ≡ q → q ≢ p → e ≢ f
apart seat e f p q at_e at_f other same = other (sym at_f ∙ ap seat (sym same) ∙ at_e)

-- what holds of the pass at a place, with the equations by which the place and the pass are known
pub here : (P : ℕ → Shown → Type 0) (place : ℕ) (a : Shown) (j : ℕ) (u : Shown) → j ≡ place → a ≡ u
    → P place a → P j u
here P place a j u is_place is_shown holds =
    subst (λ (y : ℕ × Shown). P y.0 y.1) (λ i. (sym is_place i, is_shown i)) holds

-- ---- a note is sent

-- one more note of an editor at one place changes the sheets of no editors at another
others_stay : (seat : ℕ → ℕ) (p q : ℕ) (notes : List Note) (note : Note) (sheets : List Sheet)
    → seat (author note) ≡ p → q ≢ p → AreAt seat q sheets → AreSheets notes sheets
    → AreSheets (notes ++ note ∷ []) sheets
others_stay seat p q notes note [] at_p other at_q are = tt
others_stay seat p q notes note (sheet ∷ sheets) at_p other at_q are = (
  notes_by-other sheet.editor notes note
      (apart seat (author note) sheet.editor p q at_p at_q.0 other)
      ∙ are.0,
  are.1,
  others_stay seat p q notes note sheets at_p other at_q.1 are.2,
)

-- an editor's pass shows one more note, which it may send
pub record Adds (a new : Shown) (note : Note) : Type 0 where
  pub sends : a.sends ≡ true
  pub takes : new.takes ≡ false
  pub depth : new.depth ≡ a.depth
  pub editor : new.sheet.editor ≡ a.sheet.editor
  pub own : author note ≡ a.sheet.editor
  pub lawful : IsLawfulNote a.depth note
  pub notes : notes_of new.sheet ≡ notes_of a.sheet ++ note ∷ []

-- a note that may be sent is such a note
adds : (a : Shown) (note : Note) → MaySend a note → Adds a (with_note a note) note
adds a (Sent editor event) may = record {
  sends = may.sends;
  takes = may.takes;
  depth = refl;
  editor = refl;
  own = may.own;
  lawful = may.lawful;
  notes = notes_of-sent a.sheet.editor a.sheet.events a.sheet.has_ended editor event may.goes_on
      may.own;
}
adds a (Ended editor) may = record {
  sends = may.sends;
  takes = may.takes;
  depth = refl;
  editor = refl;
  own = may.own;
  lawful = may.lawful;
  notes = notes_of-ended a.sheet.editor a.sheet.events a.sheet.has_ended editor may.goes_on
      may.own;
}

-- the pass that sent it fits
sender_fits : (depth : ℕ) (seat : ℕ → ℕ) (notes : List Note) (place : ℕ) (a new : Shown)
    (note : Note) → Adds a new note → FitsEditor depth seat notes place a
    → FitsEditor depth seat (notes ++ note ∷ []) place new
sender_fits depth seat notes place a new note more fits = record {
  depth_is = more.depth ∙ fits.depth_is;
  seat_is = ap seat more.editor ∙ fits.seat_is;
  notes_are =
      ap (λ (e : ℕ). notes_by e (notes ++ note ∷ [])) more.editor
      ∙ notes_by-own a.sheet.editor notes note more.own
      ∙ ap (λ (ns : List Note). ns ++ note ∷ []) fits.notes_are
      ∙ sym more.notes;
}

-- and so do the passes of other editors
editor_stays : (depth : ℕ) (seat : ℕ → ℕ) (notes : List Note) (note : Note) (p j : ℕ) (u : Shown)
    → seat (author note) ≡ p → j ≢ p → FitsEditor depth seat notes j u
    → FitsEditor depth seat (notes ++ note ∷ []) j u
editor_stays depth seat notes note p j u at_p other fits = record {
  depth_is = fits.depth_is;
  seat_is = fits.seat_is;
  notes_are = notes_by-other u.sheet.editor notes note
      (apart seat (author note) u.sheet.editor p j at_p fits.seat_is other)
      ∙ fits.notes_are;
}

-- and the clerk's
clerk_stays : (depth clerk : ℕ) (seat : ℕ → ℕ) (taken notes : List Note) (note : Note) (p j : ℕ)
    (u : Shown) → seat (author note) ≡ p → j ≢ p → FitsClerk depth clerk seat taken notes j u
    → FitsClerk depth clerk seat taken (notes ++ note ∷ []) j u
clerk_stays depth clerk seat taken notes note p j u at_p other fits =
    let away : clerk ≢ p = λ is. other (fits.place_is ∙ is) in record {
      place_is = fits.place_is;
      depth_is = fits.depth_is;
      taken_are = fits.taken_are;
      others = λ editor made.
          let at = fits.others editor made in (
            at.0,
            notes_by-other editor notes note
                (apart seat (author note) editor p clerk at_p at.0 away)
                ∙ at.1,
          );
      handed_in = fits.handed_in;
      sheets = others_stay seat p clerk notes note u.sheets at_p away fits.handed_in fits.sheets;
    }

-- a note is sent
pub pushes : (places place : ℕ) (a : Shown) (note : Note) → MaySend a note
    → Pushes DeliversInOrder places place a note (λ new. new ≡ with_note a note)
pushes places place a note may items passes room rule at =
    let new = with_note a note in
    let more : Adds a new note = adds a note may in
    let mine = rule.editors place a at may.sends in
    let notes = rule.taken ++ items in
    let all : rule.taken ++ (items ++ note ∷ []) ≡ notes ++ note ∷ [] =
    sym (append_assoc rule.taken items (note ∷ [])) in
    let at_place : rule.seat (author note) ≡ place = ap rule.seat may.own ∙ mine.seat_is in (
      new,
      record {
        depth = rule.depth;
        clerk = rule.clerk;
        seat = rule.seat;
        taken = rule.taken;
        lawful = All-push (IsLawfulNote rule.depth) items note rule.lawful
            (subst (λ (d : ℕ). IsLawfulNote d note) mine.depth_is may.lawful);
        editors = λ j u is sends.
            subst (λ (ns : List Note). FitsEditor rule.depth rule.seat ns j u) (sym all)
            (⊎_elim (λ (x : (j ≡ place) × (new ≡ u)).
            here (λ k w. FitsEditor rule.depth rule.seat (notes ++ note ∷ []) k w) place new j u
            x.0 x.1
            (sender_fits rule.depth rule.seat notes place a new note more mine))
            (λ (x : (j ≢ place) × (get_elem? passes j ≡ some u)).
            editor_stays rule.depth rule.seat notes note place j u at_place x.0
            (rule.editors j u x.1 sends))
            (at_set passes place j new u is));
        clerks = λ j u is takes.
            subst (λ (ns : List Note). FitsClerk rule.depth rule.clerk rule.seat rule.taken ns j u)
            (sym all)
            (⊎_elim (λ (x : (j ≡ place) × (new ≡ u)).
            absurd (true≢false (sym takes ∙ ap (λ (w : Shown). w.takes) (sym x.1) ∙ more.takes)))
            (λ (x : (j ≢ place) × (get_elem? passes j ≡ some u)).
            clerk_stays rule.depth rule.clerk rule.seat rule.taken notes note place j u at_place x.0
            (rule.clerks j u x.1 takes))
            (at_set passes place j new u is));
      },
      refl,
    )

-- ---- a note is taken

-- a clerk's note is of an editor that was made
made_before : (depth clerk : ℕ) (seat : ℕ → ℕ) (taken items : List Note) (note : Note)
    (place : ℕ) (a : Shown) → FitsClerk depth clerk seat taken (taken ++ note ∷ items) place a
    → author note < a.made
made_before depth clerk seat taken items note place a fits =
    lt_of_not-le (λ (past : a.made ≤ author note).
    notes_by-some (author note) taken note items refl (fits.others (author note) past).1)

-- a note is taken
pub pops : (place : ℕ) (a : Shown) → a.takes ≡ true → a.sends ≡ false
    → Pops DeliversInOrder place a
    (λ note new. (new ≡ with_taken a note) × IsLawfulNote a.depth note × (author note < a.made))
pops place a takes silent note items passes rule at =
    let new = with_taken a note in
    let mine = rule.clerks place a at takes in
    let taken = rule.taken ++ note ∷ [] in
    let all : taken ++ items ≡ rule.taken ++ note ∷ items =
    append_assoc rule.taken (note ∷ []) items in
    let lawful = All-head (IsLawfulNote rule.depth) note items rule.lawful in (
      new,
      record {
        depth = rule.depth;
        clerk = rule.clerk;
        seat = rule.seat;
        taken = taken;
        lawful = All-tail (IsLawfulNote rule.depth) note items rule.lawful;
        editors = λ j u is sends.
            subst (λ (ns : List Note). FitsEditor rule.depth rule.seat ns j u) (sym all)
            (⊎_elim (λ (x : (j ≡ place) × (new ≡ u)).
            absurd (true≢false (sym sends ∙ ap (λ (w : Shown). w.sends) (sym x.1) ∙ silent)))
            (λ (x : (j ≢ place) × (get_elem? passes j ≡ some u)). rule.editors j u x.1 sends)
            (at_set passes place j new u is));
        clerks = λ j u is does.
            subst (λ (ns : List Note). FitsClerk rule.depth rule.clerk rule.seat taken ns j u)
            (sym all)
            (⊎_elim (λ (x : (j ≡ place) × (new ≡ u)).
            here (λ k w.
            FitsClerk rule.depth rule.clerk rule.seat taken (rule.taken ++ note ∷ items) k w)
            place new j u x.0 x.1
            (record {
              place_is = mine.place_is;
              depth_is = mine.depth_is;
              taken_are = ap (λ (ns : List Note). ns ++ note ∷ []) mine.taken_are;
              others = mine.others;
              handed_in = mine.handed_in;
              sheets = mine.sheets;
            }))
            (λ (x : (j ≢ place) × (get_elem? passes j ≡ some u)).
            absurd (x.0 ((rule.clerks j u x.1 does).place_is ∙ sym mine.place_is)))
            (at_set passes place j new u is));
      },
      (
        refl,
        subst (λ (d : ℕ). IsLawfulNote d note) (sym mine.depth_is) lawful,
        made_before rule.depth rule.clerk rule.seat rule.taken items note place a mine,
      ),
    )
