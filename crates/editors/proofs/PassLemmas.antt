-- Passes that are made and handed in keep the rule of a mail's queue.
-- A new editor gets a place of its own, that of the new pass, and an editor that is handed in the clerk's (`moved`). No
-- other editor moves, since each is at another place (`apart`). The worlds get deeper only while there is no editor, so
-- no note.
use Rattle.std.proofs.Common.{◌≡◌, ◌≢◌, ℕ, ◌+◌, eqb, Bool, true, false, cond, List, [], ◌∷◌, ◌++◌, length, set, sym, refl, ap, ◌∙◌, subst, ⊎_elim, true≢false, arith}
use Rattle.std.proofs.lemmas.Bool.Decides.{eqb_tells}
use Rattle.std.proofs.lemmas.List.Elements.{All-nil, All-same}
use mathlib.Core.Option.{some}
use lib.ListN.{get_elem?}
use Rattle.crossbeam_queue.specs.Fifo.{Forks, Learns, Merges}
use Rattle.crossbeam_queue.proofs.Lists.{at_set}
use Rattle.editors.specs.declared.note.Note.{Note}
use Rattle.editors.specs.declared.sheet.Sheet.{Sheet}
use Rattle.editors.specs.declared.shown.Shown.{Shown}
use Rattle.editors.specs.Notes.{IsLawfulNote, notes_by}
use Rattle.editors.specs.Rule.{AreAt, AreSheets, DeliversInOrder, EndsWith, FitsClerk, FitsEditor, Gathers, IsOff}
use Rattle.editors.specs.Shown.{deeper, editor_of, first_shown, nothing_shown, with_made, with_sheet}
use Rattle.editors.proofs.NoteLemmas.{none_by_all, second_nil}
use Rattle.editors.proofs.RuleLemmas.{apart, at_last, here}

-- the places of editors once one of them is at another place
abbrev moved : (ℕ → ℕ) → ℕ → ℕ → ℕ → ℕ
moved seat editor place e = cond (eqb e editor) place (seat e)

-- the editor that moves is there
moved-own : (seat : ℕ → ℕ) (editor place : ℕ) → moved seat editor place editor ≡ place
moved-own seat editor place =
    ⊎_elim (λ (x : (eqb editor editor ≡ true) × (editor ≡ editor)).
    ap (λ (b : Bool). cond b place (seat editor)) x.0)
    (λ (x : (eqb editor editor ≡ false) × (editor ≢ editor)). absurd (x.1 refl))
    (eqb_tells editor editor)

-- and no other one moves
moved-other : (seat : ℕ → ℕ) (editor place e : ℕ) → e ≢ editor
    → moved seat editor place e ≡ seat e
moved-other seat editor place e other =
    ⊎_elim (λ (x : (eqb e editor ≡ true) × (e ≡ editor)). absurd (other x.1))
    (λ (x : (eqb e editor ≡ false) × (e ≢ editor)).
    ap (λ (b : Bool). cond b place (seat e)) x.0)
    (eqb_tells e editor)

-- one that was at a place is there still where that is the place to which one moves
moved-there : (seat : ℕ → ℕ) (editor place e : ℕ) → seat e ≡ place
    → moved seat editor place e ≡ place
moved-there seat editor place e at =
    ⊎_elim (λ (x : (eqb e editor ≡ true) × (e ≡ editor)).
    ap (λ (b : Bool). cond b place (seat e)) x.0)
    (λ (x : (eqb e editor ≡ false) × (e ≢ editor)).
    ap (λ (b : Bool). cond b place (seat e)) x.0 ∙ at)
    (eqb_tells e editor)

-- the same of the editors of sheets
all_moved-there : (seat : ℕ → ℕ) (editor place : ℕ) (sheets : List Sheet)
    → AreAt seat place sheets → AreAt (moved seat editor place) place sheets
all_moved-there seat editor place [] at = tt
all_moved-there seat editor place (sheet ∷ sheets) at = (
  moved-there seat editor place sheet.editor at.0,
  all_moved-there seat editor place sheets at.1,
)

-- an editor at a place fits where another one moves
fits-moved : (depth : ℕ) (seat : ℕ → ℕ) (editor to : ℕ) (notes : List Note) (j : ℕ) (u : Shown)
    → u.sheet.editor ≢ editor → FitsEditor depth seat notes j u
    → FitsEditor depth (moved seat editor to) notes j u
fits-moved depth seat editor to notes j u other fits = record {
  depth_is = fits.depth_is;
  seat_is = moved-other seat editor to u.sheet.editor other ∙ fits.seat_is;
  notes_are = fits.notes_are;
}

-- ---- the first pass

-- the clerk's pass of a new queue keeps the rule
pub begins : DeliversInOrder [] (first_shown ∷ [])
begins = record {
  depth = 0;
  clerk = 0;
  seat = λ editor. 0;
  taken = [];
  lawful = All-nil (IsLawfulNote 0);
  editors = λ place shown is sends.
      ⊎_elim (λ (was : get_elem? {A = Shown} [] place ≡ some shown). absurd cc)
      (λ (x : (place ≡ 0) × (first_shown ≡ shown)).
      absurd (true≢false (sym sends ∙ ap (λ (w : Shown). w.sends) (sym x.1))))
      (at_last [] first_shown shown place is);
  clerks = λ place shown is takes.
      ⊎_elim (λ (was : get_elem? {A = Shown} [] place ≡ some shown). absurd cc)
      (λ (x : (place ≡ 0) × (first_shown ≡ shown)).
      here (λ k w. FitsClerk 0 0 (λ editor. 0) [] [] k w) 0 first_shown place shown x.0 x.1
      (record {
        place_is = refl;
        depth_is = refl;
        taken_are = refl;
        others = λ editor made. (refl, refl);
        handed_in = tt;
        sheets = tt;
      }))
      (at_last [] first_shown shown place is);
}

-- ---- worlds get deeper

-- while no editor is made there is no note, so none that another depth makes unlawful
pub deepens : (place : ℕ) (a : Shown) → a.takes ≡ true → a.sends ≡ false → a.made ≡ 0
    → a.sheets ≡ [] → Forks DeliversInOrder place a (deeper a) nothing_shown
deepens place a takes silent none_made none_in items passes rule at =
    let mine = rule.clerks place a at takes in
    let left = deeper a in
    let changed = set passes place left in
    let notes = rule.taken ++ items in
    let none : notes ≡ [] =
    none_by_all notes (λ editor. (mine.others editor (omega arith)).1) in
    let no_item : items ≡ [] = second_nil rule.taken items none in
    let Fits : ℕ → Shown → Type 0 = λ j u.
    FitsClerk (rule.depth + 1) rule.clerk rule.seat rule.taken notes j u in record {
      depth = rule.depth + 1;
      clerk = rule.clerk;
      seat = rule.seat;
      taken = rule.taken;
      lawful = All-same (IsLawfulNote (rule.depth + 1)) items [] no_item
          (All-nil (IsLawfulNote (rule.depth + 1)));
      editors = λ j u is sends.
          ⊎_elim (λ (was : get_elem? changed j ≡ some u).
          ⊎_elim (λ (x : (j ≡ place) × (left ≡ u)).
          absurd (true≢false (sym sends ∙ ap (λ (w : Shown). w.sends) (sym x.1) ∙ silent)))
          (λ (x : (j ≢ place) × (get_elem? passes j ≡ some u)).
          absurd (x.0 (sym (rule.editors j u x.1 sends).seat_is
          ∙ (mine.others u.sheet.editor (omega arith)).0 ∙ sym mine.place_is)))
          (at_set passes place j left u was))
          (λ (x : (j ≡ length changed) × (nothing_shown ≡ u)).
          absurd (true≢false (sym sends ∙ ap (λ (w : Shown). w.sends) (sym x.1))))
          (at_last changed nothing_shown u j is);
      clerks = λ j u is does.
          ⊎_elim (λ (was : get_elem? changed j ≡ some u).
          ⊎_elim (λ (x : (j ≡ place) × (left ≡ u)).
          here Fits place left j u x.0 x.1
          (record {
            place_is = mine.place_is;
            depth_is = ap (λ (n : ℕ). n + 1) mine.depth_is;
            taken_are = mine.taken_are;
            others = mine.others;
            handed_in = mine.handed_in;
            sheets = mine.sheets;
          }))
          (λ (x : (j ≢ place) × (get_elem? passes j ≡ some u)).
          absurd (x.0 ((rule.clerks j u x.1 does).place_is ∙ sym mine.place_is)))
          (at_set passes place j left u was))
          (λ (x : (j ≡ length changed) × (nothing_shown ≡ u)).
          absurd (true≢false (sym does ∙ ap (λ (w : Shown). w.takes) (sym x.1))))
          (at_last changed nothing_shown u j is);
    }

-- ---- an editor is made

-- the clerk's pass fits once an editor is made
clerk_makes : (depth clerk : ℕ) (seat : ℕ → ℕ) (taken notes : List Note) (place : ℕ) (a : Shown)
    (to : ℕ) → a.sheets ≡ [] → FitsClerk depth clerk seat taken notes place a
    → FitsClerk depth clerk (moved seat a.made to) taken notes place (with_made a)
clerk_makes depth clerk seat taken notes place a to none_in fits = record {
  place_is = fits.place_is;
  depth_is = fits.depth_is;
  taken_are = fits.taken_are;
  others = λ editor made.
      let other : editor ≢ a.made = λ is. omega arith in
      let was = fits.others editor (omega arith) in
      (moved-other seat a.made to editor other ∙ was.0, was.1);
  handed_in = subst (AreAt (moved seat a.made to) clerk) (sym none_in) tt;
  sheets = fits.sheets;
}

-- a new editor keeps the rule
pub makes : (place : ℕ) (a : Shown) → a.takes ≡ true → a.sends ≡ false → a.sheets ≡ []
    → Forks DeliversInOrder place a (with_made a) (editor_of a)
makes place a takes silent none_in items passes rule at =
    let mine = rule.clerks place a at takes in
    let left = with_made a in
    let right = editor_of a in
    let changed = set passes place left in
    let notes = rule.taken ++ items in
    let to = length changed in
    let seat = moved rule.seat a.made to in
    let new = mine.others a.made (omega arith) in record {
      depth = rule.depth;
      clerk = rule.clerk;
      seat = seat;
      taken = rule.taken;
      lawful = rule.lawful;
      editors = λ j u is sends.
          ⊎_elim (λ (was : get_elem? changed j ≡ some u).
          ⊎_elim (λ (x : (j ≡ place) × (left ≡ u)).
          absurd (true≢false (sym sends ∙ ap (λ (w : Shown). w.sends) (sym x.1) ∙ silent)))
          (λ (x : (j ≢ place) × (get_elem? passes j ≡ some u)).
          let theirs = rule.editors j u x.1 sends in
          fits-moved rule.depth rule.seat a.made to notes j u
          (λ same. x.0 (sym theirs.seat_is ∙ ap rule.seat same ∙ new.0 ∙ sym mine.place_is))
          theirs)
          (at_set passes place j left u was))
          (λ (x : (j ≡ to) × (right ≡ u)).
          here (λ k w. FitsEditor rule.depth seat notes k w) to right j u x.0 x.1
          (record {
            depth_is = mine.depth_is;
            seat_is = moved-own rule.seat a.made to;
            notes_are = new.1;
          }))
          (at_last changed right u j is);
      clerks = λ j u is does.
          ⊎_elim (λ (was : get_elem? changed j ≡ some u).
          ⊎_elim (λ (x : (j ≡ place) × (left ≡ u)).
          here (λ k w. FitsClerk rule.depth rule.clerk seat rule.taken notes k w) place left j u
          x.0 x.1
          (clerk_makes rule.depth rule.clerk rule.seat rule.taken notes place a to none_in mine))
          (λ (x : (j ≢ place) × (get_elem? passes j ≡ some u)).
          absurd (x.0 ((rule.clerks j u x.1 does).place_is ∙ sym mine.place_is)))
          (at_set passes place j left u was))
          (λ (x : (j ≡ to) × (right ≡ u)).
          absurd (true≢false (sym does ∙ ap (λ (w : Shown). w.takes) (sym x.1))))
          (at_last changed right u j is);
    }

-- ---- an editor is handed in

-- an editor at another place is on none of the clerk's sheets
off : (seat : ℕ → ℕ) (editor place clerk : ℕ) (sheets : List Sheet) → seat editor ≡ place
    → place ≢ clerk → AreAt seat clerk sheets → IsOff editor sheets
off seat editor place clerk [] at other are = tt
off seat editor place clerk (sheet ∷ sheets) at other are = (
  apart seat sheet.editor editor clerk place are.0 at other,
  off seat editor place clerk sheets at other are.1,
)

-- the clerk's pass fits once an editor is handed in
clerk_gets : (depth clerk : ℕ) (seat : ℕ → ℕ) (taken notes : List Note) (place : ℕ) (a : Shown)
    (other : ℕ) (b : Shown) → other ≢ place → FitsEditor depth seat notes other b
    → FitsClerk depth clerk seat taken notes place a
    → FitsClerk depth clerk (moved seat b.sheet.editor clerk) taken notes place (with_sheet a b)
clerk_gets depth clerk seat taken notes place a other b two theirs fits = record {
  place_is = fits.place_is;
  depth_is = fits.depth_is;
  taken_are = fits.taken_are;
  others = λ editor made.
      let was = fits.others editor made in
      (moved-there seat b.sheet.editor clerk editor was.0, was.1);
  handed_in = (
    moved-own seat b.sheet.editor clerk,
    all_moved-there seat b.sheet.editor clerk a.sheets fits.handed_in,
  );
  sheets = (
    theirs.notes_are,
    off seat b.sheet.editor other clerk a.sheets theirs.seat_is
        (λ is. two (is ∙ sym fits.place_is)) fits.handed_in,
    fits.sheets,
  );
}

-- an editor that is handed in keeps the rule
pub hands_in : (place : ℕ) (a : Shown) (other : ℕ) (b : Shown) → a.takes ≡ true
    → a.sends ≡ false → b.sends ≡ true
    → Merges DeliversInOrder place a other b (with_sheet a b) nothing_shown
hands_in place a other b takes silent b_sends items passes rule at two there =
    let mine = rule.clerks place a at takes in
    let both = with_sheet a b in
    let changed = set passes place both in
    let notes = rule.taken ++ items in
    let was_b : get_elem? passes other ≡ some b =
    ⊎_elim (λ (x : (other ≡ place) × (both ≡ b)). absurd (two x.0))
    (λ (x : (other ≢ place) × (get_elem? passes other ≡ some b)). x.1)
    (at_set passes place other both b there) in
    let theirs = rule.editors other b was_b b_sends in
    let seat = moved rule.seat b.sheet.editor rule.clerk in record {
      depth = rule.depth;
      clerk = rule.clerk;
      seat = seat;
      taken = rule.taken;
      lawful = rule.lawful;
      editors = λ j u is sends.
          ⊎_elim (λ (x : (j ≡ other) × (nothing_shown ≡ u)).
          absurd (true≢false (sym sends ∙ ap (λ (w : Shown). w.sends) (sym x.1))))
          (λ (y : (j ≢ other) × (get_elem? changed j ≡ some u)).
          ⊎_elim (λ (x : (j ≡ place) × (both ≡ u)).
          absurd (true≢false (sym sends ∙ ap (λ (w : Shown). w.sends) (sym x.1) ∙ silent)))
          (λ (x : (j ≢ place) × (get_elem? passes j ≡ some u)).
          let here_too = rule.editors j u x.1 sends in
          fits-moved rule.depth rule.seat b.sheet.editor rule.clerk notes j u
          (λ same. y.0 (sym here_too.seat_is ∙ ap rule.seat same ∙ theirs.seat_is))
          here_too)
          (at_set passes place j both u y.1))
          (at_set changed other j nothing_shown u is);
      clerks = λ j u is does.
          ⊎_elim (λ (x : (j ≡ other) × (nothing_shown ≡ u)).
          absurd (true≢false (sym does ∙ ap (λ (w : Shown). w.takes) (sym x.1))))
          (λ (y : (j ≢ other) × (get_elem? changed j ≡ some u)).
          ⊎_elim (λ (x : (j ≡ place) × (both ≡ u)).
          here (λ k w. FitsClerk rule.depth rule.clerk seat rule.taken notes k w) place both j u
          x.0 x.1
          (clerk_gets rule.depth rule.clerk rule.seat rule.taken notes place a other b two theirs
          mine))
          (λ (x : (j ≢ place) × (get_elem? passes j ≡ some u)).
          absurd (x.0 ((rule.clerks j u x.1 does).place_is ∙ sym mine.place_is)))
          (at_set passes place j both u y.1))
          (at_set changed other j nothing_shown u is);
    }

-- ---- what is learnt

-- an editor learns that its last notes are in the queue
pub ends_with : (place : ℕ) (a : Shown) → Learns DeliversInOrder place a (EndsWith a)
ends_with place a items passes rule at sends =
    (rule.taken, (rule.editors place a at sends).notes_are)

-- and the clerk that it has all notes but those in the queue
pub gathers : (place : ℕ) (a : Shown) → Learns DeliversInOrder place a (Gathers a)
gathers place a items passes rule at takes =
    let mine = rule.clerks place a at takes in record {
      sheets_are = subst (λ (ns : List Note). AreSheets (ns ++ items) a.sheets)
          (sym mine.taken_are) mine.sheets;
      others = λ editor made.
          ap (λ (ns : List Note). notes_by editor (ns ++ items)) mine.taken_are
          ∙ (mine.others editor made).1;
    }
