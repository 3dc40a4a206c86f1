-- A field with the edits that make it, after one more edit and after an undo, and what is kept of the newest of them.
-- An edit keeps the pages that it changed: put back they make the field before it, and those of the edits before it go
-- on from there (IsEdited-more). So where the first of them are put back, the field is that of the edits before the
-- newest, and the rest gives back the fields before those (IsEdited-less). To forget the oldest leaves a first part of
-- what is kept (GiveBack-front). A replay begins with no edit (IsEdited-none).
use Rattle.std.proofs.Common.{◌≡◌, ℕ, zero, suc, ◌+◌, ◌-◌, ◌<◌, ◌≤◌, List, [], ◌∷◌, ◌++◌, All, get_or, length, take, refl, sym, ap, ◌∙◌, subst, arith, append-nil, append_assoc}
use Rattle.std.proofs.lemmas.List.Elements.{All-cons, All-drop, All-nil}
use Rattle.std.proofs.lemmas.List.{drop-append-le, get_or-reverse, length-reverse, reverse-append}
use Rattle.std.specs.Prelude.{drop, reverse}
use Rattle.brushes.specs.Brushed.{IsBrushed}
use Rattle.field_pages.specs.Kept.{AreChanged, OldPages, page_count, restored}
use Rattle.field_pages.specs.Pages.{HoldsField, Pages}
use Rattle.lattice.specs.Settings.{IsDepth}
use Rattle.terrain.specs.declared.brush.Brush.{Brush}
use Rattle.terrain.specs.Brushes.{IsLawful}
use Rattle.terrain.specs.History.{field_of}
use Rattle.terrain.specs.Samples.{opening}
use Rattle.terra_events.specs.KeptEdits.{EditedState, GiveBack, HoldsEdits, IsEdited, IsFront, all_pages}

-- ---- what is kept

-- one more at the end
pub all_pages-push : (kept : List OldPages) (oldest : OldPages)
    → all_pages (kept ++ oldest ∷ []) ≡ all_pages kept + page_count oldest.layers
all_pages-push [] oldest = omega arith
all_pages-push (newest ∷ kept) oldest =
    omega (arith, all_pages-push kept oldest)

-- pages are those of an edit
pub some_pages : (kept : List OldPages) → 0 < all_pages kept → 0 < length kept
some_pages [] some = absurd (omega arith)
some_pages (newest ∷ kept) some = omega arith

-- a list begins with itself
pub IsFront-all : {A : Type 0} (xs ys : List A) → ys ≡ xs → IsFront xs ys
IsFront-all xs ys same = record { rest = []; is = same ∙ sym (append-nil xs) }

-- and with the list before its last item
pub IsFront-less : {A : Type 0} (front whole less : List A) (last : A) → front ≡ less ++ last ∷ []
    → IsFront front whole → IsFront less whole
IsFront-less front whole less last is of = record {
  rest = last ∷ of.rest;
  is = of.is ∙ ap (λ xs. xs ++ of.rest) is ∙ append_assoc less (last ∷ []) of.rest;
}

-- the first of old pages give back the fields before the first edits
pub GiveBack-front : (depth : ℕ) (front rest : List OldPages) (pages : Pages) (edits : List Brush)
    → GiveBack depth (front ++ rest) pages edits → GiveBack depth front pages edits
GiveBack-front depth [] rest pages edits back = tt
GiveBack-front depth (kept ∷ front) rest pages edits back = (
  back.0,
  back.1,
  GiveBack-front depth front rest (restored kept pages) (drop 1 edits) back.2,
)

-- ---- edits, the oldest of them first

-- all but the last one, the newest first
reversed-take : {A : Type 0} (xs : List A) (n : ℕ) → length xs ≡ n + 1
    → reverse (take n xs) ≡ drop 1 (reverse xs)
reversed-take [] n is = absurd (omega arith)
reversed-take (x ∷ []) zero is = refl
reversed-take (x ∷ []) (suc n) is = absurd (omega arith)
reversed-take (x ∷ y ∷ ys) zero is = absurd (omega arith)
reversed-take (x ∷ y ∷ ys) (suc n) is =
    let some : 1 ≤ length (reverse (y ∷ ys)) = omega (arith, length-reverse (y ∷ ys)) in
    reverse-append (x ∷ []) (take n (y ∷ ys))
    ∙ ap (λ r. r ++ x ∷ []) (reversed-take (y ∷ ys) n (omega arith))
    ∙ sym (drop-append-le 1 (reverse (y ∷ ys)) (x ∷ []) some)
    ∙ sym (ap (drop 1) (reverse-append (x ∷ []) (y ∷ ys)))

-- so too where there may be none
pub rest-reversed : {A : Type 0} (xs : List A)
    → reverse (take (length xs - 1) xs) ≡ drop 1 (reverse xs)
rest-reversed [] = refl
rest-reversed (x ∷ xs) = reversed-take (x ∷ xs) (length (x ∷ xs) - 1) (omega arith)

-- what holds of all of them in one order holds in the other
pub All-reversed : {A : Type 0} (P : A → Type 0) (xs : List A) → All P (reverse xs) → All P xs
All-reversed P xs all k d k_in =
    let j = length xs - 1 - k in
    let back : length xs - 1 - j ≡ k = omega (arith, k_in) in
    subst P (get_or-reverse xs j d (omega (arith, k_in)) ∙ ap (λ n. get_or xs n d) back)
    (all j d (omega (arith, k_in, length-reverse xs)))

-- ---- the field

-- before any edit
pub IsEdited-none : (version : Pages) (kept : List OldPages) (edits : List Brush) → kept ≡ []
    → edits ≡ [] → IsDepth version.depth → HoldsField version opening
    → IsEdited kept (record { version = version; edits = edits })
IsEdited-none version kept edits no_kept no_edits depth samples =
    subst (λ k. IsEdited k (record { version = version; edits = edits })) (sym no_kept)
    (subst (λ e. IsEdited [] (record { version = version; edits = e })) (sym no_edits) (record {
      holds = record {
        depth = depth;
        lawful = All-nil (IsLawful version.depth);
        field = samples;
      };
      back = tt;
    }))

-- one more edit
pub HoldsEdits-more : (old : EditedState) (brush : Brush) (new : Pages) → HoldsEdits old
    → IsLawful old.version.depth brush → IsBrushed brush old.version new
    → HoldsEdits (record { version = new; edits = brush ∷ old.edits })
HoldsEdits-more old brush new holds lawful brushed =
    let depth = sym brushed.depth in
    record {
      depth = subst IsDepth depth holds.depth;
      lawful = subst (λ d. All (IsLawful d) (brush ∷ old.edits)) depth
          (All-cons (IsLawful old.version.depth) brush old.edits lawful holds.lawful);
      field = subst (λ d. HoldsField new (field_of d (brush ∷ old.edits))) depth
          (brushed.rule (field_of old.version.depth old.edits) holds.field);
    }

-- and what it kept
pub IsEdited-more : (old : EditedState) (kept next : List OldPages) (brush : Brush) (new : Pages)
    (newest : OldPages) → IsEdited kept old → IsLawful old.version.depth brush
    → IsBrushed brush old.version new → AreChanged old.version new newest
    → IsFront next (newest ∷ kept)
    → IsEdited next (record { version = new; edits = brush ∷ old.edits })
IsEdited-more old kept next brush new newest edited lawful brushed changed front =
    let depth = old.version.depth in
    let before : restored newest new ≡ old.version = changed.back in
    let all : GiveBack depth (newest ∷ kept) new (brush ∷ old.edits) = (
      changed.depth,
      subst (λ v. HoldsField v (field_of depth old.edits)) (sym before) edited.holds.field,
      subst (λ v. GiveBack depth kept v old.edits) (sym before) edited.back,
    ) in
    record {
      holds = HoldsEdits-more old brush new edited.holds lawful brushed;
      back = subst (λ d. GiveBack d next new (brush ∷ old.edits)) (sym brushed.depth)
          (GiveBack-front depth next front.rest new (brush ∷ old.edits)
          (subst (λ k. GiveBack depth k new (brush ∷ old.edits)) front.is all));
    }

-- the newest edit undone by what it kept
pub IsEdited-less : (old : EditedState) (kept : List OldPages) (newest : OldPages)
    → kept ≡ newest ∷ drop 1 kept → IsEdited kept old
    → IsEdited (drop 1 kept)
    (record { version = restored newest old.version; edits = drop 1 old.edits })
IsEdited-less old kept newest is edited =
    let depth = old.version.depth in
    let back : GiveBack depth (newest ∷ drop 1 kept) old.version old.edits =
    subst (λ k. GiveBack depth k old.version old.edits) is edited.back in
    record {
      holds = record {
        depth = edited.holds.depth;
        lawful = All-drop (IsLawful depth) 1 old.edits edited.holds.lawful;
        field = back.1;
      };
      back = back.2;
    }

-- it kept pages of a version of that depth
pub newest-depth : (old : EditedState) (kept : List OldPages) (newest : OldPages)
    → kept ≡ newest ∷ drop 1 kept → IsEdited kept old → newest.depth ≡ old.version.depth
newest-depth old kept newest is edited =
    (subst (λ k. GiveBack old.version.depth k old.version old.edits) is edited.back).0
