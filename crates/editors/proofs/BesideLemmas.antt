-- Editors that are started one after another, the last of them first, and what is known once all have ended.
-- Each editor is the last of those that are left, so its number is how many there are before it (`last-number`), and it
-- has the list of that number (`list-of-number`). With each that has ended one more has sent its list (`sent-more`).
use Rattle.std.proofs.Common.{◌≡◌, ℕ, zero, suc, ◌+◌, ◌<◌, ◌≤◌, true, All, Any, Global, List, Vec, [], ◌∷◌, ◌++◌, length, map, slice_index_or, refl, sym, ap, ◌∙◌, subst, ⊎_elim, arith, length-append}
use Rattle.std.proofs.lemmas.Bool.{cases_lt}
use Rattle.std.proofs.lemmas.List.{get_or_append_left, get_or_push}
use Rattle.std.proofs.lemmas.List.Elements.{All-cons, All-head, All-nil, All-push, All-same, All-tail}
use Rattle.std.proofs.lemmas.List.Quantifiers.{Any-push}
use Rattle.terrain.specs.History.{IsLawfulEvent}
use Rattle.terrain.specs.declared.event.Event.{Event}
use Rattle.editors.specs.Beside.{AreOwners, AreToSend, HasReadAll, HasSentList, HaveSentLists, journal_of, list_of}
use Rattle.editors.specs.Letters.{AreLetters}
use Rattle.editors.specs.Mail.{AreNumbered, IsEditorOf, IsEndedOf, sent_by, taken_by}
use Rattle.editors.specs.Notes.{author, events_in, has_end, notes_by, owners_in}
use Rattle.editors.specs.declared.clerk.Clerk.{Clerk}
use Rattle.editors.specs.declared.editor.Editor.{Editor}
use Rattle.editors.specs.declared.editor.Ended.{Ended}
use Rattle.editors.specs.declared.letters.Letters.{Letters}
use Rattle.editors.specs.declared.mail.Mail.{Mail}
use Rattle.editors.specs.declared.note.Note.{Note}
use Rattle.editors.proofs.JournalLemmas.{came-one, merged, none-beyond, owned}

-- ---- lists

-- what holds of all of a list with one more behind it holds of all of the list
all-front : {X : Type 0} (P : X → Type 0) (xs : List X) (y : X) → All P (xs ++ y ∷ []) → All P xs
all-front P xs y all = λ k d within.
    subst P (get_or_append_left xs (y ∷ []) d k within)
    (all k d (omega (arith, within, length-append xs (y ∷ []))))

-- and of the last one
all-last : {X : Type 0} (P : X → Type 0) (xs : List X) (y : X) → All P (xs ++ y ∷ []) → P y
all-last P xs y all =
    subst P (get_or_push xs y y (length xs) refl)
    (all (length xs) y (omega (arith, length-append xs (y ∷ []))))

-- the list of an editor, as the vector at its place has it
pub list-at : {X : Type 0} (f : X → List Event) (xs : List X) (n : ℕ) (d : X) → n < length xs
    → list_of (map f xs) n ≡ f (slice_index_or xs n d)
list-at f [] n d within = absurd (omega arith)
list-at f (x ∷ xs) zero d within = refl
list-at f (x ∷ xs) (suc n) d within = list-at f xs n d (omega arith)

-- there are as many lists as vectors
pub lists-length : {X : Type 0} (f : X → List Event) (xs : List X) → length (map f xs) ≡ length xs
lists-length f [] = refl
lists-length f (x ∷ xs) = ap suc (lists-length f xs)

-- so are the events of the vector at the place of an editor's number
pub list-of-number : (vectors : List (Vec Event Global)) (events : List Event)
    (one : Vec Event Global) (place number : ℕ) → events ≡ one.items
    → one ≡ slice_index_or vectors place one → place ≡ number
    → number < length (map {B = List Event} (λ (list : Vec Event Global). list.items) vectors)
    → events ≡ list_of (map (λ (list : Vec Event Global). list.items) vectors) number
list-of-number vectors events one place number is at same within =
    let items : Vec Event Global → List Event = λ list. list.items in
    is ∙ ap items at ∙ ap (λ (n : ℕ). items (slice_index_or vectors n one)) same
    ∙ sym (list-at items vectors number one (omega (arith, within, lists-length items vectors)))

-- there is none past the last
pub list-past : (lists : List (List Event)) (n : ℕ) → length lists ≤ n → list_of lists n ≡ []
list-past [] n far = refl
list-past (list ∷ lists) zero far = absurd (omega arith)
list-past (list ∷ lists) (suc n) far = list-past lists n (omega arith)

-- what holds of the lists of all vectors holds of all lists
pub all-lists : {X : Type 0} (P : List Event → Type 0) (f : X → List Event) (xs : List X)
    → All (λ x. P (f x)) xs → All P (map f xs)
all-lists P f [] all = All-nil P
all-lists P f (x ∷ xs) all =
    All-cons P (f x) (map f xs) (All-head (λ x. P (f x)) x xs all)
    (all-lists P f xs (All-tail (λ x. P (f x)) x xs all))

-- ---- the last of the editors that are left

module _ (mail : Mail) (lists : List (List Event)) (all front : List Editor) (last : Editor)
    (is : all ≡ front ++ last ∷ []) (are : AreToSend mail lists all) where
  -- those before it
  pub front-to-send : AreToSend mail lists front
  front-to-send = record {
    each = all-front (IsEditorOf mail) front last (subst (All (IsEditorOf mail)) is are.each);
    numbers =
        (let whole = subst AreNumbered is are.numbers in
        λ k d within.
        ap (λ (e : Editor). e.number) (sym (get_or_append_left front (last ∷ []) d k within))
        ∙ whole k d (omega (arith, within, length-append front (last ∷ []))));
    new = all-front (λ (e : Editor). sent_by e ≡ []) front last
        (subst (All (λ (e : Editor). sent_by e ≡ [])) is are.new);
    enough = omega (arith, are.enough, ap length is, length-append front (last ∷ []));
    lawful = are.lawful;
  }

  -- its number is how many they are
  pub last-number : last.number ≡ length front
  last-number =
      ap (λ (e : Editor). e.number) (sym (get_or_push front last last (length front) refl))
      ∙ subst AreNumbered is are.numbers (length front) last
      (omega (arith, length-append front (last ∷ [])))

  -- so there is a list for it
  pub last-within : last.number < length lists
  last-within =
      omega (arith, last-number, are.enough, ap length is, length-append front (last ∷ []))

  -- it is an editor that goes on
  pub last-editor : IsEditorOf mail last
  last-editor = all-last (IsEditorOf mail) front last (subst (All (IsEditorOf mail)) is are.each)

  -- and has sent nothing yet
  pub last-new : sent_by last ≡ []
  last-new =
      all-last (λ (e : Editor). sent_by e ≡ []) front last
      (subst (All (λ (e : Editor). sent_by e ≡ [])) is are.new)

  -- and its list is lawful
  pub last-lawful : All (IsLawfulEvent mail.settings.depth) (list_of lists last.number)
  last-lawful = are.lawful last.number [] last-within

-- ---- editors that have ended

-- none has yet
pub sent-none : (mail : Mail) (lists : List (List Event)) → HaveSentLists mail lists 0 []
sent-none mail lists = record {
  whole = All-nil (HasSentList mail lists);
  each = λ n few. absurd (omega arith);
}

-- one that is there is there still behind which one more is
any-longer : (n : ℕ) (xs : List Ended) (y : Ended) → Any (λ (one : Ended). one.number ≡ n) xs
    → Any (λ (one : Ended). one.number ≡ n) (xs ++ y ∷ [])
any-longer n xs y any = (
  any.0,
  any.1,
  omega (arith, any.2, length-append xs (y ∷ [])),
  get_or_append_left xs (y ∷ []) any.1 any.0 any.2 ∙ any.3,
  any.4,
)

-- one more has
pub sent-more : (mail : Mail) (lists : List (List Event)) (count all : ℕ)
    (before after : List Ended) (one : Ended) → HaveSentLists mail lists count before
    → after ≡ before ++ one ∷ [] → HasSentList mail lists one → one.number ≡ count
    → all ≡ count + 1 → HaveSentLists mail lists all after
sent-more mail lists count all before after one have is sent number total = record {
  whole = All-same (HasSentList mail lists) after (before ++ one ∷ []) is
      (All-push (HasSentList mail lists) before one have.whole sent);
  each = λ n few.
      subst (λ (es : List Ended). Any (λ (e : Ended). e.number ≡ n) es) (sym is)
      (⊎_elim (λ (below : n < count). any-longer n before one (have.each n below))
      (λ (last : count ≤ n).
      Any-push (λ (e : Ended). e.number ≡ n) before one (omega (arith, number, few, total)))
      (cases_lt n count));
}

-- ---- all editors have ended, and the mail is closed

-- nothing was read before anything was taken
pub read-none : {T : Type 0} (has_read : T → List Event → T → Type 0) (reader : T)
    (clerk : Clerk) → taken_by clerk ≡ [] → has_read reader [] reader
    → HasReadAll has_read reader clerk reader
read-none has_read reader clerk none nothing = record {
  read = subst (λ (notes : List Note). has_read reader (events_in notes) reader) (sym none) nothing;
  by = subst (All (λ (note : Note). author note < clerk.editors)) (sym none)
      (All-nil (λ (note : Note). author note < clerk.editors));
}

-- those that have sent their lists have ended
pub sent-ended : (mail : Mail) (lists : List (List Event)) (count : ℕ) (ended : List Ended)
    → HaveSentLists mail lists count ended → All (IsEndedOf mail) ended
sent-ended mail lists count ended have = λ k d within. (have.whole k d within).ended_of

module _ {T : Type 0} (has_read : T → List Event → T → Type 0) (mail : Mail) (clerk : Clerk)
    (lists : List (List Event)) (ended : List Ended) (letters : Letters) (left : List Note)
    (first reader : T) (owners : List ℕ)
    (told : AreLetters clerk ended letters left)
    (have : HaveSentLists mail lists clerk.editors ended)
    (all : (n : ℕ) → n < clerk.editors → has_end n (taken_by clerk) ≡ true)
    (read : HasReadAll has_read first clerk reader)
    (enough : length lists ≤ clerk.editors)
    (owners_are : owners ≡ owners_in (taken_by clerk)) where
  -- each list came whole
  came-all : (n : ℕ) → events_in (notes_by n (taken_by clerk)) ≡ list_of lists n
  came-all n =
      ⊎_elim (λ (few : n < clerk.editors).
      came-one mail (taken_by clerk) left lists ended n told.each have.whole (have.each n few)
      (all n few))
      (λ (far : clerk.editors ≤ n).
      none-beyond clerk.editors n (taken_by clerk) far read.by
      ∙ sym (list-past lists n (omega (arith, far, enough))))
      (cases_lt n clerk.editors)

  -- so each editor owns as many events as its list has
  pub owners-are : AreOwners (list_of lists) owners
  owners-are =
      subst (AreOwners (list_of lists)) (sym owners_are)
      (λ n. owned n (taken_by clerk) ∙ ap length (came-all n))

  -- and the journal of these owners was read
  pub journal-read : has_read first (journal_of (list_of lists) owners) reader
  journal-read =
      subst (λ (events : List Event). has_read first events reader)
      (sym (ap (journal_of (list_of lists)) owners_are
      ∙ merged (list_of lists) (taken_by clerk) came-all))
      read.read
