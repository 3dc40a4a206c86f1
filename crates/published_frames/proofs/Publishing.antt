-- The rule of publication is kept by each step of its port: the frame that is shown is sound, and goes on from all that
-- each viewer has seen. So a viewer never goes back. docs/rules.md, "Publication and readers", has the argument.
-- To go on is to have the same settings and a journal that begins with the other one; it is passed on from frame to
-- frame (after, later). The rule is about the list of what each side knows, so a changed or a new entry of that list is
-- looked at apart (seen_set, seen_snoc). Then come the steps as `left_right` asks for them: the shown frame changes
-- (turns, publishes_first, publishes), a viewer enters (enters_first, enters_again), comes (admits), and takes in what
-- another has seen (forks, merges). At the end, what a viewer may rely on that was let in (lets_in).
use Rattle.std.proofs.Common.{◌≡◌, ℕ, List, [], ◌∷◌, ◌++◌, Err, MatchResult, Ok, Result, ap, fold, refl, set, subst, sym, ◌∙◌, ⊎_elim, append_assoc, append-nil, drop, take}
use Rattle.std.proofs.lemmas.List.Sums.{fold-append}
use Rattle.std.proofs.lemmas.List.Elements.{All-append, All-cons, All-drop, All-nil, All-take, All-weaker}
use mathlib.Core.Option.{some}
use lib.ListN.{get_elem?}
use Rattle.left_right.specs.Register.{Admits, Forks, Merges, TurnsAt}
use Rattle.atomic_table.proofs.Lists.{at_set, at_snoc}
use Rattle.snapshots.specs.Frame.{FrameState, IsSound}
use Rattle.published_frames.specs.declared.known.Known.{Known}
use Rattle.published_frames.specs.declared.past.Past.{Past}
use Rattle.published_frames.specs.declared.shown.Shown.{Shown}
use Rattle.published_frames.specs.Pasts.{Continues, GoesOnFromAll, past_of}
use Rattle.published_frames.specs.Rule.{IsKept, SeesPublished, known_entered, known_first, known_next, known_passed, nothing_known}
use Rattle.published_frames.specs.Seen.{IsLetIn}

-- a frame goes on from what it is itself
pub stays : (frame : FrameState) → Continues frame (past_of frame)
stays frame = record { settings = refl; journal = ([], sym (append-nil frame.events)) }

-- the same frame again goes on from a frame
pub goes_on_same : (frame next : FrameState) → next ≡ frame → Continues next (past_of frame)
goes_on_same frame next e = subst (λ n. Continues n (past_of frame)) (sym e) (stays frame)

-- what goes on from a frame goes on from what the frame goes on from
pub after : (next frame : FrameState) (past : Past) → Continues frame past
    → Continues next (past_of frame) → Continues next past
after next frame past h step = record {
  settings = step.settings ∙ h.settings;
  journal = (
    h.journal.0 ++ step.journal.0,
    step.journal.1 ∙ ap (λ events. events ++ step.journal.0) h.journal.1
        ∙ append_assoc past.events h.journal.0 step.journal.0,
  );
}

-- what goes on from a frame goes on from all that the frame goes on from
pub later : (frame next : FrameState) → Continues next (past_of frame)
    → (seen : List Past) → GoesOnFromAll frame seen → GoesOnFromAll next seen
later frame next step seen all =
    All-weaker (Continues frame) (Continues next) (λ past h. after next frame past h step) seen all

-- one more view of what the frame goes on from
seen_set : (frame : FrameState) (views : List Known) (seat : ℕ) (mine : Known)
    → ((other : ℕ) (known : Known) → get_elem? views other ≡ some known
    → GoesOnFromAll frame known.seen)
    → GoesOnFromAll frame mine.seen
    → (other : ℕ) (known : Known) → get_elem? (set views seat mine) other ≡ some known
    → GoesOnFromAll frame known.seen
seen_set frame views seat mine all here other known at =
    ⊎_elim (λ t. subst (λ one. GoesOnFromAll frame one.seen) t.1 here)
    (λ t. all other known t.1)
    (at_set views seat other mine known at)

-- the same where a new viewer's view is put at the end
seen_snoc : (frame : FrameState) (views : List Known) (mine : Known)
    → ((other : ℕ) (known : Known) → get_elem? views other ≡ some known
    → GoesOnFromAll frame known.seen)
    → GoesOnFromAll frame mine.seen
    → (other : ℕ) (known : Known) → get_elem? (views ++ mine ∷ []) other ≡ some known
    → GoesOnFromAll frame known.seen
seen_snoc frame views mine all here other known at =
    ⊎_elim (λ e. all other known e) (λ e. subst (λ one. GoesOnFromAll frame one.seen) e here)
    (at_snoc views mine known other at)

-- a published frame that goes on from all that was seen goes on from all that is known then
abbrev KeepsSeen : (Known → Shown → Known) → Type 0
KeepsSeen next = (before : Known) (new : Shown) → GoesOnFromAll new.frame.value before.seen
    → GoesOnFromAll new.frame.value (next before new).seen

-- the frame that is published changes to a sound one that goes on from it
turns : (next : Known → Shown → Known) → KeepsSeen next → (seat : ℕ) (v : Known) (x y : Shown)
    → IsSound y.frame.value → Continues y.frame.value (past_of x.frame.value)
    → TurnsAt IsKept seat v x y (SeesPublished next)
turns next keeps seat v x y sound step views kept at =
    let frame = y.frame.value in
    let mine = later x.frame.value frame step v.seen (kept.later seat v at) in (
      next v y,
      record {
        sound = sound;
        later = seen_set frame views seat (next v y)
            (λ other one e. later x.frame.value frame step one.seen (kept.later other one e))
            (keeps v y mine);
      },
      record { sound = sound; later = mine; known = refl },
    )

-- a publisher has seen the frame that it publishes
keeps_published : (frame : FrameState) → GoesOnFromAll frame (past_of frame ∷ [])
keeps_published frame =
    All-cons (Continues frame) (past_of frame) [] (stays frame) (All-nil (Continues frame))

-- what goes on from all that was seen goes on from all that is kept in mind of it
abbrev Keeps : (List Past → List Past) → Type 0
Keeps kept = (frame : FrameState) (seen : List Past) → GoesOnFromAll frame seen
    → GoesOnFromAll frame (kept seen)

-- a viewer has seen the frame that it enters, besides what it keeps in mind
keeps_entered : (kept : List Past → List Past) → Keeps kept → KeepsSeen (known_entered kept)
keeps_entered kept keeps before new all =
    let frame = new.frame.value in
    All-cons (Continues frame) (past_of frame) (kept before.seen) (stays frame)
    (keeps frame before.seen all)

-- a viewer enters the frame that is published
enters : (kept : List Past → List Past) → Keeps kept → (seat : ℕ) (v : Known) (x : Shown)
    → TurnsAt IsKept seat v x x (SeesPublished (known_entered kept))
enters kept keeps seat v x views so at =
    turns (known_entered kept) (keeps_entered kept keeps) seat v x x so.sound
    (stays x.frame.value) views so at

-- what was entered last is kept in mind
keeps_first : Keeps (take 1)
keeps_first frame seen all = All-take (Continues frame) 1 seen all

-- what was entered before that is kept in mind
keeps_again : Keeps (drop 1)
keeps_again frame seen all = All-drop (Continues frame) 1 seen all

-- a viewer keeps in mind what it entered last
pub enters_first : (seat : ℕ) (v : Known) (x : Shown)
    → TurnsAt IsKept seat v x x (SeesPublished (known_entered (take 1)))
enters_first = enters (take 1) keeps_first

-- it keeps in mind what it entered before that
pub enters_again : (seat : ℕ) (v : Known) (x : Shown)
    → TurnsAt IsKept seat v x x (SeesPublished (known_entered (drop 1)))
enters_again = enters (drop 1) keeps_again

-- a new viewer has seen nothing
pub admits : Admits IsKept nothing_known
admits x views kept = record {
  sound = kept.sound;
  later = seen_snoc x.frame.value views nothing_known kept.later
      (All-nil (Continues x.frame.value));
}

-- what somebody has seen, it may pass on
pub forks : (seat : ℕ) (v : Known) → Forks IsKept seat v v v
forks seat v x views kept at = record {
  sound = kept.sound;
  later = seen_snoc x.frame.value (set views seat v) v
      (seen_set x.frame.value views seat v kept.later (kept.later seat v at))
      (kept.later seat v at);
}

-- what was passed on to somebody, it has seen from then on
pub merges : (seat : ℕ) (v : Known) (other : ℕ) (w : Known)
    → Merges IsKept seat v other w (known_passed v w) nothing_known
merges seat v other w x views kept at apart there =
    let frame = x.frame.value in
    let both = known_passed v w in
    let mine = kept.later seat v at in
    let passed : GoesOnFromAll frame w.seen =
    ⊎_elim (λ t. absurd (apart t.0)) (λ t. kept.later other w t.1)
    (at_set views seat other both w there) in
    record {
      sound = kept.sound;
      later = seen_set frame (set views seat both) other nothing_known
          (seen_set frame views seat both kept.later
          (All-append (Continues frame) v.seen w.seen mine passed))
          (All-nil (Continues frame));
    }

-- of several operations the last one is shown
pub last_shown : {A : Type 0} (value : A → FrameState) (before : FrameState)
    (pending front : List A) (next : A) → pending ≡ front ++ next ∷ []
    → fold (λ _ operation. value operation) before pending ≡ value next
last_shown value before pending front next e =
    ap (fold (λ _ operation. value operation) before) e
    ∙ fold-append (λ _ operation. value operation) before front (next ∷ [])

-- what is published is kept where the frame in it, however it came about, is sound and goes on from the one before
publishes_as : (after : Known → Shown → Known) → KeepsSeen after → (seat : ℕ) (v : Known)
    (x y : Shown) (next : FrameState) → y.frame.value ≡ next
    → IsSound next → Continues next (past_of x.frame.value)
    → TurnsAt IsKept seat v x y (SeesPublished after)
publishes_as after keeps seat v x y next e sound step =
    turns after keeps seat v x y (subst IsSound (sym e) sound)
    (subst (λ frame. Continues frame (past_of x.frame.value)) (sym e) step)

-- the first publication
pub publishes_first : (seat : ℕ) (v : Known) (x y : Shown) (next : FrameState)
    → y.frame.value ≡ next → IsSound next → Continues next (past_of x.frame.value)
    → TurnsAt IsKept seat v x y (SeesPublished known_first)
publishes_first = publishes_as known_first (λ before new all. keeps_published new.frame.value)

-- a later one
pub publishes : (seat : ℕ) (v : Known) (x y : Shown) (next : FrameState)
    → y.frame.value ≡ next → IsSound next → Continues next (past_of x.frame.value)
    → TurnsAt IsKept seat v x y (SeesPublished known_next)
publishes = publishes_as known_next (λ before new all. keeps_published new.frame.value)

-- what holds of a result by two facts about it
pub by_both : {T E : Type 0} (r : Result T E) {P Q P' : T → Type 0} {S U S' : E → Type 0}
    → ((x : T) → P x → Q x → P' x) → ((e : E) → S e → U e → S' e)
    → MatchResult r P S → MatchResult r Q U → MatchResult r P' S'
by_both (Ok x) ok err p q = ok x p q
by_both (Err e) ok err p q = err e p q

-- who is let in has seen what was kept in mind
lets_in : (kept : List Past → List Past) → Keeps kept → (before : Known) (x y : Shown)
    (now : Known) → SeesPublished (known_entered kept) before x y now
    → IsLetIn before.series (kept before.seen) y.frame.value now
lets_in kept keeps before x y now shows = record {
  sound = shows.sound;
  later = keeps y.frame.value before.seen shows.later;
  known = shows.known;
}

-- who keeps in mind what it entered last
pub lets_in_first : (before : Known) (x y : Shown) (now : Known)
    → SeesPublished (known_entered (take 1)) before x y now
    → IsLetIn before.series (take 1 before.seen) y.frame.value now
lets_in_first = lets_in (take 1) keeps_first

-- who keeps in mind what it entered before that
pub lets_in_again : (before : Known) (x y : Shown) (now : Known)
    → SeesPublished (known_entered (drop 1)) before x y now
    → IsLetIn before.series (drop 1 before.seen) y.frame.value now
lets_in_again = lets_in (drop 1) keeps_again
