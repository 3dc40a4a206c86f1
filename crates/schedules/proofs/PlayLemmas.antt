-- One event more on a journal: what the loop of `apply_all` keeps.
-- A board that takes an event tells that there was room for it (taken-room), and that it undoes an edit if it is an
-- undo (taken-undoes). So each undo among the events so far and this one has an edit in force before it
-- (EachUndoes-more), and they were added (GrowsBy-more).
use Rattle.std.proofs.Common.{◌≡◌, ℕ, ◌+◌, ◌<◌, ◌≤◌, ◌↔◌, Bool, true, false, eqb, List, [], ◌∷◌, ◌++◌, length, take, get_or, refl, sym, ap, subst, ◌∙◌, arith, append_assoc, inl, inr}
use Rattle.std.specs.Prelude.{Result, Ok, IsErrOf}
use Rattle.std.proofs.lemmas.Bool.{cases_Bool, eqb-false, eqb-true}
use Rattle.std.proofs.lemmas.List.{append-nil, take_more}
use Rattle.terrain.specs.declared.event.Event.{Event}
use Rattle.terrain.specs.declared.event.TheConstants.{MAX_EVENTS}
use Rattle.terrain.specs.History.{HasNothingToUndo, in_force, undoes_nothing}
use Rattle.terra_events.specs.declared.fault.ApplyFault.{ApplyFault}
use Rattle.terra_events.specs.declared.fault.ApplyFault.TheVariants.{Full, NothingToUndo}
use Rattle.schedules.specs.Playing.{GrowsBy, EachUndoes}

-- a journal to which an event was added had room for it
pub taken-room : (events : List Event) (result : Result (Unit {0}) ApplyFault) (done : Unit {0})
    → result ≡ Ok done → length events ≤ MAX_EVENTS
    → IsErrOf result Full ↔ (length events ≡ MAX_EVENTS) → length events < MAX_EVENTS
taken-room events result done taken few full =
    elim (cases_Bool (eqb (length events) MAX_EVENTS)) [
      | inl is ↦
          let refused = full.1 (eqb-true (length events) MAX_EVENTS is) in
          absurd (cc)
      | inr other ↦
          let differ = eqb-false (length events) MAX_EVENTS other in
          omega (arith, few, differ)
    ]

-- and if it was an undo, it undid an edit
pub taken-undoes : (events : List Event) (event : Event) (result : Result (Unit {0}) ApplyFault)
    (done : Unit {0}) → result ≡ Ok done → length events < MAX_EVENTS
    → IsErrOf result NothingToUndo ↔ HasNothingToUndo events event
    → undoes_nothing event (in_force events) ≡ false
taken-undoes events event result done taken room nothing =
    elim (cases_Bool (undoes_nothing event (in_force events))) [
      | inl bare ↦
          let refused = nothing.1 (room, bare) in
          absurd (cc)
      | inr undoes ↦ undoes
    ]

-- one event more has an edit in force before it, if it is an undo
EachUndoes-more : (journal events : List Event) (event : Event) → EachUndoes journal events
    → undoes_nothing event (in_force (journal ++ events)) ≡ false
    → EachUndoes journal (events ++ event ∷ [])
EachUndoes-more journal [] event each undoes =
    (subst (λ es. undoes_nothing event (in_force es) ≡ false) (append-nil journal) undoes, tt)
EachUndoes-more journal (first ∷ events) event each undoes = (
  each.0,
  EachUndoes-more (journal ++ first ∷ []) events event each.1
      (subst (λ es. undoes_nothing event (in_force es) ≡ false)
      (sym (append_assoc journal (first ∷ []) events)) undoes),
)

-- no event was added yet
pub GrowsBy-none : (old : List Event) → GrowsBy old [] old
GrowsBy-none old = record { journal = sym (append-nil old); undoes = tt }

-- one event more was
pub GrowsBy-more : (old events mid new : List Event) (i : ℕ) (d : Event) → i < length events
    → GrowsBy old (take i events) mid → new ≡ mid ++ get_or events i d ∷ []
    → undoes_nothing (get_or events i d) (in_force mid) ≡ false
    → GrowsBy old (take (i + 1) events) new
GrowsBy-more old events mid new i d inside adds grown undoes =
    let event = get_or events i d in
    let more = take_more events i d inside in
    record {
      journal = grown ∙ ap (λ es. es ++ event ∷ []) adds.journal
          ∙ append_assoc old (take i events) (event ∷ [])
          ∙ ap (λ es. old ++ es) (sym more);
      undoes = subst (EachUndoes old) (sym more)
          (EachUndoes-more old (take i events) event adds.undoes
          (subst (λ es. undoes_nothing event (in_force es) ≡ false) adds.journal undoes));
    }
