-- The pages that the newest edit kept make the field before it.
use Rattle.std.proofs.Common.{◌≡◌, ◌-◌, List, drop, length, sym, ap, ◌∙◌, subst, take}
use Rattle.std.specs.Prelude.{reverse}
use Rattle.field_pages.specs.Kept.{OldPages, restored}
use Rattle.field_pages.specs.Pages.{Pages}
use Rattle.terrain.specs.declared.brush.Brush.{Brush}
use Rattle.terra_events.specs.KeptEdits.{EditedState, IsEdited}
use Rattle.terra_events.proofs.EditedLemmas.{IsEdited-less, rest-reversed}
use Rattle.terra_events.proofs.edited.EditedField.undo_kept.Goals as goal
use Rattle.terra_events.proofs.edited.EditedField.undo_kept.Goals.{After-pop}

-- the field with its edits then
made : (c : After-pop) → IsEdited c.forget_newest.new.self (record {
  version = c.in_ok-self-inside.field-0.value;
  edits = reverse c.pop.new.self.items;
})
made c =
    let inside = c.self.inside in
    let old : EditedState =
    record { version = inside.version.value; edits = reverse inside.edits.items } in
    let newest = c.in-Some.kept.now in
    let version : restored newest old.version ≡ c.in_ok-self-inside.field-0.value =
    ap (restored newest) (sym c.deref.ensures) ∙ sym c.in_ok-version.ensures
    ∙ sym c.in_ok-self-inside.ensures.ok in
    let count : length inside.edits.items ≡ inside.edits.len = sym inside.edits.ok.0 in
    let edits : drop 1 old.edits ≡ reverse c.pop.new.self.items =
    sym (ap reverse (c.pop.ensures.rest ∙ ap (λ n. take (n - 1) inside.edits.items) (sym count))
    ∙ rest-reversed inside.edits.items) in
    subst (λ (ks : List OldPages). IsEdited ks (record {
      version = c.in_ok-self-inside.field-0.value;
      edits = reverse c.pop.new.self.items;
    })) (sym c.forget_newest.ensures)
    (subst (λ (es : List Brush). IsEdited (drop 1 inside.kept)
    (record { version = c.in_ok-self-inside.field-0.value; edits = es })) edits
    (subst (λ (v : Pages). IsEdited (drop 1 inside.kept)
    (record { version = v; edits = drop 1 old.edits })) version
    (IsEdited-less old inside.kept newest c.in-Some.ensures c.self.invariant)))

pub invariant_of-self : goal.invariant_of-self
invariant_of-self c = made (goal.at.invariant_of-self c).After-pop

pub returns-clause-holds : goal.returns-clause-holds
returns-clause-holds c =
    let all = made (goal.at.returns-clause-holds c).After-pop in
    all.holds
