-- The version is what the brush makes, the brush is the newest edit, and what it kept goes before what was kept.
use Rattle.std.proofs.Common.{◌≡◌, [], ◌∷◌, ◌++◌, List, sym, ap, ◌∙◌, subst}
use Rattle.std.specs.Prelude.{reverse}
use Rattle.std.proofs.lemmas.List.{reverse-append}
use Rattle.brushes.specs.Brushed.{IsBrushed}
use Rattle.field_pages.specs.Kept.{AreChanged}
use Rattle.field_pages.specs.Pages.{Pages}
use Rattle.terrain.specs.declared.brush.Brush.{Brush}
use Rattle.terrain.specs.Brushes.{IsLawful}
use Rattle.terra_events.specs.KeptEdits.{EditedState, IsEdited}
use Rattle.terra_events.proofs.EditedLemmas.{IsEdited-more}
use Rattle.terra_events.proofs.edited.EditedField.edit.Goals as goal
use Rattle.terra_events.proofs.edited.EditedField.edit.Goals.{After-push_reserved}

-- the field with its edits then
made : (c : After-push_reserved) → IsEdited c.push.new.self (record {
  version = c.in_ok-version-2.version.value;
  edits = reverse c.push_reserved.new.self.items;
})
made c =
    let brush = c.args.brush in
    let inside = c.self.inside in
    let old : EditedState =
    record { version = inside.version.value; edits = reverse inside.edits.items } in
    let before = c.deref.ensures in
    let version = c.in_ok-version.version in
    let brushed : IsBrushed brush old.version version =
    subst (λ v. IsBrushed brush v version) before c.in_ok-version.ensures.brushed in
    let changed : AreChanged old.version version c.in_ok-version.kept =
    subst (λ v. AreChanged v version c.in_ok-version.kept) before c.in_ok-version.ensures.kept in
    let lawful : IsLawful old.version.depth brush =
    subst (λ (e : EditedState). IsLawful e.version.depth brush) (sym c.self.view_is)
    c.requires.lawful in
    let edits : brush ∷ reverse inside.edits.items ≡ reverse c.push_reserved.new.self.items =
    sym (ap reverse (c.push_reserved.ensures.items
    ∙ ap (λ es. es ++ brush ∷ []) c.reserve.ensures.items)
    ∙ reverse-append inside.edits.items (brush ∷ [])) in
    subst (λ (es : List Brush). IsEdited c.push.new.self
    (record { version = c.in_ok-version-2.version.value; edits = es })) edits
    (subst (λ (v : Pages). IsEdited c.push.new.self
    (record { version = v; edits = brush ∷ reverse inside.edits.items }))
    (sym c.in_ok-version-2.ensures.ok)
    (IsEdited-more old inside.kept c.push.new.self brush version c.in_ok-version.kept
    c.self.invariant lawful brushed changed c.in_ok-push.ensures.front))

pub invariant_of-self-2 : goal.invariant_of-self-2
invariant_of-self-2 c = made (goal.at.invariant_of-self-2 c).After-push_reserved

pub returns-clause-holds : goal.returns-clause-holds
returns-clause-holds c =
    let all = made (goal.at.returns-clause-holds c).After-push_reserved in
    all.holds
