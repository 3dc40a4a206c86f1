-- The edits before the newest are lawful.
use Rattle.std.proofs.Common.{◌-◌, All, ap, sym, ◌∙◌, subst, take}
use Rattle.std.specs.Prelude.{drop, reverse}
use Rattle.std.proofs.lemmas.List.Elements.{All-take}
use Rattle.terrain.specs.Brushes.{IsLawful}
use Rattle.terra_events.specs.KeptEdits.{EditedState}
use Rattle.terra_events.proofs.EditedLemmas.{All-reversed, rest-reversed}
use Rattle.terra_events.proofs.edited.EditedField.undo_by_replay.Goals as goal

pub replay-requires-clause-lawful : goal.replay-requires-clause-lawful
replay-requires-clause-lawful c =
    let inside = c.self.inside in
    let IsFit = IsLawful inside.version.value.depth in
    let depth = ap (λ (e : EditedState). e.version.depth) c.self.view_is ∙ c.requires.depth in
    let all : All IsFit inside.edits.items =
    All-reversed IsFit inside.edits.items c.self.invariant.holds.lawful in
    subst (λ d. All (IsLawful d) (take (c.len-count.result - 1) c.deref.result.now)) depth
    (All-take IsFit (c.len-count.result - 1) c.deref.result.now
    (subst (All IsFit) (sym c.deref.ensures.value) all))

pub returns-clause-edits : goal.returns-clause-edits
returns-clause-edits c =
    let edits = c.self.inside.edits in
    ap reverse c.truncate.ensures.items
    ∙ ap (λ n. reverse (take (n - 1) edits.items)) (c.len-count.ensures ∙ edits.ok.0)
    ∙ rest-reversed edits.items
    ∙ ap (λ (e : EditedState). drop 1 e.edits) c.self.view_is
