-- The line of one owner more.
use Rattle.std.proofs.Common.{ℕ, List, [], ◌∷◌, ◌++◌, append_assoc, get_or, take, sym, ap, ◌∙◌}
use Rattle.std.proofs.lemmas.List.{take_more}
use Rattle.requests.specs.Edited.{owner_lines}
use Rattle.requests.proofs.EditingLemmas.{owner_lines-more}
use Rattle.requests.proofs.editing.push_owners.Goals as goal

pub loop-owner-preserved : goal.loop-owner-preserved
loop-owner-preserved c =
    let owners = c.args.owners.now in
    let i = c.loop-owner.owner-index in
    let before = c.args.out.now.items in
    let so_far = owner_lines (take i owners) in
    let line : List ℕ = owner_lines (get_or owners i 0 ∷ []) in
    c.in_ok-push_owner.ensures
    ∙ ap (λ (text : List ℕ). text ++ line) c.loop-owner.invariant
    ∙ append_assoc before so_far line
    ∙ ap (λ (text : List ℕ). before ++ text)
    (sym (owner_lines-more (take i owners) (get_or owners i 0))
    ∙ ap owner_lines (sym (take_more owners i 0 c.loop-owner-test.true)))
