-- One more note is kept.
use Rattle.std.proofs.Common.{◌≡◌, ℕ, ◌<◌, length, [], ◌∷◌, ◌++◌, slice_set, true, rules, refl, ap, subst, sym, arith}
use Rattle.editors.specs.declared.clerk.Clerk.{Clerk}
use Rattle.editors.specs.declared.mail.TheConstants.{MAX_EDITORS}
use Rattle.editors.specs.declared.note.Note.{Note}
use Rattle.editors.specs.declared.note.Note.TheVariants.{Ended}
use Rattle.editors.specs.Mail.{KeepsOf}
use Rattle.editors.specs.Notes.{author}
use Rattle.editors.proofs.ClerkLemmas.{keeps-ended, keeps-sent}
use Rattle.editors.proofs.clerk.Clerk.keep.Goals as goal

pub returns-else-is_err-clause-keeps : goal.returns-else-is_err-clause-keeps
returns-else-is_err-clause-keeps c = λ notes keeps.
    let old = c.args.self.now in
    let new : Clerk = record old { owners = c.push.new.self } in
    let items : new.owners.items ≡ old.owners.items ++ c.in-Sent.editor ∷ [] = search rules in
    subst (λ (n : Note). KeepsOf new (notes ++ n ∷ [])) (sym c.in-Sent.is)
    (keeps-sent old new c.in-Sent.editor c.in-Sent.event notes keeps items
    c.push.ensures.capacity refl)

pub returns-in-Ended-clause-keeps : goal.returns-in-Ended-clause-keeps
returns-in-Ended-clause-keeps c = λ notes keeps.
    let old = c.args.self.now in
    let by = c.in-Ended.editor in
    let named : author (Ended by) < MAX_EDITORS =
    subst (λ (n : Note). author n < MAX_EDITORS) c.in-Ended.is c.requires.by in
    let within : by < length old.ended = omega (arith, named, c.requires.places) in
    let new : Clerk = record old { ended = slice_set old.ended c.from.result true } in
    subst (λ (n : Note). KeepsOf new (notes ++ n ∷ [])) (sym c.in-Ended.is)
    (keeps-ended old new by notes keeps within refl
    (omega arith) (ap (λ (n : ℕ). slice_set old.ended n true) c.from.ensures))
