-- What is taken is read.
use Rattle.std.proofs.Common.{[], ◌∷◌, ◌++◌, ap, subst, ◌∙◌}
use Rattle.editors.specs.Mail.{IsNoteFor, taken_by}
use Rattle.editors.specs.declared.note.Note.{Note}
use Rattle.editors.proofs.JournalLemmas.{read-ended, read-sent}
use Rattle.editors.proofs.beside.Desk.read_next.Goals as goal

pub returns-in-Sent-clause-read : goal.returns-in-Sent-clause-read
returns-in-Sent-clause-read g c = λ first.
    let old = c.args.self.now in
    let taken = c.wait.ensures in
    let note = subst (IsNoteFor c.args.mail.now old.clerk.editors) c.in-Sent.is taken.note in
    read-sent g.T.Reader.has_read first old.clerk c.wait.new.clerk old.reader c.read.new.self
    c.in-Sent.editor c.in-Sent.event
    (taken.taken ∙ ap (λ (one : Note). taken_by old.clerk ++ one ∷ []) c.in-Sent.is)
    taken.editors note.by (λ events. c.read.ensures.read first events)

pub returns-in-Ended-clause-read : goal.returns-in-Ended-clause-read
returns-in-Ended-clause-read g c = λ first.
    let old = c.args.self.now in
    let taken = c.wait.ensures in
    let note = subst (IsNoteFor c.args.mail.now old.clerk.editors) c.in-Ended.is taken.note in
    read-ended g.T.Reader.has_read first old.clerk c.wait.new.clerk old.reader c.in-Ended.editor
    (taken.taken ∙ ap (λ (one : Note). taken_by old.clerk ++ one ∷ []) c.in-Ended.is)
    taken.editors note.by
