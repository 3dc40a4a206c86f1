-- The mail is what its owner shows.
use Rattle.std.proofs.Common.{All, sym, subst}
use Rattle.editors.specs.declared.mail.Mail.{Mail}
use Rattle.editors.specs.Mail.{IsEditorOf}
use Rattle.scenes.proofs.editing.open_mail.Goals as goal

pub seat_all-requires : goal.seat_all-requires
seat_all-requires c =
    subst (λ (m : Mail). All (IsEditorOf m) c.in_ok-mail.list.items)
    (sym c.in_ok-mail-2.ensures.ok) c.in_ok-mail.ensures.editors
