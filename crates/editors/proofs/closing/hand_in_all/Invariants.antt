-- The editors that are left, and the sheets of the others.
use Rattle.std.proofs.Common.{◌≡◌, ◌++◌, All}
use Rattle.crossbeam_queue.specs.Passes.{IsPassOf, view}
use Rattle.editors.specs.Letters.{sheets_of, with_sheets}
use Rattle.editors.specs.Mail.{IsEndedOf}
use Rattle.editors.proofs.closing.hand_in_all.Given as goal

abbrev pub invariant-loop-editor : goal.invariant-loop-editor
invariant-loop-editor l = record {
  pass_of : IsPassOf l.mail.queue l.pass;
  ended : All (IsEndedOf l.mail) l.left.items;
  shown : view l.pass ≡ with_sheets (view l.fn.pass) (view l.pass).sheets;
  sheets : sheets_of l.left.items ++ (view l.pass).sheets
      ≡ sheets_of l.fn.ended.items ++ (view l.fn.pass).sheets;
}

abbrev pub decreases-loop-editor : goal.decreases-loop-editor
decreases-loop-editor l = goal.left-loop-editor l
