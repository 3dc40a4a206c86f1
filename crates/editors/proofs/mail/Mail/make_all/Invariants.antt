-- The editors so far.
use Rattle.std.proofs.Common.{◌≡◌, [], All, vec_len}
use Rattle.crossbeam_queue.specs.Passes.{view}
use Rattle.editors.specs.declared.editor.Editor.{Editor}
use Rattle.editors.specs.Mail.{AreNumbered, IsClerksPass, IsEditorOf, sent_by}
use Rattle.editors.proofs.mail.Mail.make_all.Given as goal

abbrev pub invariant-loop-number : goal.invariant-loop-number
invariant-loop-number l = record {
  pass : IsClerksPass l.self l.number l.pass;
  none_in : (view l.pass).sheets ≡ [];
  taken : (view l.pass).taken ≡ (view l.fn.pass).taken;
  editors : All (IsEditorOf l.self) l.list.items;
  numbers : AreNumbered l.list.items;
  new : All (λ (e : Editor). sent_by e ≡ []) l.list.items;
  count : vec_len l.list ≡ l.number;
}
