-- The reader has read all that was taken, and nothing is sent yet.
use Rattle.std.proofs.Common.{◌≡◌}
use Rattle.editors.specs.Beside.{HasReadAll, IsDesk}
use Rattle.editors.specs.Mail.{IsEditorOf, sent_by}
use Rattle.editors.proofs.beside.Desk.end.Given as goal

abbrev pub invariant-loop : goal.invariant-loop
invariant-loop g l = record {
  desk : IsDesk g.T.Reader.depth l.mail l.self.clerk l.self.reader;
  editors : l.self.clerk.editors ≡ l.fn.self.clerk.editors;
  read : (first : _) → HasReadAll g.T.Reader.has_read first l.fn.self.clerk l.fn.self.reader
      → HasReadAll g.T.Reader.has_read first l.self.clerk l.self.reader;
  editor : IsEditorOf l.mail l.left;
  number : l.left.number ≡ l.fn.editor.number;
  sent : sent_by l.left ≡ sent_by l.fn.editor;
}
