-- The reader has read all that was taken.
use Rattle.std.proofs.Common.{◌≡◌}
use Rattle.editors.specs.Beside.{HasReadAll, IsDesk}
use Rattle.editors.proofs.beside.Desk.read_all.Given as goal

abbrev pub invariant-loop : goal.invariant-loop
invariant-loop g l = record {
  desk : IsDesk g.T.Reader.depth l.mail l.self.clerk l.self.reader;
  editors : l.self.clerk.editors ≡ l.fn.self.clerk.editors;
  read : (first : _) → HasReadAll g.T.Reader.has_read first l.fn.self.clerk l.fn.self.reader
      → HasReadAll g.T.Reader.has_read first l.self.clerk l.self.reader;
}
