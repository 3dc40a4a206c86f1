-- Readers as contracts see them: replicas that have refused no field. This project's rule.
use Rattle.std.specs.Prelude.{None}
use Rattle.replicas.specs.declared.reader.Reader.{Reader}
use Rattle.replicas.specs.Drafts.{draft_of}
use Rattle.replicas.specs.Replicas.{ReplicaState}

-- what a reader keeps
abbrev pub reader_of : Reader → ReplicaState
reader_of reader = record {
  held = reader.held;
  draft = draft_of reader.draft;
  field = reader.field.items;
  fault = None;
  taken = reader.taken;
}
