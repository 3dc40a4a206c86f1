-- Of the piece some bytes were taken, with whole fields.
use Rattle.std.proofs.Common.{length}
use Rattle.replicas.specs.Readers.{reader_of}
use Rattle.replicas.proofs.ReaderLemmas.{HasCome}
use Rattle.replicas.proofs.reader.Reader.feed.Given as goal

abbrev pub invariant-loop-rest : goal.invariant-loop-rest
invariant-loop-rest l =
    HasCome (reader_of l.fn.self) l.piece (reader_of l.self) l.rest l.patches

abbrev pub decreases-loop-rest : goal.decreases-loop-rest
decreases-loop-rest l = length l.rest
