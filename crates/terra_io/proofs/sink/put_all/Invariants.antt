-- What the sink has taken so far.
use Rattle.std.proofs.Common.{length}
use Rattle.terra_io.proofs.StreamLemmas.{HasPut}
use Rattle.terra_io.proofs.sink.put_all.Given as goal

abbrev pub invariant-loop-rest : goal.invariant-loop-rest
invariant-loop-rest g l =
    HasPut (g.K.Sink.state l.initial.sink) (g.K.Sink.state l.sink) l.bytes l.rest

abbrev pub decreases-loop-rest : goal.decreases-loop-rest
decreases-loop-rest g l = length l.rest
