-- A new viewer has seen nothing, and takes in what the publisher has seen.
use Rattle.published_frames.proofs.Publishing.{admits, forks, merges}
use Rattle.published_frames.proofs.publisher.Publisher.seat.Goals as goal

pub reader-requires : goal.reader-requires
reader-requires c = admits

pub tell-requires : goal.tell-requires
tell-requires c = forks _ _

pub learn-requires-clause-rule : goal.learn-requires-clause-rule
learn-requires-clause-rule c = merges _ _ _ _
