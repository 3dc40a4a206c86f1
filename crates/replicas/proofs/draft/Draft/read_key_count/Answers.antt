-- How many keys there are.
use Rattle.std.proofs.Common.{sym, ap, Ok}
use Rattle.replicas.specs.Drafts.{draft_of}
use Rattle.replicas.specs.Held.{world_held}
use Rattle.replicas.proofs.BlockStageLemmas.{key-count-reads}
use Rattle.replicas.proofs.draft.Draft.read_key_count.Goals as goal

pub returns-clause-reads : goal.returns-clause-reads
returns-clause-reads c =
    key-count-reads (world_held c.args.held.now) (draft_of c.args.self.now) c.args.field.now
    c.requires.draft c.four_at-self.result c.requires.stage c.requires.size
    (ap Ok (sym c.four_at-self.ensures))
