-- How many triangles there are.
use Rattle.std.proofs.Common.{sym, ap, Ok}
use Rattle.replicas.specs.Drafts.{draft_of}
use Rattle.replicas.specs.Held.{world_held}
use Rattle.replicas.proofs.BlockStageLemmas.{triangle-count-on}
use Rattle.replicas.proofs.StageLemmas.{block-reads}
use Rattle.replicas.proofs.draft.Draft.read_triangle_count.Goals as goal

pub go_on-requires : goal.go_on-requires
go_on-requires c =
    (triangle-count-on (world_held c.args.held.now) (draft_of c.args.self.now) c.args.field.now
    c.requires.draft c.four_at-self.result c.requires.stage c.requires.size
    (ap Ok (sym c.four_at-self.ensures))).0

pub returns-clause-reads : goal.returns-clause-reads
returns-clause-reads c =
    block-reads (world_held c.args.held.now) (draft_of c.args.self.now) c.args.field.now
    c.requires.draft (record (draft_of c.args.self.now) { triangle_count = c.four_at-self.result })
    (draft_of c.go_on.new.self) c.go_on.result
    (triangle-count-on (world_held c.args.held.now) (draft_of c.args.self.now) c.args.field.now
    c.requires.draft c.four_at-self.result c.requires.stage c.requires.size
    (ap Ok (sym c.four_at-self.ensures))).1 c.go_on.ensures.goes
