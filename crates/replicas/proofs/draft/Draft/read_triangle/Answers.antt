-- A triangle.
use Rattle.std.proofs.Common.{sym}
use Rattle.std.proofs.lemmas.Result.{err_from_is_err_and}
use Rattle.replicas.specs.Drafts.{draft_of}
use Rattle.replicas.specs.Held.{world_held}
use Rattle.replicas.proofs.BlockStageLemmas.{triangle-on, triangle-refused}
use Rattle.replicas.proofs.StageLemmas.{block-reads}
use Rattle.replicas.proofs.draft.Draft.read_triangle.Goals as goal

pub returns-in_err-places-clause-reads : goal.returns-in_err-places-clause-reads
returns-in_err-places-clause-reads c =
    let p = err_from_is_err_and c.from_residual.result c.from_residual.ensures.1 in
    rw (p.1, p.2) (triangle-refused (world_held c.args.held.now) (draft_of c.args.self.now)
    c.args.field.now
    c.requires.draft c.in_err-places.field-0.0 (draft_of c.args.self.now)
    c.requires.stage
    c.requires.size (sym c.in_err-places.ensures))

pub go_on-requires : goal.go_on-requires
go_on-requires c =
    (triangle-on (world_held c.args.held.now) (draft_of c.args.self.now) c.args.field.now
    c.requires.draft c.in_ok-places.places c.push.new.self.items c.requires.stage
    c.requires.size (sym c.in_ok-places.ensures) c.in_ok-push.ensures.items).0

pub returns-clause-reads : goal.returns-clause-reads
returns-clause-reads c =
    block-reads (world_held c.args.held.now) (draft_of c.args.self.now) c.args.field.now
    c.requires.draft (record (draft_of c.args.self.now) { triangles = c.push.new.self.items })
    (draft_of c.go_on.new.self) c.go_on.result
    (triangle-on (world_held c.args.held.now) (draft_of c.args.self.now) c.args.field.now
    c.requires.draft c.in_ok-places.places c.push.new.self.items c.requires.stage
    c.requires.size (sym c.in_ok-places.ensures) c.in_ok-push.ensures.items).1 c.go_on.ensures.goes
