-- The tag.
use Rattle.std.proofs.Common.{sym}
use Rattle.std.proofs.lemmas.Result.{err_from_is_err_and}
use Rattle.replicas.specs.Drafts.{draft_of}
use Rattle.replicas.specs.Held.{world_held}
use Rattle.replicas.proofs.StageLemmas.{tag-reads, tag-refused}
use Rattle.replicas.proofs.draft.Draft.read_tag.Goals as goal

pub returns-in_err-judge_tag-clause-reads : goal.returns-in_err-judge_tag-clause-reads
returns-in_err-judge_tag-clause-reads c =
    let p = err_from_is_err_and c.from_residual.result c.from_residual.ensures.1 in
    rw (p.1, p.2) (tag-refused (world_held c.args.held.now) (draft_of c.args.self.now)
    c.args.field.now
    c.requires.draft c.in_err-judge_tag.field-0.0 (draft_of c.args.self.now)
    c.requires.stage
    c.requires.size (sym c.in_err-judge_tag.ensures))

pub returns-clause-reads : goal.returns-clause-reads
returns-clause-reads c =
    tag-reads (world_held c.args.held.now) (draft_of c.args.self.now) c.args.field.now
    c.requires.draft c.in_ok-judge_tag.field-0 c.requires.stage c.requires.size
    (sym c.in_ok-judge_tag.ensures)
