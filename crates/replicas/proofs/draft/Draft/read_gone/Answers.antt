-- A gone node.
use Rattle.std.proofs.Common.{sym, ap, ◌∙◌}
use Rattle.std.proofs.lemmas.Result.{err_from_is_err_and}
use Rattle.replicas.specs.Drafts.{draft_of}
use Rattle.replicas.specs.Held.{world_held}
use Rattle.replicas.specs.Reading.{judge_gone, last_node}
use Rattle.replicas.proofs.StageLemmas.{gone-reads, gone-refused}
use Rattle.replicas.proofs.draft.Draft.read_gone.Goals as goal

pub returns-in_err-node-clause-reads : goal.returns-in_err-node-clause-reads
returns-in_err-node-clause-reads c =
    let p = err_from_is_err_and c.from_residual.result c.from_residual.ensures.1 in
    rw (p.1, p.2) (gone-refused (world_held c.args.held.now) (draft_of c.args.self.now)
    c.args.field.now
    c.requires.draft c.in_err-node.field-0.0 (draft_of c.args.self.now)
    c.requires.stage
    c.requires.size (ap (λ last. judge_gone (world_held c.args.held.now) last c.args.field.now)
    (sym (c.last_node.ensures ∙ ap last_node c.deref.ensures.value)) ∙ sym c.in_err-node.ensures))

pub returns-clause-reads : goal.returns-clause-reads
returns-clause-reads c =
    gone-reads (world_held c.args.held.now) (draft_of c.args.self.now) c.args.field.now
    c.requires.draft c.in_ok-node.node c.push.new.self.items c.stage_of_gone-self.result
    c.requires.stage c.requires.size
    (ap (λ last. judge_gone (world_held c.args.held.now) last c.args.field.now)
    (sym (c.last_node.ensures ∙ ap last_node c.deref.ensures.value)) ∙ sym c.in_ok-node.ensures)
    c.in_ok-push.ensures.items c.stage_of_gone-self.ensures.value
