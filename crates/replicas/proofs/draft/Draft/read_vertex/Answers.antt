-- A key and its position.
use Rattle.std.proofs.Common.{sym, ap, ◌∙◌}
use Rattle.std.proofs.lemmas.Result.{err_from_is_err_and}
use Rattle.lattice.specs.declared.settings.Settings.{Settings}
use Rattle.replicas.specs.Drafts.{draft_of}
use Rattle.replicas.specs.Held.{world_held}
use Rattle.replicas.specs.Reading.{judge_vertex}
use Rattle.replicas.proofs.BlockStageLemmas.{vertex-on, vertex-refused}
use Rattle.replicas.proofs.StageLemmas.{block-reads}
use Rattle.replicas.proofs.draft.Draft.read_vertex.Goals as goal

pub returns-in_err-key-clause-reads : goal.returns-in_err-key-clause-reads
returns-in_err-key-clause-reads c =
    let p = err_from_is_err_and c.from_residual.result c.from_residual.ensures.1 in
    rw (p.1, p.2) (vertex-refused (world_held c.args.held.now) (draft_of c.args.self.now)
    c.args.field.now
    c.requires.draft c.in_err-key.field-0.0 (draft_of c.args.self.now)
    c.requires.stage
    c.requires.size (ap (λ (s : Settings). judge_vertex s.depth c.args.field.now) (sym
    c.settings.ensures.value)
    ∙ sym c.in_err-key.ensures))

pub go_on-requires : goal.go_on-requires
go_on-requires c =
    (vertex-on (world_held c.args.held.now) (draft_of c.args.self.now) c.args.field.now
    c.requires.draft (c.in_ok-key.key, c.in_ok-key.at) c.push.new.self.items c.push-2.new.self.items
    c.requires.stage c.requires.size (ap (λ (s : Settings). judge_vertex s.depth c.args.field.now)
    (sym c.settings.ensures.value)
    ∙ sym c.in_ok-key.ensures)
    c.in_ok-push.ensures.items c.in_ok-push-2.ensures.items).0

pub returns-clause-reads : goal.returns-clause-reads
returns-clause-reads c =
    block-reads (world_held c.args.held.now) (draft_of c.args.self.now) c.args.field.now
    c.requires.draft (record (draft_of c.args.self.now) {
      keys = c.push.new.self.items;
      positions = c.push-2.new.self.items;
    }) (draft_of c.go_on.new.self) c.go_on.result
    (vertex-on (world_held c.args.held.now) (draft_of c.args.self.now) c.args.field.now
    c.requires.draft (c.in_ok-key.key, c.in_ok-key.at) c.push.new.self.items c.push-2.new.self.items
    c.requires.stage c.requires.size (ap (λ (s : Settings). judge_vertex s.depth c.args.field.now)
    (sym c.settings.ensures.value)
    ∙ sym c.in_ok-key.ensures)
    c.in_ok-push.ensures.items c.in_ok-push-2.ensures.items).1 c.go_on.ensures.goes
