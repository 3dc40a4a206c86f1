-- The node of a block.
use Rattle.std.proofs.Common.{◌≡◌, List, [], ◌∷◌, map, refl, sym, ap, ◌∙◌, subst}
use Rattle.std.proofs.lemmas.Result.{err_from_is_err_and}
use Rattle.lattice.specs.declared.settings.Settings.{Settings}
use Rattle.lattice.specs.Node.{IsNode}
use Rattle.replicas.specs.declared.put.Put.{Put}
use Rattle.replicas.specs.Drafts.{draft_of}
use Rattle.replicas.specs.Grammar.{WireBlock}
use Rattle.replicas.specs.Held.{world_held}
use Rattle.replicas.specs.Puts.{block_put}
use Rattle.replicas.specs.Reading.{judge_block_node, last_node}
use Rattle.replicas.proofs.BlockStageLemmas.{block-node-reads, block-node-refused}
use Rattle.replicas.proofs.draft.Draft.read_block_node.Goals as goal

-- the nodes of blocks that were read
put_nodes : (puts : List Put)
    → map (λ (b : WireBlock). b.node) (map block_put puts) ≡ map (λ (put : Put). put.node) puts
put_nodes [] = refl
put_nodes (put ∷ puts) = ap (λ ns. put.node ∷ ns) (put_nodes puts)

pub returns-in_err-self-clause-reads : goal.returns-in_err-self-clause-reads
returns-in_err-self-clause-reads c =
    let p = err_from_is_err_and c.from_residual.result c.from_residual.ensures.1 in
    let f = c.args.field.now in
    let nodes =
    last_node (map (λ (b : WireBlock). b.node) (map block_put c.args.self.now.blocks.items)) in
    let last = ap last_node (put_nodes c.args.self.now.blocks.items) ∙ sym c.last_block.ensures in
    rw (p.1, p.2) (block-node-refused (world_held c.args.held.now) (draft_of c.args.self.now) f
    c.requires.draft c.in_err-self.field-0.0 (draft_of c.args.self.now) c.requires.stage
    c.requires.size
    (ap (λ (s : Settings). judge_block_node s.depth nodes f) (sym c.settings.ensures.value)
    ∙ ap (λ l. judge_block_node c.settings.result.now.depth l f) last
    ∙ sym c.in_err-self.ensures.value))

pub returns-clause-reads : goal.returns-clause-reads
returns-clause-reads c =
    let f = c.args.field.now in
    let nodes =
    last_node (map (λ (b : WireBlock). b.node) (map block_put c.args.self.now.blocks.items)) in
    let last = ap last_node (put_nodes c.args.self.now.blocks.items) ∙ sym c.last_block.ensures in
    block-node-reads (world_held c.args.held.now) (draft_of c.args.self.now) f c.requires.draft
    c.in_ok-self.field-0 c.requires.stage c.requires.size
    (ap (λ (s : Settings). judge_block_node s.depth nodes f) (sym c.settings.ensures.value)
    ∙ ap (λ l. judge_block_node c.settings.result.now.depth l f) last
    ∙ sym c.in_ok-self.ensures.value)
    (subst (λ (s : Settings). IsNode s.depth c.in_ok-self.field-0) c.settings.ensures.value
    c.in_ok-self.ensures.inside)
