-- The parts of the draft are those of the patch.
use Rattle.std.proofs.Common.{◌≡◌, ℕ, ◌<◌, ◌++◌, ◌∙◌, length, map, slice_index_or, sym, ap, subst}
use Rattle.lattice.specs.Node.{IsNode}
use Rattle.replicas.specs.declared.draft.Draft.{Draft}
use Rattle.replicas.specs.declared.put.Put.{Put}
use Rattle.replicas.specs.Drafts.{draft_of}
use Rattle.replicas.specs.Grammar.{WireBlock}
use Rattle.replicas.specs.Puts.{block_put}
use Rattle.replicas.specs.Reading.{edits_of}
use Rattle.replicas.proofs.FeedLemmas.{All-of-map, on-ok, world-after}
use Rattle.replicas.proofs.StageLemmas.{edits_of-append}
use Rattle.replicas.proofs.feeding.take_effect.Goals as goal

pub take-requires-clause-in_force : goal.take-requires-clause-in_force
take-requires-clause-in_force c =
    let draft = c.args.draft.now in
    let before = c.args.held.now.events in
    let same : c.deref.result.now ≡ draft.events.items =
    c.deref.ensures.value ∙ ap (λ (d : Draft). d.events.items) c.replace-events.ensures.value in
    c.requires.edits ∙ sym (edits_of-append before draft.events.items 0)
    ∙ ap (λ es. edits_of (before ++ es) 0) (sym same)

pub take-requires-clause-nodes : goal.take-requires-clause-nodes
take-requires-clause-nodes c =
    let depth = c.args.held.now.settings.depth in
    subst (λ (d : Draft). (k : ℕ) (x : Put) → k < length d.blocks.items
    → IsNode depth (slice_index_or d.blocks.items k x).node) (sym c.replace-events.ensures.value)
    (All-of-map (λ (b : WireBlock). IsNode depth b.node) block_put c.args.draft.now.blocks.items
    c.requires.nodes)

pub returns-clause-world : goal.returns-clause-world
returns-clause-world c =
    let was = c.replace-events.ensures.value in
    on-ok c.take.result (world-after c.args.held.now c.take.new.self (draft_of c.args.draft.now)
    c.deref.result.now c.deref-2.result.now (map block_put c.replace-events.result.blocks.items)
    (c.deref.ensures.value ∙ ap (λ (d : Draft). d.events.items) was)
    (c.deref-2.ensures.value ∙ ap (λ (d : Draft). d.gone.items) was)
    (ap (λ (d : Draft). map block_put d.blocks.items) was))
    c.take.ensures.settings c.take.ensures.events c.take.ensures.blocks
