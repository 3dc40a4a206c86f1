-- The edge at the slot that is asked for is the one at hand.
use Rattle.std.proofs.Common.{◌≡◌, ◌<◌, ap, sym, ◌∙◌, subst}
use Rattle.std.specs.Prelude.{IfOk}
use Rattle.lattice.specs.Steps.{key_at}
use Rattle.lattice.specs.declared.key.Key.{Key}
use Rattle.terrain.specs.Cells.{IsPresent}
use Rattle.vertex_places.proofs.LeafKeyLemmas.{AreAtMost-before}
use Rattle.block_mesh.specs.Builder.{Adds}
use Rattle.block_mesh.specs.MeshEdges.{IsEdgeSlot, key_at_slot}
use Rattle.block_mesh.proofs.CellStepLemmas.{IsEdgeSlot-at}
use Rattle.block_mesh.proofs.MeshEdgeLemmas.{slot_key}
use Rattle.block_mesh.proofs.builder.Builder.coarse_index.Goals as goal
use Rattle.block_mesh.proofs.builder.Builder.coarse_index.Goals.{After-edge_slot}

-- its key is the one that is asked for
key_is : (c : After-edge_slot) → key_at_slot c.args.brick.now c.edge_slot.result
    ≡ key_at c.args.brick.now.node.level c.args.brick.now.node c.args.at c.args.axis
key_is c =
    let b = c.args.brick.now in
    ap (key_at_slot b) c.edge_slot.ensures.value
    ∙ slot_key b c.args.at c.args.axis (AreAtMost-before 16 c.args.axis c.args.at c.requires.end)

pub slot_index-requires-clause-slot : goal.slot_index-requires-clause-slot
slot_index-requires-clause-slot c =
    let value = c.edge_slot.ensures.value in
    subst IsEdgeSlot (sym value)
    (IsEdgeSlot-at c.args.at c.args.axis
    (AreAtMost-before 16 c.args.axis c.args.at c.requires.end)
    (subst (λ slot. slot < 14739) value c.edge_slot.ensures.within) c.requires.end)

pub slot_index-requires-clause-present : goal.slot_index-requires-clause-present
slot_index-requires-clause-present c =
    let d = (goal.at.slot_index-requires-clause-present c).After-edge_slot in
    λ s has. subst (IsPresent s) (sym (key_is d)) (c.requires.present s has)

pub returns-clause-adds : goal.returns-clause-adds
returns-clause-adds c =
    let d = (goal.at.returns-clause-adds c).After-edge_slot in
    subst (λ (key : Key). IfOk c.slot_index.result
    (Adds c.args.brick.now key c.args.self.now c.slot_index.new.self)) (key_is d)
    c.slot_index.ensures.adds
