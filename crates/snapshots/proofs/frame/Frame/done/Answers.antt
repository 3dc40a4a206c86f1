-- A sound frame has the leaf's block in its slot.
use Rattle.std.proofs.Common.{◌≡◌, Some, ◌∙◌, ap, refl, subst, sym}
use Rattle.std.specs.Arc.{arc_value}
use Rattle.node_tables.specs.NodeSlots.{item_at}
use Rattle.snapshots.specs.Frame.{IsBlockAfter}
use Rattle.terrain.specs.Levels.{IsLeaf, levels}
use Rattle.snapshots.proofs.FrameLemmas.{block_at}
use Rattle.snapshots.proofs.frame.Frame.done.Goals as goal

there : (c : goal.After-as_ref)
    → item_at c.args.self.now.blocks c.args.node ≡ Some (arc_value c.in_ok-get.field-0.now)
there c = ap (λ f. item_at f.blocks c.args.node) (sym c.self.view_is) ∙ c.in_ok-get.ensures

-- so the node is a leaf, and what is in its slot is the leaf's block
is-leaf : (c : goal.After-as_ref)
    → IsLeaf c.args.self.now.settings.depth
    (levels c.args.self.now.settings c.args.self.now.events) c.args.node
    × IsBlockAfter c.args.self.now.settings c.args.self.now.events c.args.node
    (arc_value c.in_ok-get.field-0.now)
is-leaf c =
    block_at c.args.self.now c.requires c.args.node (arc_value c.in_ok-get.field-0.now) (there c)

pub returns-clause-leaf : goal.returns-clause-leaf
returns-clause-leaf c = (λ _. (is-leaf c).0, λ _. refl)

pub returns-clause-block : goal.returns-clause-block
returns-clause-block c =
    subst (IsBlockAfter c.args.self.now.settings c.args.self.now.events c.args.node)
    (sym c.as_ref.ensures) (is-leaf c).1
