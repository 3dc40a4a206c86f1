-- The bit at the node's slot is its own, and no other node's.
use Rattle.std.proofs.Common.{ap, sym, ◌∙◌, subst, refl}
use Rattle.lattice.specs.Node.{IsNode}
use Rattle.node_tables.specs.NodeBits.{NodeBits, has, has_bit}
use Rattle.node_tables.proofs.SetLemmas.{has-kept, has-node}
use Rattle.node_tables.proofs.set.NodeSet.remove.Goals as goal

pub returns-clause-here : goal.returns-clause-here
returns-clause-here c =
    let new : NodeBits = record { depth = c.self.inside.depth; words = c.clear.new.self } in
    let node : IsNode c.self.inside.depth c.args.node =
    subst (λ (s : NodeBits). IsNode s.depth c.args.node) (sym c.self.view_is) c.requires in
    has-node new c.args.node node
    ∙ ap (has_bit c.clear.new.self) (sym c.slot-slot.ensures.before) ∙ c.clear.ensures.here

pub returns-clause-others : goal.returns-clause-others
returns-clause-others c n other =
    let old : NodeBits = record {
      depth = c.self.inside.depth;
      words = c.self.inside.bits;
    } in
    let new : NodeBits = record { depth = c.self.inside.depth; words = c.clear.new.self } in
    let node : IsNode c.self.inside.depth c.args.node =
    subst (λ (s : NodeBits). IsNode s.depth c.args.node) (sym c.self.view_is) c.requires in
    has-kept old new c.args.node refl node
    (λ p apart. c.clear.ensures.others p (λ same. apart (same ∙ c.slot-slot.ensures.before)))
    n other
    ∙ ap (λ s. has s n) c.self.view_is
