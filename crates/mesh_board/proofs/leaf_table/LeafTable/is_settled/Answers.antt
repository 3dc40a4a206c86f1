-- No leaf is wanted or out where both sets are empty.
use Rattle.std.proofs.Common.{sym, ◌∙◌, subst}
use Rattle.std.specs.Prelude.{◌↔◌, IsTrue}
use Rattle.std.proofs.lemmas.Bool.{false≢true}
use Rattle.lattice.specs.declared.node.Node.{Node}
use Rattle.mesh_board.specs.LeafStates.{IsSettled, LeafStates, state_at}
use Rattle.mesh_board.proofs.TableLemmas.{all_settled, none_out, none_wanted}
use Rattle.mesh_board.proofs.leaf_table.LeafTable.is_settled.Goals as goal

-- all nodes of some states are settled
abbrev AreSettled : LeafStates → Type 0
AreSettled s = (n : Node) → IsSettled (state_at s n)

pub returns-then-is_empty : goal.returns-then-is_empty
returns-then-is_empty c =
    let P : LeafStates → Type 0 = λ s.
    IsTrue c.is_empty-then-is_empty.result ↔ AreSettled s in
    subst P c.self.view_is (
      (λ empty. all_settled c.self.inside c.self.invariant
          (c.is_empty.ensures.0 c.if-is_empty.true) (c.is_empty-then-is_empty.ensures.0 empty)),
      (λ settled. c.is_empty-then-is_empty.ensures.1
          (none_out c.self.inside c.self.invariant settled)),
    )

pub returns-else-is_empty : goal.returns-else-is_empty
returns-else-is_empty c =
    let P : LeafStates → Type 0 = λ s. IsTrue c.is_empty.result ↔ AreSettled s in
    subst P c.self.view_is (
      (λ empty. absurd (false≢true (sym c.if-is_empty.false ∙ empty))),
      (λ settled. c.is_empty.ensures.1
          (none_wanted c.self.inside c.self.invariant settled)),
    )
