-- The next member is the first from the next slot on, and the members after it are left.
use Rattle.std.proofs.Common.{◌+◌, ◌<◌, Option, sym, ◌∙◌, ap, subst, ◌∷◌, length, arith}
use Rattle.std.specs.Iterator.{YieldsFirst}
use Rattle.lattice.specs.declared.node.Node.{Node}
use Rattle.lattice.specs.Node.{slot}
use Rattle.node_tables.specs.declared.members.Members.{Members}
use Rattle.node_tables.specs.Members.{members_left}
use Rattle.node_tables.proofs.SetLemmas.{members_from, members_from_none}
use Rattle.node_tables.proofs.members.MembersIterator.next.Goals as goal

pub returns-in_err-node-clause-steps : goal.returns-in_err-node-clause-steps
returns-in_err-node-clause-steps c =
    let none = members_from_none c.args.self.now.set.now c.args.self.now.next
    c.in_err-node.ensures.first in
    let P : Option Node → Type 0 = λ found.
    YieldsFirst members_left c.args.self.now found c.args.self.now in
    subst P (sym c.from_residual.ensures) (none, none)

-- the next member and those after it
pub returns-clause-steps : goal.returns-clause-steps
returns-clause-steps c =
    members_from c.args.self.now.set.now c.args.self.now.next c.in_ok-node.node
    c.in_ok-node.ensures.first
    ∙ ap (λ s. c.in_ok-node.node ∷ members_left (record {
      set = c.args.self.now.set;
      next = s + 1;
    })) (ap (λ d. slot d c.in_ok-node.node) (sym c.depth.ensures.value)
    ∙ sym c.slot.ensures.before)

pub returns-clause-goes : goal.returns-clause-goes
returns-clause-goes c =
    let after : Members = record { set = c.args.self.now.set; next = c.slot.result + 1 } in
    let shorter : length (members_left after) < length (members_left c.args.self.now) =
    omega (arith, ap length (returns-clause-steps c)) in
    record { on = λ finite. (tt, finite, shorter); keeps = tt; rests = λ _. tt }
