-- The first bit that is set from a slot on is that of the first member from there on.
use Rattle.std.proofs.Common.{◌≡◌, ◌≤◌, false, Option, sym, subst, arith}
use Rattle.std.specs.Prelude.{MatchOption}
use Rattle.lattice.specs.declared.node.Node.{Node}
use Rattle.lattice.specs.Node.{slot}
use Rattle.node_tables.specs.Members.{IsFirstFrom}
use Rattle.node_tables.specs.NodeBits.{NodeBits, has}
use Rattle.node_tables.proofs.SetLemmas.{IsFirstFrom-found, has-none_from}
use Rattle.node_tables.proofs.set.NodeSet.first_from.Goals as goal

pub returns-in_err-place-clause-first : goal.returns-in_err-place-clause-first
returns-in_err-place-clause-first c =
    let P : Option Node → Type 0 = λ found.
    MatchOption found
    ((n : Node) → c.args.from ≤ slot c.args.self.now.depth n → has c.args.self.now n ≡ false)
    (IsFirstFrom c.args.self.now c.args.from) in
    let Q : NodeBits → Type 0 = λ set. (n : Node) → c.args.from ≤ slot set.depth n
    → has set n ≡ false in
    subst P (sym c.from_residual.ensures) (subst Q c.self.view_is (has-none_from (record {
      depth = c.self.inside.depth;
      words = c.self.inside.bits;
    }) c.args.from c.in_err-place.ensures))

pub overflow_cast-place : goal.overflow_cast-place
overflow_cast-place c =
    let few = c.counts_of_nodes.ensures.most c.self.inside.depth c.self.invariant.depth in
    let within = c.self.invariant.spare c.in_ok-place.place c.in_ok-place.ensures.1 in
    record { fits = omega arith }

pub returns-clause-first : goal.returns-clause-first
returns-clause-first c =
    let set : NodeBits = record {
      depth = c.self.inside.depth;
      words = c.self.inside.bits;
    } in
    let P : NodeBits → Type 0 = λ s. IsFirstFrom s c.args.from c.node_at.result in
    subst P c.self.view_is (IsFirstFrom-found set c.args.from c.in_ok-place.place c.node_at.result
    c.node_at.ensures.node c.node_at.ensures.slot
    c.in_ok-place.ensures.0 c.in_ok-place.ensures.1 c.in_ok-place.ensures.2)
