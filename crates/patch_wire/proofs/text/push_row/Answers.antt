-- Each node is one more of the row, if it has a block.
use Rattle.std.proofs.Common.{◌≡◌, cond, [], ◌∷◌, ◌++◌, filter, sym, ap, ◌∙◌, arith, append-nil}
use Rattle.lattice.specs.declared.node.Node.{Node}
use Rattle.lattice.specs.Lists.{joined}
use Rattle.octree.proofs.LeafLemmas.{filtered-none, filtered-more}
use Rattle.replicas.specs.Replicas.{block_shown}
use Rattle.patch_wire.specs.Written.{has_block}
use Rattle.patch_wire.proofs.WrittenLemmas.{lent-block}
use Rattle.patch_wire.proofs.text.push_row.Goals as goal
use Rattle.patch_wire.proofs.text.push_row.Goals.{then-is_some+in_ok-push, else-is_some}

pub loop-i-init : goal.loop-i-init
loop-i-init c = filtered-none _ _ _

-- the node of this turn
abbrev node_of : goal.Joined-is_some → Node
node_of c = record {
  level = c.args.first.level;
  k = c.args.first.k;
  j = c.args.first.j;
  i = c.loop-i.i;
}

-- it has a block where one is lent
tested : (c : goal.Joined-is_some)
    → has_block c.args.replica.now (node_of c) ≡ c.is_some.result
tested c =
    lent-block c.block.result (block_shown c.args.replica.now (node_of c)) c.block.ensures.lists
    ∙ sym c.is_some.ensures

pub loop-i-preserved : goal.loop-i-preserved
loop-i-preserved c = elim c.if-is_some.branch [
  | then-is_some+in_ok-push w ↦
      rw w.list-is (filtered-more (has_block c.args.replica.now)
      (λ i. record
      { level = c.args.first.level; k = c.args.first.k; j = c.args.first.j; i = i } ∷ [])
      c.args.list.now.items c.loop-i.list.items w.push.new.self.items c.loop-i.i
      c.loop-i.invariant (w.in_ok-push.ensures.items
      ∙ ap (λ b. c.loop-i.list.items ++ cond b (node_of c ∷ []) [])
      (sym (tested c ∙ w.if-is_some.true))))
  | else-is_some w ↦
      rw w.list-is (filtered-more (has_block c.args.replica.now)
      (λ i. record
      { level = c.args.first.level; k = c.args.first.k; j = c.args.first.j; i = i } ∷ [])
      c.args.list.now.items c.loop-i.list.items c.loop-i.list.items c.loop-i.i
      c.loop-i.invariant (sym (append-nil c.loop-i.list.items)
      ∙ ap (λ b. c.loop-i.list.items ++ cond b (node_of c ∷ []) [])
      (sym (tested c ∙ w.if-is_some.false))))
]

pub returns : goal.returns
returns c =
    let ended : c.loop-i.i ≡ c.args.across = omega arith in
    c.loop-i.invariant
    ∙ ap (λ n. c.args.list.now.items ++ filter (has_block c.args.replica.now)
    (joined n (λ i. record
    { level = c.args.first.level; k = c.args.first.k; j = c.args.first.j; i = i } ∷ []))) ended
