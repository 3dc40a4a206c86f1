-- The nodes before the first index, and from the end on, don't meet the box.
use Rattle.std.proofs.Common.{◌≡◌, ℕ, ◌≤◌, ◌++◌, filter, refl, sym, ap, ◌∙◌, subst, arith}
use Rattle.lattice.specs.Node.{nodes_across}
use Rattle.octree.specs.SplitBits.{split_at}
use Rattle.octree.proofs.LeafLemmas.{filtered-more}
use Rattle.terra_events.specs.Met.{AreMet, is_met}
use Rattle.terra_events.proofs.MetLemmas.{among_them, appended, before_them, beyond_them, filtered-begin, filtered-end, none_at_x, passed_over, row_item}
use Rattle.terra_events.proofs.met.push_row.Goals as goal
use Rattle.terra_events.proofs.met.push_row.Goals.{then-is_leaf+in_ok-push, else-is_leaf}

pub loop-i-init : goal.loop-i-init
loop-i-init c =
    let depth = c.args.levels.now.depth in
    let box = c.args.region in
    let m = split_at c.args.levels.now in
    let are = subst (λ d. AreMet d c.args.level box.lo.x box.hi.x c.met_indices-is.result)
    c.depth.ensures.value c.met_indices-is.ensures in
    filtered-begin (is_met depth m box) (row_item c.args.level c.args.k c.args.j) _ _
    c.met_indices-is.result.low refl
    (λ i before. none_at_x depth m box c.args.level c.args.k c.args.j i
    (before_them depth c.args.level box.lo.x box.hi.x c.met_indices-is.result are i before))

pub loop-i-preserved : goal.loop-i-preserved
loop-i-preserved c =
    let depth = c.args.levels.now.depth in
    let box = c.args.region in
    let m = split_at c.args.levels.now in
    let level = c.args.level in
    let i : ℕ = c.loop-i.i in
    let are = subst (λ d. AreMet d level box.lo.x box.hi.x c.met_indices-is.result)
    c.depth.ensures.value c.met_indices-is.ensures in
    let on = among_them depth level box.lo.x box.hi.x c.met_indices-is.result are i
    (omega arith) (omega arith) in
    let test = is_met depth m box in
    let more : c.if-is_leaf.list.items
    ≡ c.loop-i.list.items ++ filter test (row_item level c.args.k c.args.j i) =
    elim c.if-is_leaf.branch [
      | then-is_leaf+in_ok-push w ↦
          ap (λ v. v.items) w.list-is ∙ w.in_ok-push.ensures.items
          ∙ appended depth m box level c.args.k c.args.j i c.loop-i.list.items c.requires.z
          c.requires.y on (sym c.is_leaf.ensures.test ∙ w.if-is_leaf.true)
      | else-is_leaf w ↦
          ap (λ v. v.items) w.list-is
          ∙ passed_over depth m box level c.args.k c.args.j i c.loop-i.list.items c.requires.z
          c.requires.y on (sym c.is_leaf.ensures.test ∙ w.if-is_leaf.false)
    ] in
    filtered-more test (row_item level c.args.k c.args.j) c.args.list.now.items c.loop-i.list.items
    c.if-is_leaf.list.items i c.loop-i.invariant more

pub returns : goal.returns
returns c =
    let depth = c.args.levels.now.depth in
    let box = c.args.region in
    let m = split_at c.args.levels.now in
    let level = c.args.level in
    let is = c.met_indices-is.result in
    let are = subst (λ d. AreMet d level box.lo.x box.hi.x is)
    c.depth.ensures.value c.met_indices-is.ensures in
    let ended : is.end ≤ c.loop-i.i = omega arith in
    let within : c.loop-i.i ≤ nodes_across depth level = omega (arith, are.order, are.within) in
    filtered-end (is_met depth m box) (row_item level c.args.k c.args.j) c.args.list.now.items
    c.loop-i.list.items c.loop-i.i (nodes_across depth level) within c.loop-i.invariant
    (λ i low high. none_at_x depth m box level c.args.k c.args.j i
    (beyond_them depth level box.lo.x box.hi.x is are i (omega arith) high))
