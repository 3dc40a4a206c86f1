-- The rows before the first index, and from the end on, don't meet the box.
use Rattle.std.proofs.Common.{◌≤◌, refl, subst, arith}
use Rattle.lattice.specs.Node.{nodes_across}
use Rattle.octree.specs.SplitBits.{split_at}
use Rattle.octree.proofs.LeafLemmas.{filtered-more}
use Rattle.terra_events.specs.Met.{AreMet, is_met, row_nodes}
use Rattle.terra_events.proofs.MetLemmas.{among_them, before_them, beyond_them, filtered-begin, filtered-end, none_at_y}
use Rattle.terra_events.proofs.met.push_plane.Goals as goal

pub loop-j-init : goal.loop-j-init
loop-j-init c =
    let depth = c.args.levels.now.depth in
    let box = c.args.region in
    let m = split_at c.args.levels.now in
    let are = subst (λ d. AreMet d c.args.level box.lo.y box.hi.y c.met_indices-js.result)
    c.depth.ensures.value c.met_indices-js.ensures in
    filtered-begin (is_met depth m box) (row_nodes depth c.args.level c.args.k) _ _
    c.met_indices-js.result.low refl
    (λ n before. none_at_y depth m box c.args.level c.args.k n
    (before_them depth c.args.level box.lo.y box.hi.y c.met_indices-js.result are n before))

pub push_row-requires-clause-y : goal.push_row-requires-clause-y
push_row-requires-clause-y c =
    let box = c.args.region in
    let are = subst (λ d. AreMet d c.args.level box.lo.y box.hi.y c.met_indices-js.result)
    c.depth.ensures.value c.met_indices-js.ensures in
    among_them c.args.levels.now.depth c.args.level box.lo.y box.hi.y
    c.met_indices-js.result are c.loop-j.j (omega arith) (omega arith)

pub push_row-requires-clause-j : goal.push_row-requires-clause-j
push_row-requires-clause-j c =
    let box = c.args.region in
    let are = subst (λ d. AreMet d c.args.level box.lo.y box.hi.y c.met_indices-js.result)
    c.depth.ensures.value c.met_indices-js.ensures in
    omega (arith, are.within)

pub loop-j-preserved : goal.loop-j-preserved
loop-j-preserved c =
    let depth = c.args.levels.now.depth in
    filtered-more (is_met depth (split_at c.args.levels.now) c.args.region)
    (row_nodes depth c.args.level c.args.k) c.args.list.now.items c.loop-j.list.items
    c.push_row.new.list.items c.loop-j.j c.loop-j.invariant c.in_ok-push_row.ensures

pub returns : goal.returns
returns c =
    let depth = c.args.levels.now.depth in
    let box = c.args.region in
    let m = split_at c.args.levels.now in
    let level = c.args.level in
    let is = c.met_indices-js.result in
    let are = subst (λ d. AreMet d level box.lo.y box.hi.y is)
    c.depth.ensures.value c.met_indices-js.ensures in
    let ended : is.end ≤ c.loop-j.j = omega arith in
    let within : c.loop-j.j ≤ nodes_across depth level = omega (arith, are.order, are.within) in
    filtered-end (is_met depth m box) (row_nodes depth c.args.level c.args.k) c.args.list.now.items
    c.loop-j.list.items c.loop-j.j (nodes_across depth level) within c.loop-j.invariant
    (λ n low high. none_at_y depth m box c.args.level c.args.k n
    (beyond_them depth level box.lo.y box.hi.y is are n (omega arith) high))
