-- The planes before the first index, and from the end on, don't meet the box.
use Rattle.std.proofs.Common.{◌≤◌, refl, subst, arith}
use Rattle.lattice.specs.Node.{nodes_across}
use Rattle.octree.specs.SplitBits.{split_at}
use Rattle.octree.proofs.LeafLemmas.{filtered-more}
use Rattle.terra_events.specs.Met.{AreMet, is_met, plane_nodes}
use Rattle.terra_events.proofs.MetLemmas.{among_them, before_them, beyond_them, filtered-begin, filtered-end, none_at_z}
use Rattle.terra_events.proofs.met.push_level.Goals as goal

pub loop-k-init : goal.loop-k-init
loop-k-init c =
    let depth = c.args.levels.now.depth in
    let box = c.args.region in
    let m = split_at c.args.levels.now in
    let are = subst (λ d. AreMet d c.args.level box.lo.z box.hi.z c.met_indices-ks.result)
    c.depth.ensures.value c.met_indices-ks.ensures in
    filtered-begin (is_met depth m box) (plane_nodes depth c.args.level) _ _
    c.met_indices-ks.result.low refl
    (λ n before. none_at_z depth m box c.args.level n
    (before_them depth c.args.level box.lo.z box.hi.z c.met_indices-ks.result are n before))

pub push_plane-requires-clause-z : goal.push_plane-requires-clause-z
push_plane-requires-clause-z c =
    let box = c.args.region in
    let are = subst (λ d. AreMet d c.args.level box.lo.z box.hi.z c.met_indices-ks.result)
    c.depth.ensures.value c.met_indices-ks.ensures in
    among_them c.args.levels.now.depth c.args.level box.lo.z box.hi.z
    c.met_indices-ks.result are c.loop-k.k (omega arith) (omega arith)

pub push_plane-requires-clause-k : goal.push_plane-requires-clause-k
push_plane-requires-clause-k c =
    let box = c.args.region in
    let are = subst (λ d. AreMet d c.args.level box.lo.z box.hi.z c.met_indices-ks.result)
    c.depth.ensures.value c.met_indices-ks.ensures in
    omega (arith, are.within)

pub loop-k-preserved : goal.loop-k-preserved
loop-k-preserved c =
    let depth = c.args.levels.now.depth in
    filtered-more (is_met depth (split_at c.args.levels.now) c.args.region)
    (plane_nodes depth c.args.level) c.args.list.now.items c.loop-k.list.items
    c.push_plane.new.list.items c.loop-k.k c.loop-k.invariant c.in_ok-push_plane.ensures

pub returns : goal.returns
returns c =
    let depth = c.args.levels.now.depth in
    let box = c.args.region in
    let m = split_at c.args.levels.now in
    let level = c.args.level in
    let is = c.met_indices-ks.result in
    let are = subst (λ d. AreMet d level box.lo.z box.hi.z is)
    c.depth.ensures.value c.met_indices-ks.ensures in
    let ended : is.end ≤ c.loop-k.k = omega arith in
    let within : c.loop-k.k ≤ nodes_across depth level = omega (arith, are.order, are.within) in
    filtered-end (is_met depth m box) (plane_nodes depth c.args.level) c.args.list.now.items
    c.loop-k.list.items c.loop-k.k (nodes_across depth level) within c.loop-k.invariant
    (λ n low high. none_at_z depth m box c.args.level n
    (beyond_them depth level box.lo.z box.hi.z is are n (omega arith) high))
