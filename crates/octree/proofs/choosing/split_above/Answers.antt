-- Each plane is one more; at level 1 none is needed.
use Rattle.std.proofs.Common.{◌∙◌, ap, arith}
use Rattle.lattice.specs.Node.{nodes_across}
use Rattle.octree.proofs.GainsLemmas.{gains_nothing}
use Rattle.octree.proofs.GrownLemmas.{needed-all_planes, needed-plane, none_needed}
use Rattle.octree.proofs.choosing.split_above.Goals as goal

pub returns-then-level-eq1 : goal.returns-then-level-eq1
returns-then-level-eq1 c =
    gains_nothing _ c.args.levels.now
    (λ n h. none_needed c.args.levels.now c.args.level n c.if-level-eq1.true h)

pub loop-k-init : goal.loop-k-init
loop-k-init c = gains_nothing _ c.args.levels.now (λ n h. omega (arith, h.1))

pub loop-k-preserved : goal.loop-k-preserved
loop-k-preserved c =
    needed-plane c.args.level c.loop-k.k c.args.levels.now c.loop-k.levels
    c.split_above_plane.new.levels c.loop-k.invariant c.split_above_plane.ensures

pub returns : goal.returns
returns c =
    let across = c.nodes_across-k-end.ensures
    ∙ ap (λ d. nodes_across d c.args.level) c.depth.ensures.value in
    needed-all_planes c.args.level c.loop-k.k c.args.levels.now c.loop-k.levels
    (omega (arith, across, c.loop-k-test.false)) c.loop-k.invariant
