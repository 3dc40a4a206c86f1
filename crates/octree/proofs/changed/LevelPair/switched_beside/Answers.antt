-- Three rows together, widened by one; at level 0 no node is switched.
use Rattle.std.proofs.Common.{ap, sym, ◌∙◌}
use Rattle.octree.specs.Layers.{PairOf}
use Rattle.octree.proofs.ChangedLemmas.{beside_bits, none_beside}
use Rattle.octree.proofs.changed.LevelPair.switched_beside.Goals as goal

pub returns-then-self-eq0 : goal.returns-then-self-eq0
returns-then-self-eq0 c i =
    let pair = c.args.self.now in
    none_beside pair.before pair.after pair.level c.args.k c.args.j i
    (sym (ap (λ (p : PairOf). p.level) c.self.view_is) ∙ c.if-self-eq0.true)

pub returns : goal.returns
returns c i =
    beside_bits c.args.self.now.before c.args.self.now.after c.args.self.now.level c.args.k c.args.j
    c.switched_below-low.result c.switched_row-here.result c.switched_row-high.result
    c.switched_below-low.ensures.each c.switched_row-here.ensures.each
    c.switched_row-high.ensures.each c.widened.result c.widened.ensures i
