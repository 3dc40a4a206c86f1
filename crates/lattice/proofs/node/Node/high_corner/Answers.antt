-- A row of nodes is as long as the world.
use Rattle.std.proofs.Common.{refl, subst, sym}
use Rattle.lattice.specs.Point.{IsInWorld}
use Rattle.lattice.proofs.SizeLemmas.{corner_inside}
use Rattle.lattice.proofs.node.Node.high_corner.Goals as goal

pub returns-clause-value : goal.returns-clause-value
returns-clause-value c = rw (c.new.ensures, c.side-side.ensures.value) refl

pub returns-clause-world : goal.returns-clause-world
returns-clause-world c = λ depth node.
    subst (IsInWorld depth) (sym (returns-clause-value c))
    (corner_inside depth c.args.self.now node)
