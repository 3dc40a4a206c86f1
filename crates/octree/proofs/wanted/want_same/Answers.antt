-- One viewpoint after another, and then all together.
use Rattle.std.proofs.Common.{arith}
use Rattle.octree.specs.Viewpoints.{place_of}
use Rattle.octree.proofs.WantedLemmas.{wanted-places}
use Rattle.octree.proofs.wanted.want_same.Goals as goal

pub returns : goal.returns
returns c = λ yes.
    wanted-places c.args.settings.now (place_of c.args.before.now) (place_of c.args.after.now)
    (λ view number. c.loop-view.invariant view (omega arith))
