-- The keys so far and the one at hand begin the orbit.
use Rattle.std.proofs.Common.{List, ◌-◌, ◌<◌, length}
use Rattle.terrain.specs.declared.curve.Curve.{Curve}
use Rattle.face_curves.specs.Followers.{Follows}
use Rattle.face_curves.proofs.LoopFrom.{Walked}
use Rattle.face_curves.proofs.followers.Followers.loop_from.Given as goal

abbrev pub invariant-loop-keys : goal.invariant-loop-keys
invariant-loop-keys l = record {
  low : l.at < 16;
  walked : (cs : List Curve)
      → Follows cs l.self.ends → Walked cs l.key l.keys.items l.at (16 - length l.keys.items);
}

abbrev pub decreases-loop-keys : goal.decreases-loop-keys
decreases-loop-keys l = 16 - length l.keys.items
