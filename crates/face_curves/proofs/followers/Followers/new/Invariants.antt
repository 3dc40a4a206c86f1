-- The curves of the faces so far are entered.
use Rattle.std.proofs.Common.{take}
use Rattle.terrain.specs.Curves.{cell_curves}
use Rattle.face_curves.specs.Followers.{Follows}
use Rattle.face_curves.proofs.followers.Followers.new.Given as goal

abbrev pub invariant-loop-face : goal.invariant-loop-face
invariant-loop-face l = Follows (cell_curves (take l.face-index l.faces.items)) l.followers.ends
