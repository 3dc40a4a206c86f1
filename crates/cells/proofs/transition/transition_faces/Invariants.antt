-- The faces so far are the cell's first ones in the turn of the leaf's face: the five squares stand before the lateral
-- faces.
use Rattle.std.proofs.Common.{◌≡◌, ◌+◌, ◌++◌, take, drop}
use Rattle.arrayvec.specs.ArrayVec.{array_vec_len}
use Rattle.terrain.specs.Cells.{transition_faces}
use Rattle.cells.proofs.transition.transition_faces.Given as goal

abbrev pub invariant-loop-square : goal.invariant-loop-square
invariant-loop-square l = record {
  faces : l.faces.items ≡ take l.square-index (transition_faces l.face l.signs);
  count : array_vec_len l.faces ≡ l.square-index;
}

abbrev pub invariant-loop-lateral : goal.invariant-loop-lateral
invariant-loop-lateral l = record {
  faces : l.faces.items ≡ take 5 (transition_faces l.face l.signs) ++ take l.lateral-index
      (drop 5 (transition_faces l.face l.signs));
  count : array_vec_len l.faces ≡ 5 + l.lateral-index;
}
