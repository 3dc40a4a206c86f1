-- The faces so far are the cell's first ones.
use Rattle.std.proofs.Common.{◌≡◌, take}
use Rattle.arrayvec.specs.ArrayVec.{array_vec_len}
use Rattle.terrain.specs.Cells.{regular_faces}
use Rattle.cells.proofs.regular.regular_faces.Given as goal

abbrev pub invariant-loop-square : goal.invariant-loop-square
invariant-loop-square l = record {
  faces : l.faces.items ≡ take l.square-index (regular_faces l.signs);
  count : array_vec_len l.faces ≡ l.square-index;
}
