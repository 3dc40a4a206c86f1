-- The corners and sides so far are the face's first ones, in reverse.
use Rattle.std.proofs.Common.{◌≡◌, take, reverse, []}
use Rattle.arrayvec.specs.ArrayVec.{array_vec_len}
use Rattle.cells.proofs.polygon.reversed_polygon.Given as goal

abbrev pub invariant-loop-solid : goal.invariant-loop-solid
invariant-loop-solid l = record {
  solid : l.reversed-inside.solid.items ≡ reverse (take l.solid-index l.face.solid);
  corners : array_vec_len l.reversed-inside.solid ≡ l.solid-index;
  sides : l.reversed-inside.sides.items ≡ [];
  none : array_vec_len l.reversed-inside.sides ≡ 0;
}

abbrev pub invariant-loop-side : goal.invariant-loop-side
invariant-loop-side l = record {
  solid : l.reversed-inside.solid.items ≡ reverse l.face.solid;
  sides : l.reversed-inside.sides.items ≡ reverse (take l.side-index l.face.sides);
  count : array_vec_len l.reversed-inside.sides ≡ l.side-index;
}
