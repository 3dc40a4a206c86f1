-- The corners and sides so far are the face's first ones.
use Rattle.std.proofs.Common.{◌≡◌, map, take, []}
use Rattle.terrain.specs.Cells.{is_set}
use Rattle.cells.proofs.polygon.polygon.Given as goal

abbrev pub invariant-loop-corner : goal.invariant-loop-corner
invariant-loop-corner l = record {
  solid : l.polygon-inside.solid.items ≡ map (is_set l.signs) (take l.corner-index l.corners);
  sides : l.polygon-inside.sides.items ≡ [];
}

abbrev pub invariant-loop-side : goal.invariant-loop-side
invariant-loop-side l = record {
  solid : l.polygon-inside.solid.items ≡ map (is_set l.signs) l.corners;
  sides : l.polygon-inside.sides.items ≡ take l.side-index l.sides;
}
