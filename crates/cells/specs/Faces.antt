-- The faces of a transition cell in both turns. This project's rule.
use Rattle.std.specs.Prelude.{true, false, ◌++◌, reverse, take, drop}
use Rattle.lattice.specs.declared.point.Face.{Face}
use Rattle.terrain.specs.Curves.{Polygon}
use Rattle.terrain.specs.Cells.{is_straight}

-- a face with its corners in reverse: the side that led back to the first corner does so still
abbrev pub reversed_polygon : Polygon → Polygon
reversed_polygon p = record {
  solid = reverse p.solid;
  sides = drop 1 (reverse p.sides) ++ take 1 (reverse p.sides);
}

-- a face in the turn that it has on the face of a leaf, from the straight turn
abbrev pub turned_polygon : Face → Polygon → Polygon
turned_polygon face p = elim (is_straight face) [ true ↦ p | false ↦ reversed_polygon p ]
