-- The corners so far.
use Rattle.std.proofs.Common.{◌≡◌, length}
use Rattle.surface_query.specs.Corners.{AreCornerTexts, IsCornerText}
use Rattle.surface_query.proofs.lines.corners_of.Given as goal

abbrev pub invariant-loop-place : goal.invariant-loop-place
invariant-loop-place l = record {
  long : length l.corners.items ≡ l.place;
  corners : AreCornerTexts l.bases l.corners.items;
  next : IsCornerText l.bases l.place l.corner;
}
