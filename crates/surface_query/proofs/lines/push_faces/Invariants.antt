-- The triangles so far: those that were appended, and behind them those that are gathered.
use Rattle.std.proofs.Common.{◌≡◌, ◌≤◌, ◌++◌, length, take, codes, flat_map}
use Rattle.surface_query.specs.NormalText.{corner_text}
use Rattle.surface_query.proofs.lines.push_faces.Given as goal

abbrev pub invariant-loop-places : goal.invariant-loop-places
invariant-loop-places l = record {
  text : l.out.items ++ take l.end l.lines ≡ l.initial.out.items ++ flat_map
      (λ places. codes "f" ++ flat_map (corner_text l.bases) places ++ codes "\n")
      (take l.places-index l.triangles);
  room : l.end ≤ length l.lines;
}
