-- The normals so far: those that were appended, and behind them those that are gathered.
use Rattle.std.proofs.Common.{◌≡◌, ◌≤◌, ◌++◌, length, take, flat_map}
use Rattle.surface_normals.specs.Normals.{normal_of}
use Rattle.surface_query.specs.NormalText.{normal_line}
use Rattle.terrain.specs.History.{sample}
use Rattle.surface_query.proofs.lines.push_normals_beside.Given as goal

abbrev pub invariant-loop-key : goal.invariant-loop-key
invariant-loop-key l = record {
  text : l.out.items ++ take l.end l.lines ≡ l.initial.out.items ++ flat_map (λ key. normal_line
      (normal_of l.frame.settings.depth (sample l.frame.settings l.frame.events) key))
      (take l.key-index l.keys);
  room : l.end ≤ length l.lines;
}
