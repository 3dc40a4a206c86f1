-- The loops of a closed cell: they are the orbits of its curves, their fans have the net of its curves, and how many
-- there are, with how many keys (docs/rules.md, "Curves, loops and fans").
--
-- The clauses of `loops`, put together: that the curves of closed faces are paired is `IsClosed`, that loops of paired
-- curves are orbits `AreOrbits`, and the net of fans `HaveSameNet`.
use Rattle.std.proofs.Common.{◌<◌, ◌≤◌, List, length, flat_map, arith}
use Rattle.std.specs.List.{AllByRecursion}
use Rattle.terrain.specs.Curves.{Polygon, IsClosed, AreOrbits, HaveSameNet, cell_curves, loops, fan, all_edges, curve_edges}
use Rattle.face_curves.proofs.AreOrbits.{loops_of-orbits, loop_keys-short, loops_of-below, loops_of-three, three_times}
use Rattle.face_curves.proofs.IsClosed.{IsClosed-paired, IsClosed-one, IsClosed-two}
use Rattle.face_curves.proofs.HaveSameNet.{fan-net, HaveSameNet-as_often}

-- the loops of a closed cell are the orbits of its curves
pub loops-are-orbits : (faces : List Polygon) → IsClosed faces
    → AreOrbits (cell_curves faces) (loops faces)
loops-are-orbits faces closed = loops_of-orbits (IsClosed-paired closed)

-- the fans of a closed cell's loops have the net of its curves
pub loops-net : (faces : List Polygon) → IsClosed faces
    → HaveSameNet (all_edges (fan (loops faces))) (curve_edges (cell_curves faces))
loops-net faces closed = HaveSameNet-as_often (all_edges (fan (loops faces)))
    (all_edges (loops faces)) (curve_edges (cell_curves faces)) (fan-net (loops faces))
    (loops-are-orbits faces closed).round

-- the loops of a closed cell have at most 16 keys together
pub loops-keys : (faces : List Polygon) → IsClosed faces
    → length (flat_map (λ keys. keys) (loops faces)) ≤ 16
loops-keys faces closed = loop_keys-short (IsClosed-paired closed)

-- each loop of a closed cell has three keys or more
pub loops-three : (faces : List Polygon) → IsClosed faces
    → AllByRecursion (λ keys. 3 ≤ length keys) (loops faces)
loops-three faces closed = loops_of-three (IsClosed-paired closed) (IsClosed-one closed)
    (IsClosed-two closed)

-- a closed cell has at most five loops
pub loops-count : (faces : List Polygon) → IsClosed faces → length (loops faces) ≤ 5
loops-count faces closed = omega (
  arith,
  three_times (loops faces) (loops-three faces closed),
  loops-keys faces closed,
)

-- the keys in the loops of a closed cell are below 16
pub loops-below : (faces : List Polygon) → IsClosed faces
    → AllByRecursion (λ keys. AllByRecursion (λ k. k < 16) keys) (loops faces)
loops-below faces closed = loops_of-below (IsClosed-paired closed)
