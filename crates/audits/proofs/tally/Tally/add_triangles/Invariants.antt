-- The triangles so far.
use Rattle.std.proofs.Common.{ℕ, ◌+◌, ◌-◌, ◌*◌, ◌++◌, List, length, take}
use Rattle.terrain.specs.Curves.{all_edges}
use Rattle.audits.specs.Tally.{HasRoomFor, IsTallyOf}
use Rattle.audits.proofs.NamedLemmas.{named}
use Rattle.audits.proofs.TallyLemmas.{Pair}
use Rattle.audits.proofs.tally.Tally.add_triangles.Given as goal

-- how many edges the other triangles have, and the tally with those of the ones so far
abbrev pub invariant-loop-a : goal.invariant-loop-a
invariant-loop-a l =
    ((more : ℕ) → HasRoomFor l.initial.self (3 * length l.triangles + more)
    → HasRoomFor l.self (3 * (length l.triangles - l.a-index) + more))
    × ((edges : List Pair) → IsTallyOf l.initial.self edges
    → IsTallyOf l.self (edges ++ all_edges (named l.keys (take l.a-index l.triangles))))
