-- The pairs so far.
use Rattle.std.proofs.Common.{◌≡◌, ◌≤◌, List, length, take}
use Rattle.std.specs.Prelude.{filter, not}
use Rattle.audits.specs.Audit.{is_on_border, is_open}
use Rattle.audits.specs.Tally.{IsTallyOf}
use Rattle.audits.proofs.TallyLemmas.{Pair}
use Rattle.audits.proofs.tally.Tally.open_pairs.Given as goal

abbrev pub invariant-loop-place : goal.invariant-loop-place
invariant-loop-place l =
    ((edges : List Pair) → IsTallyOf l.self edges → l.open.inside
    ≡ length (filter (λ pair. not (is_on_border l.settings.depth pair))
    (filter (is_open edges) (take l.place l.self.pairs.keys))))
    × ((edges : List Pair) → IsTallyOf l.self edges → l.open.on_border
    ≡ length (filter (is_on_border l.settings.depth)
    (filter (is_open edges) (take l.place l.self.pairs.keys))))
    × (l.open.inside ≤ l.place) × (l.open.on_border ≤ l.place)
