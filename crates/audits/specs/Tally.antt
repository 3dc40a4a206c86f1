-- How often the edges between keys are used, pair by pair. This project's rule.
use Rattle.std.specs.Prelude.{◌≡◌, ℕ, ◌+◌, ◌<◌, Bool, ◌==◌, List, [], ◌∷◌, length, map}
use Rattle.std.specs.List.{list_all}
use Rattle.lattice.specs.declared.point.Axis.{Axis}
use Rattle.lattice.specs.Key.{far_end}
use Rattle.lattice.specs.Point.{coordinate}
use Rattle.lattice.specs.declared.key.Key.{Key}
use Rattle.terrain.specs.Blocks.{times}
use Rattle.audits.specs.Audit.{pairs_of}
use Rattle.audits.specs.declared.tally.Tally.{Tally}
use Rattle.audits.specs.declared.tally.TheConstants.{EDGE_LIMIT}
use Rattle.audits.specs.declared.tally.Uses.{Uses}

-- how often these edges go from the first key of a pair to the second, and back
abbrev pub uses_of : List (Key × Key) → Key × Key → Uses
uses_of edges pair = record {
  along = times pair.0 pair.1 edges;
  back = times pair.1 pair.0 edges;
}

-- a tally has the pairs of these edges, and how often each is used
pub record IsTallyOf (tally : Tally) (edges : List (Key × Key)) : Type 0 where
  pub pairs : tally.pairs.keys ≡ pairs_of edges
  pub uses : tally.uses.items ≡ map (uses_of edges) (pairs_of edges)

-- a tally has some edges, and its counts have room for so many more
pub record HasRoomFor (tally : Tally) (more : ℕ) : Type 0 where
  pub edges : List (Key × Key)
  pub counts : IsTallyOf tally edges
  pub few : length edges + more < EDGE_LIMIT

-- whether the edges of both keys of a pair lie in the plane in which an axis has this coordinate
abbrev pub lie_in_plane : Axis → ℕ → Key × Key → Bool
lie_in_plane axis c pair =
    list_all (λ p. coordinate axis p == c)
    (pair.0.at ∷ far_end pair.0 ∷ pair.1.at ∷ far_end pair.1 ∷ [])
