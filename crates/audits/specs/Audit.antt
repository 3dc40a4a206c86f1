-- Audits of meshes: which pairs of keys have more edges one way than the other.
-- Source: counting directed edges is this project's rule.
use Rattle.std.specs.Prelude.{ℕ, ◌*◌, Bool, ◌&&◌, ◌||◌, not, ◌==◌, if◌then◌else◌, List, [], ◌∷◌, ◌++◌, length, filter, unsigned_abs, ℤ}
use Rattle.std.specs.List.{list_any}
use Rattle.lattice.specs.declared.key.Key.{Key}
use Rattle.lattice.specs.declared.settings.Settings.{Settings}
use Rattle.lattice.specs.Key.{far_end, is_same_key}
use Rattle.terrain.specs.declared.event.Event.{Event}
use Rattle.terrain.specs.Blocks.{Mesh, border, frame_edges, lie_on_border, net, scratch}
use Rattle.terrain.specs.History.{sample}
use Rattle.terrain.specs.Levels.{levels}
use Rattle.audits.specs.declared.audit.Audit.{Audit}
use Rattle.snapshots.specs.Stats.{triangle_count}

-- whether an edge goes between the two keys of a pair, one way or the other
abbrev pub goes_between : Key × Key → Key × Key → Bool
goes_between pair edge =
    is_same_key edge.0 pair.0 && is_same_key edge.1 pair.1
    || is_same_key edge.1 pair.0 && is_same_key edge.0 pair.1

-- a list of pairs with that of an edge at its end, if the pair isn't among them already; an edge from a key to
-- itself has no pair
abbrev pub with_pair : List (Key × Key) → Key × Key → List (Key × Key)
with_pair known edge =
    if is_same_key edge.0 edge.1 || list_any (λ pair. goes_between pair edge) known
    then known
    else known ++ edge ∷ []

abbrev pub with_pairs : List (Key × Key) → List (Key × Key) → List (Key × Key)
with_pairs known [] = known
with_pairs known (edge ∷ edges) = with_pairs (with_pair known edge) edges

-- the unordered pairs of keys between which edges go, each once, in the order of first use
abbrev pub pairs_of : List (Key × Key) → List (Key × Key)
pairs_of edges = with_pairs [] edges

-- whether the net of a pair is other than 0
abbrev pub is_open : List (Key × Key) → Key × Key → Bool
is_open edges pair = not (unsigned_abs (net edges pair.0 pair.1) == 0)

-- whether the edges of both keys of a pair lie together in one plane of the border
abbrev pub is_on_border : ℕ → Key × Key → Bool
is_on_border depth pair =
    lie_on_border depth
    (pair.0.at ∷ far_end pair.0 ∷ pair.1.at ∷ far_end pair.1 ∷ [])

-- how many edges so many triangles have, and how many pairs with a net other than 0 among their edges don't lie on
-- the border, and do
abbrev pub edge_audit : ℕ → ℕ → List (Key × Key) → Audit
edge_audit depth triangles edges =
    let open_pairs = filter (is_open edges) (pairs_of edges) in
    record {
      edges = 3 * triangles;
      cracks = length (filter (λ pair. not (is_on_border depth pair)) open_pairs);
      border = length (filter (is_on_border depth) open_pairs);
    }

-- the same of meshes
abbrev pub audit_of : ℕ → List Mesh → Audit
audit_of depth meshes = edge_audit depth (triangle_count meshes) (frame_edges meshes)

-- how many pairs of keys the border of the world leaves open, among those that the mesh of a history has
abbrev pub border_pairs : Settings → List Event → ℕ
border_pairs rules history =
    let left : Key × Key → ℤ = λ pair.
    border rules.depth (sample rules history) (levels rules history) pair.0 pair.1 in
    let pairs = pairs_of (frame_edges (scratch rules history)) in
    length (filter (λ pair. not (unsigned_abs (left pair) == 0)) pairs)
