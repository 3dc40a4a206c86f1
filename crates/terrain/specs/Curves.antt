-- The curves of a polygon, the loops of a cell, their fans, and the net of directed edges.
--
-- The sign rule is that of Marching Cubes (Lorensen and Cline 1987). The triangulation is this project's: at an
-- ambiguous square the solid corners are separated, on both sides of a shared face alike.
use Rattle.std.specs.Prelude.{◌≡◌, ℕ, zero, suc, ◌+◌, ◌-◌, ◌%◌, ◌<◌, ◌≤◌, Bool, true, false, not, ◌&&◌, ◌==◌, nat_lt, nat_le, if◌then◌else◌, IsTrue, List, [], ◌∷◌, ◌++◌, length, map, take, drop, slice_index_or}
use Rattle.std.specs.List.{filter, flat_map, list_all, list_any, range_with_len, take_while, zip, AllByRecursion}
use Rattle.std.specs.List.Sorted.{IsStrictlyIncreasing}
use Rattle.terrain.specs.declared.curve.Curve.{Curve}

-- ---- polygons and their curves

-- the number that names a side between two copies of one point
abbrev pub no_side : ℕ
no_side = 255

-- the numbers of the other sides are below this
abbrev pub side_numbers : ℕ
side_numbers = 16

-- a face of a cell: for each corner, counter-clockwise as seen from outside the cell, whether it is solid, and the
-- number of the side that goes from it to the next corner
pub record Polygon : Type 0 where
  pub solid : List Bool
  pub sides : List ℕ

-- how many corners it has
abbrev pub corner_count : Polygon → ℕ
corner_count p = length p.solid

-- whether corner t is solid, counted round
abbrev pub is_solid_corner : Polygon → ℕ → Bool
is_solid_corner p t = slice_index_or p.solid (t % corner_count p) false

-- the number of the side from corner t to the next one, counted round
abbrev pub side : Polygon → ℕ → ℕ
side p t = slice_index_or p.sides (t % corner_count p) no_side

-- the corner before corner t, counted round
abbrev pub before : Polygon → ℕ → ℕ
before p t = t + corner_count p - 1

-- whether a run of solid corners begins at corner t: it is solid, and the one before it isn't
abbrev pub begins_run : Polygon → ℕ → Bool
begins_run p t = is_solid_corner p t && not (is_solid_corner p (before p t))

-- how many corners from t on, counted round, are solid
abbrev pub run_length : Polygon → ℕ → ℕ
run_length p t = length (take_while (λ corner. corner) (drop t p.solid ++ take t p.solid))

-- the curve that cuts off the run which begins at corner t: from the side that enters it to the side that leaves it
abbrev pub curve_at : Polygon → ℕ → Curve
curve_at p t = record { start = side p (before p t); end = side p (t + run_length p t - 1) }

-- the places of the corners
abbrev pub places : Polygon → List ℕ
places p = range_with_len 0 (corner_count p)

-- one curve for each run of solid corners that isn't the whole polygon, by the place at which it begins
abbrev pub curves : Polygon → List Curve
curves p = map (curve_at p) (filter (begins_run p) (places p))

-- ---- which polygons are faces of a cell

-- three to five corners, as many sides, and each side between corners that differ has a number; others may have none
-- (255)
pub record IsPolygon (p : Polygon) : Type 0 where
  pub at_least : 3 ≤ corner_count p
  pub at_most : corner_count p ≤ 5
  pub as_many : length p.sides ≡ corner_count p
  pub copies : (t : ℕ) → t < corner_count p → side p t ≡ no_side
      → is_solid_corner p t ≡ is_solid_corner p (t + 1)

-- the sides that go from an empty corner to a solid one
abbrev pub entered : Polygon → List ℕ
entered p =
    map (side p) (filter (λ t. not (is_solid_corner p t) && is_solid_corner p (t + 1)) (places p))

-- the sides that go from a solid corner to an empty one
abbrev pub left : Polygon → List ℕ
left p =
    map (side p) (filter (λ t. is_solid_corner p t && not (is_solid_corner p (t + 1))) (places p))

-- the sides whose two corners differ
abbrev pub crossed : Polygon → List ℕ
crossed p = entered p ++ left p

-- whether the key is one of the list, and how often it is
abbrev pub is_one_of : ℕ → List ℕ → Bool
is_one_of key keys = list_any (λ k. k == key) keys

abbrev pub count_of : ℕ → List ℕ → ℕ
count_of key [] = 0
count_of key (k ∷ keys) = (if k == key then 1 else 0) + count_of key keys

-- the keys of xs that are also in ys
abbrev pub shared : List ℕ → List ℕ → List ℕ
shared xs ys = filter (λ k. is_one_of k ys) xs

-- whether no two of the polygons share two sides whose corners differ
abbrev pub share_at_most_one : List Polygon → Bool
share_at_most_one [] = true
share_at_most_one (p ∷ ps) =
    list_all (λ q. nat_le (length (shared (crossed p) (crossed q))) 1) ps && share_at_most_one ps

-- the numbers that a side whose corners differ may have
abbrev pub key_numbers : List ℕ
key_numbers = range_with_len 0 side_numbers

-- the polygons are the faces of a cell: each side whose corners differ has a number and is in exactly two of them, in
-- opposite directions, and no two polygons share two such sides
pub record IsClosed (faces : List Polygon) : Type 0 where
  pub polygons : AllByRecursion IsPolygon faces
  pub numbers : IsTrue (list_all (λ k. nat_lt k side_numbers) (flat_map crossed faces))
  pub once : IsTrue (list_all (λ k. nat_le (count_of k (flat_map entered faces)) 1) key_numbers)
  pub opposite :
      IsTrue (list_all (λ k.
      count_of k (flat_map entered faces) == count_of k (flat_map left faces)) key_numbers)
  pub in_two : IsTrue (list_all (λ p. length (shared (entered p) (left p)) == 0) faces)
  pub apart : IsTrue (share_at_most_one faces)

-- ---- loops

-- all curves of a cell, face by face
abbrev pub cell_curves : List Polygon → List Curve
cell_curves faces = flat_map curves faces

-- whether a curve starts at the key
abbrev pub starts : List Curve → ℕ → Bool
starts cs key = list_any (λ c. c.start == key) cs

-- the end of the curve that starts at the key
unfoldable pub next : List Curve → ℕ → ℕ
next [] key = key
next (c ∷ cs) key = if c.start == key then c.end else next cs key

-- n keys, each the next of the one before it
unfoldable pub steps : List Curve → ℕ → ℕ → List ℕ
steps cs zero key = []
steps cs (suc n) key = key ∷ steps cs n (next cs key)

-- the orbit of `next` that begins at the key: it, and what comes until it comes again
unfoldable pub orbit : List Curve → ℕ → List ℕ
orbit cs key = key ∷ take_while (λ k. not (k == key)) (steps cs side_numbers (next cs key))

-- whether the key is the least of its orbit
abbrev pub is_least : List Curve → ℕ → Bool
is_least cs key = list_all (λ k. nat_le key k) (orbit cs key)

-- the loops of the curves: each orbit once, from its least key, by rising least key
unfoldable pub loops_of : List Curve → List (List ℕ)
loops_of cs = map (orbit cs) (filter (λ key. starts cs key && is_least cs key) key_numbers)

-- the loops of a cell with these faces
abbrev pub loops : List Polygon → List (List ℕ)
loops faces = loops_of (cell_curves faces)

-- ---- directed edges, fans and nets, over keys of any kind

module _ {K : Type 0} where
  -- the directed edges round a list of keys: from each to the one after it, and from the last to the first
  abbrev pub edges_round : List K → List (K × K)
  edges_round keys = zip keys (drop 1 keys ++ take 1 keys)

  -- the triangles of a loop k0 to km: (k0, ki, ki+1) for i from 1 to m - 1
  abbrev pub fan_of : List K → List (List K)
  fan_of [] = []
  fan_of (key ∷ keys) = map (λ edge. key ∷ edge.0 ∷ edge.1 ∷ []) (zip keys (drop 1 keys))

  -- the triangles of all loops, loop by loop; a triangle is the list of its three keys
  abbrev pub fan : List (List K) → List (List K)
  fan loops = flat_map fan_of loops

  -- the directed edges of all the lists
  abbrev pub all_edges : List (List K) → List (K × K)
  all_edges lists = flat_map edges_round lists

  -- what directed edges weigh, where the edge from a to b weighs w a b; and what their reverses weigh
  abbrev pub weight : (K → K → ℕ) → List (K × K) → ℕ
  weight w [] = 0
  weight w (edge ∷ edges) = w edge.0 edge.1 + weight w edges

  abbrev pub weight_back : (K → K → ℕ) → List (K × K) → ℕ
  weight_back w [] = 0
  weight_back w (edge ∷ edges) = w edge.1 edge.0 + weight_back w edges

  -- each directed edge occurs in xs as often as in ys: they weigh the same, whatever a pair weighs
  abbrev pub AreAsOften : List (K × K) → List (K × K) → Type 0
  AreAsOften xs ys = (w : K → K → ℕ) → weight w xs ≡ weight w ys

  -- the directed edges of xs differ from their reverses by just as much as those of ys do, for each pair of keys: so do
  -- their weights, whatever a pair weighs. (Where a to b weighs 1 and all else 0 this is said of the one pair.)
  abbrev pub HaveSameNet : List (K × K) → List (K × K) → Type 0
  HaveSameNet xs ys =
      (w : K → K → ℕ) → weight w xs + weight_back w ys ≡ weight_back w xs + weight w ys

-- the directed edges that curves are
abbrev pub curve_edges : List Curve → List (ℕ × ℕ)
curve_edges cs = map (λ c. (c.start, c.end)) cs

-- ---- what loops are, apart from how they are found

-- the list has a key, and the first is below all others
abbrev pub BeginsWithLeast : List ℕ → Type 0
BeginsWithLeast [] = ⊥
BeginsWithLeast (key ∷ keys) = AllByRecursion (λ k. key < k) keys

-- the first keys of lists
abbrev pub first_keys : List (List ℕ) → List ℕ
first_keys lists = flat_map (λ keys. take 1 keys) lists

-- the lists are the orbits of "the end of the curve that starts here": the directed edges round them are the curves,
-- each as often; each begins with its least key; and they rise by it
pub record AreOrbits (cs : List Curve) (lists : List (List ℕ)) : Type 0 where
  pub round : AreAsOften (all_edges lists) (curve_edges cs)
  pub least : AllByRecursion BeginsWithLeast lists
  pub rising : IsStrictlyIncreasing (first_keys lists)
