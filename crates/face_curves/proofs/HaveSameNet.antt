-- The fan of loops has the net of the loops: its inner edges cancel.
--
-- For the clause `net` of `fan` and of `loops` (docs/rules.md, "What fits together"). For any weight, the triangles of
-- one more key change the sum by the edge along the loop and an edge to the first key each way (`fan_step`, by one line
-- of `omega`); fans of several loops add up. Lists with each edge as often have the same net (`HaveSameNet-as_often`).
-- Last, how many triangles a fan has at most.
use Rattle.std.proofs.Common.{◌≡◌, ℕ, ◌+◌, ◌-◌, ◌≤◌, List, [], ◌∷◌, ◌++◌, arith, map, drop, length, flat_map}
use Rattle.std.specs.List.{zip}
use Rattle.std.proofs.lemmas.List.{length-append, length-map, length-drop}
use Rattle.std.proofs.lemmas.Slice.Zip.{length-zip}
use Rattle.std.proofs.lemmas.List.Concat.{flat_map-append}
use Rattle.terrain.specs.Curves.{AreAsOften, HaveSameNet, all_edges, fan, fan_of, edges_round, weight, weight_back}

-- a weight of two lists is the sum of their weights
pub weight-append : {K : Type 0} (w : K → K → ℕ) (xs ys : List (K × K))
    → weight w (xs ++ ys) ≡ weight w xs + weight w ys
weight-append w [] ys = omega arith
weight-append w (x ∷ xs) ys = omega (arith, weight-append w xs ys)

-- the same of the reverses
weight_back-append : {K : Type 0} (w : K → K → ℕ) (xs ys : List (K × K))
    → weight_back w (xs ++ ys) ≡ weight_back w xs + weight_back w ys
weight_back-append w [] ys = omega arith
weight_back-append w (x ∷ xs) ys = omega (arith, weight_back-append w xs ys)

-- the triangles of key with each neighbouring two of `a ∷ rest`, against the way there, along, and back
fan_step : {K : Type 0} (w : K → K → ℕ) (key a : K) (rest : List K)
    → weight w (all_edges (map (λ edge. key ∷ edge.0 ∷ edge.1 ∷ []) (zip (a ∷ rest) rest))) +
    (w a key + weight_back w (zip (a ∷ rest) (rest ++ key ∷ [])))
    ≡ weight_back w (all_edges (map (λ edge. key ∷ edge.0 ∷ edge.1 ∷ []) (zip (a ∷ rest) rest))) +
    (w key a + weight w (zip (a ∷ rest) (rest ++ key ∷ [])))
fan_step w key a [] = omega arith
fan_step w key a (b ∷ rest) = omega (arith, fan_step w key b rest)

-- the fan of one loop has its net
fan_of-net : {K : Type 0} (w : K → K → ℕ) (keys : List K)
    → weight w (all_edges (fan_of keys)) + weight_back w (edges_round keys)
    ≡ weight_back w (all_edges (fan_of keys)) + weight w (edges_round keys)
fan_of-net w [] = omega arith
fan_of-net w (key ∷ []) = omega arith
fan_of-net w (key ∷ a ∷ rest) = fan_step w key a rest

-- the fans of lists have the net of the lists
pub fan-net : {K : Type 0} (ls : List (List K)) → HaveSameNet (all_edges (fan ls)) (all_edges ls)
fan-net [] w = omega arith
fan-net (keys ∷ ls) w = simp (
  flat_map-append,
  weight-append,
  weight_back-append,
) (omega (arith, fan_of-net w keys, fan-net ls w))

-- ---- what is as often weighs the same when it is turned round

-- what reverses weigh, as a weight
weight_back-turned : {K : Type 0} (w : K → K → ℕ) (xs : List (K × K))
    → weight_back w xs ≡ weight (λ a b. w b a) xs
weight_back-turned w [] = omega arith
weight_back-turned w (x ∷ xs) = omega (arith, weight_back-turned w xs)

-- a net stays the same where each edge is in a list as often
pub HaveSameNet-as_often : {K : Type 0} (xs ys zs : List (K × K)) → HaveSameNet xs ys
    → AreAsOften ys zs → HaveSameNet xs zs
HaveSameNet-as_often xs ys zs net same w =
    omega (
      arith,
      net w,
      same w,
      same (λ a b. w b a),
      weight_back-turned w ys,
      weight_back-turned w zs,
    )

-- ---- a fan has two triangles fewer than a loop has keys

-- a fan has at most two triangles fewer than keys
fan_of-count : {K : Type 0} (keys : List K) → length (fan_of keys) ≤ length keys - 2
fan_of-count [] = omega arith
fan_of-count (key ∷ keys) =
    omega (
      arith,
      length-map (zip keys (drop 1 keys)) (λ edge. key ∷ edge.0 ∷ edge.1 ∷ []),
      length-zip keys (drop 1 keys),
      length-drop 1 keys,
    )

-- the fans of lists have two triangles fewer than the lists have keys, or still fewer
pub fan-count : {K : Type 0} (ls : List (List K))
    → length (fan ls) ≤ length (flat_map (λ keys. keys) ls) - 2
fan-count [] = omega arith
fan-count (keys ∷ ls) = omega (
  arith,
  fan_of-count keys,
  fan-count ls,
  length-append (fan_of keys) (fan ls),
  length-append keys (flat_map (λ ks. ks) ls),
)
