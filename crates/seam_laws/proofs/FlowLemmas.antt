-- Flows of lists put together, of lists with the same net, and of lists turned round.
--
-- A flow is a difference of two weights, so flows add up as weights do; that two lists have the same net is that they
-- have the same flow for every weight (`flow-same`, `same-from_flow`), by which the theorem is proved one weight at a
-- time; and a list that is another turned round has its negative flow (`flow-turned`), since that list weighs what the
-- other one does under the turned weight.
use Rattle.std.proofs.Common.{◌≡◌, ℕ, zero, suc, ◌+◌, Bool, true, false, List, [], ◌∷◌, ◌++◌, map, refl, ap, sym, ◌∙◌, arith}
use Rattle.std.specs.Prelude.{ℤ, pos, ◌+ℤ◌, ◌-ℤ◌, neg_ℤ}
use Rattle.std.specs.List.{flat_map, filter}
use Rattle.std.proofs.lemmas.Int.{ints}
use Rattle.lattice.specs.declared.key.Key.{Key}
use Rattle.lattice.specs.Lists.{joined}
use Rattle.terrain.specs.Curves.{weight, weight_back, HaveSameNet, edges_round, all_edges}
use Rattle.cell_laws.proofs.WeightLemmas.{weight-append, weight-flipped, weight_back-append, weight_back-flipped}
use Rattle.cell_laws.specs.Squares.{AreInTurn}
use Rattle.seam_laws.specs.Flows.{flow, total, when, turned}
use Rattle.seam_laws.specs.Seams.{int_sum}

module _ (w : Key → Key → ℕ) where
  -- a difference of sums is a sum of differences
  sum-apart : (a b c d : ℕ) → pos (a + b) -ℤ pos (c + d) ≡ (pos a -ℤ pos c) +ℤ (pos b -ℤ pos d)
  sum-apart a b c d = omega (arith, ints)

  -- no edges have no flow
  pub flow-none : flow w [] ≡ pos 0
  unfolding flow
  flow-none = refl

  -- the flow of two lists of edges, one after the other
  pub flow-append : (xs ys : List (Key × Key)) → flow w (xs ++ ys) ≡ flow w xs +ℤ flow w ys
  unfolding flow
  flow-append xs ys =
      (λ t. pos (weight-append w xs ys t) -ℤ pos (weight_back-append w xs ys t))
      ∙ sum-apart (weight w xs) (weight w ys) (weight_back w xs) (weight_back w ys)

  -- of so many lists
  pub flow-joined : (n : ℕ) (f : ℕ → List (Key × Key))
      → flow w (joined n f) ≡ total n (λ i. flow w (f i))
  unfolding joined total
  flow-joined zero f = flow-none
  flow-joined (suc n) f = flow-append (joined n f) (f n)
      ∙ ap (λ x. x +ℤ flow w (f n)) (flow-joined n f)

  -- of a list for each item
  pub flow-flat_map : {A : Type 0} (f : A → List (Key × Key)) (xs : List A)
      → flow w (flat_map f xs) ≡ int_sum (map (λ x. flow w (f x)) xs)
  flow-flat_map f [] = flow-none
  flow-flat_map f (x ∷ xs) = flow-append (f x) (flat_map f xs)
      ∙ ap (λ y. flow w (f x) +ℤ y) (flow-flat_map f xs)

  -- of those items alone that pass a test
  flow-step : {A : Type 0} (f : A → List (Key × Key)) (test : A → Bool) (b : Bool) (x : A)
      (xs : List A) (rest : ℤ) → test x ≡ b → flow w (flat_map f (filter test xs)) ≡ rest
      → flow w (flat_map f (filter test (x ∷ xs))) ≡ when (test x) (flow w (f x)) +ℤ rest
  flow-step f test true x xs rest e more = rw e (flow-append (f x) (flat_map f (filter test xs))
      ∙ ap (λ y. flow w (f x) +ℤ y) more)
  flow-step f test false x xs rest e more = rw e (more ∙ nothing rest)
    where
      nothing : (x : ℤ) → x ≡ pos 0 +ℤ x
      nothing x = omega (arith, ints)

  -- of a list for each item that passes a test
  pub flow-filter : {A : Type 0} (f : A → List (Key × Key)) (test : A → Bool) (xs : List A)
      → flow w (flat_map f (filter test xs)) ≡ int_sum (map (λ x. when (test x) (flow w (f x))) xs)
  flow-filter f test [] = flow-none
  flow-filter f test (x ∷ xs) = flow-step f test (test x) x xs
      (int_sum (map (λ y. when (test y) (flow w (f y))) xs)) refl (flow-filter f test xs)

  -- ---- the edges of triangles

  -- the flow of the edges of two lists of triangles, one after the other
  pub flow-edges : (xs ys : List (List Key))
      → flow w (all_edges (xs ++ ys)) ≡ flow w (all_edges xs) +ℤ flow w (all_edges ys)
  flow-edges [] ys = omega (arith, ints, flow-none)
  flow-edges (x ∷ xs) ys =
      flow-append (edges_round x) (all_edges (xs ++ ys))
      ∙ omega (arith, ints, flow-edges xs ys, flow-append (edges_round x) (all_edges xs))

  -- of so many lists of triangles
  pub edges-joined : (n : ℕ) (f : ℕ → List (List Key))
      → flow w (all_edges (joined n f)) ≡ total n (λ i. flow w (all_edges (f i)))
  unfolding joined total
  edges-joined zero f = flow-none
  edges-joined (suc n) f = flow-edges (joined n f) (f n)
      ∙ ap (λ x. x +ℤ flow w (all_edges (f n))) (edges-joined n f)

-- ---- lists that have the same net, and lists turned round

-- a net as an equation of sums gives one of differences
same-difference : (a b c d : ℕ) → a + d ≡ b + c → pos a -ℤ pos b ≡ pos c -ℤ pos d
same-difference a b c d e = omega (arith, ints)

-- lists with the same net have the same flow, whatever a pair weighs
pub flow-same : (w : Key → Key → ℕ) (xs ys : List (Key × Key)) → HaveSameNet xs ys
    → flow w xs ≡ flow w ys
unfolding flow
flow-same w xs ys same = same-difference (weight w xs) (weight_back w xs) (weight w ys)
    (weight_back w ys) (same w)

-- and back
from-difference : (a b c d : ℕ) → pos a -ℤ pos b ≡ pos c -ℤ pos d → a + d ≡ b + c
from-difference a b c d e = omega (arith, ints)

-- and lists with the same flows have the same net
pub same-from_flow : (xs ys : List (Key × Key)) → ((w : Key → Key → ℕ) → flow w xs ≡ flow w ys)
    → HaveSameNet xs ys
unfolding flow
same-from_flow xs ys same w = from-difference (weight w xs) (weight_back w xs) (weight w ys)
    (weight_back w ys) (same w)

-- differences that are turned round are negatives
negative : (a b c d : ℕ) → a ≡ d → b ≡ c → pos a -ℤ pos b ≡ neg_ℤ (pos c -ℤ pos d)
negative a b c d e f = omega (arith, ints)

-- the flow of lists that are one another as they are, or turned round
pub flow-turned : (w : Key → Key → ℕ) (straight : Bool) (xs ys : List (Key × Key))
    → AreInTurn straight xs ys → flow w xs ≡ turned straight (flow w ys)
unfolding flow
flow-turned w true xs ys same =
    λ t. pos (same w t) -ℤ pos ((sym (weight-flipped w xs) ∙ same (λ a b. w b a)
    ∙ weight-flipped w ys) t)
flow-turned w false xs ys same =
    negative (weight w xs) (weight_back w xs) (weight w ys) (weight_back w ys) (same w)
    (sym (weight-flipped w xs) ∙ same (λ a b. w b a) ∙ weight_back-flipped w ys)
