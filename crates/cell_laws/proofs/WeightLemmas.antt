-- What lists of directed edges weigh, and what their reverses do.
--
-- Offered to the proofs of the crates above, which import them: `weight-append`, `weight_back-append`, `weight-flipped`
-- and `weight_back-flipped`.
use Rattle.std.proofs.Common.{◌≡◌, ℕ, ◌+◌, List, [], ◌∷◌, ◌++◌, refl, sym, ap, arith}
use Rattle.terrain.specs.Curves.{weight, weight_back}

-- what two lists of edges weigh, one after the other
pub weight-append : {K : Type 0} (w : K → K → ℕ) (xs ys : List (K × K))
    → weight w (xs ++ ys) ≡ weight w xs + weight w ys
weight-append w [] ys = omega arith
weight-append w (x ∷ xs) ys = omega (arith, weight-append w xs ys)

-- the same of the reverses
pub weight_back-append : {K : Type 0} (w : K → K → ℕ) (xs ys : List (K × K))
    → weight_back w (xs ++ ys) ≡ weight_back w xs + weight_back w ys
weight_back-append w [] ys = omega arith
weight_back-append w (x ∷ xs) ys = omega (arith, weight_back-append w xs ys)

-- the turned weight of edges is what their reverses weigh
pub weight-flipped : {K : Type 0} (w : K → K → ℕ) (edges : List (K × K))
    → weight (λ a b. w b a) edges ≡ weight_back w edges
weight-flipped w [] = refl
weight-flipped w (edge ∷ edges) = ap (λ n. w edge.1 edge.0 + n) (weight-flipped w edges)

-- the turned weight of reverses is what the edges weigh
pub weight_back-flipped : {K : Type 0} (w : K → K → ℕ) (edges : List (K × K))
    → weight_back (λ a b. w b a) edges ≡ weight w edges
weight_back-flipped w edges = sym (weight-flipped (λ a b. w b a) edges)
