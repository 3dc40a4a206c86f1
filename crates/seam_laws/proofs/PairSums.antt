-- Sums over the pairs of neighbours of a level: a pair that lies within one node of the level above says nothing, and
-- the others lie in fours between the pairs of that level.
--
-- For `below` of `FaceSums`, which needs `refine`. Along a row every other pair lies within one parent (`row-pairs`);
-- the rows themselves are taken in fours (`four-places`); and two nodes' tests are their parents' tests, so the four
-- pairs between two parents say what these two say of the sum of four numbers (`step-four`).
use Rattle.std.proofs.Common.{◌≡◌, ℕ, suc, ◌+◌, ◌*◌, ◌/◌, ◌<◌, ◌≤◌, Bool, true, false, ap, sym, ◌∙◌, arith}
use Rattle.std.specs.Prelude.{ℤ, pos, ◌+ℤ◌, ◌-ℤ◌}
use Rattle.std.proofs.lemmas.Int.{ints}
use Rattle.seam_laws.specs.Flows.{total, when}
use Rattle.seam_laws.proofs.NumberSums.{total-same, total-sum, total-first, total-pairs}

-- what a pair of neighbours says: the number between them for the one, less that for the other
abbrev pub step : Bool → Bool → ℤ → ℤ
step b b' x = when b x -ℤ when b' x

-- two nodes with the same test say nothing
step-none : (b : Bool) (x : ℤ) → step b b x ≡ pos 0
step-none b x = omega (arith, ints)

-- what a pair says of a sum of four numbers
step-four : (b b' : Bool) (x y z t : ℤ) → step b b' ((x +ℤ y) +ℤ (z +ℤ t))
    ≡ (step b b' x +ℤ step b b' y) +ℤ (step b b' z +ℤ step b b' t)
step-four true true x y z t = omega (arith, ints)
step-four true false x y z t = omega (arith, ints)
step-four false true x y z t = omega (arith, ints)
step-four false false x y z t = omega (arith, ints)

-- what a pair says depends on its tests and its number alone
step-same : (a a' b b' : Bool) (x y : ℤ) → a ≡ b → a' ≡ b' → x ≡ y → step a a' x ≡ step b b' y
step-same a a' b b' x y ea eb ex = λ t. step (ea t) (eb t) (ex t)

-- the sum over all pairs of neighbours across an axis, at c and at the next place
abbrev pub pairs : ℕ → ℕ → (ℕ → ℕ → ℕ → Bool) → (ℕ → ℕ → ℕ → ℤ) → ℤ
pairs n k test x =
    total n (λ v. total n (λ u. total k (λ c. step (test c u v) (test (suc c) u v)
    (x (suc c) u v))))

-- along a row only every other pair says something
row-pairs : (k : ℕ) (g : ℕ → ℤ) → ((c : ℕ) → c ≤ k → g (2 * c) ≡ pos 0)
    → total (suc (2 * k)) g ≡ total k (λ c. g (suc (2 * c)))
row-pairs k g none =
    let after : (c : ℕ) → c < k → g (suc (2 * c)) +ℤ g (suc (2 * c + 1)) ≡ g (suc (2 * c)) =
    λ c c_in. (let e : suc (2 * c + 1) ≡ 2 * suc c = omega arith in
    omega (arith, ints, ap g e, none (suc c) (omega arith))) in
    total-first (2 * k) g
    ∙ omega (
      arith,
      ints,
      none 0 (omega arith),
      total-pairs k (λ c. g (suc c)),
      total-same k (λ c. g (suc (2 * c)) +ℤ g (suc (2 * c + 1))) (λ c. g (suc (2 * c))) after,
    )

-- sums over four places at once
four-places : (n k : ℕ) (f : ℕ → ℕ → ℕ → ℤ)
    → total (2 * n) (λ v. total (2 * n) (λ u. total k (λ c. f c u v)))
    ≡ total n (λ v. total n (λ u. total k (λ c. (f c (2 * u) (2 * v) +ℤ f c (2 * u + 1) (2 * v)) +ℤ
    (f c (2 * u) (2 * v + 1) +ℤ f c (2 * u + 1) (2 * v + 1)))))
four-places n k f =
    let row : ℕ → ℕ → ℤ = λ u v. total k (λ c. f c u v) in
    let two : (v : ℕ) → total (2 * n) (λ u. row u v) ≡ total n
    (λ u. row (2 * u) v +ℤ row (2 * u + 1) v) = λ v. total-pairs n (λ u. row u v) in
    total-pairs n (λ v. total (2 * n) (λ u. row u v))
    ∙ total-same n (λ v. total (2 * n) (λ u. row u (2 * v)) +ℤ total (2 * n)
    (λ u. row u (2 * v + 1))) (λ v. total n
    (λ u. total k (λ c. (f c (2 * u) (2 * v) +ℤ f c (2 * u + 1) (2 * v)) +ℤ
    (f c (2 * u) (2 * v + 1) +ℤ f c (2 * u + 1) (2 * v + 1))))) (λ v v_in.
    let low : ℕ → ℤ = λ u. row (2 * u) (2 * v) +ℤ row (2 * u + 1) (2 * v) in
    let high : ℕ → ℤ = λ u. row (2 * u) (2 * v + 1) +ℤ row (2 * u + 1) (2 * v + 1) in
    (λ t. two (2 * v) t +ℤ two (2 * v + 1) t)
    ∙ sym (total-sum n low high)
    ∙ total-same n (λ u. low u +ℤ high u)
    (λ u. total k (λ c. (f c (2 * u) (2 * v) +ℤ f c (2 * u + 1) (2 * v)) +ℤ
    (f c (2 * u) (2 * v + 1) +ℤ f c (2 * u + 1) (2 * v + 1)))) (λ u u_in.
    let a : ℕ → ℤ = λ c. f c (2 * u) (2 * v) in
    let b : ℕ → ℤ = λ c. f c (2 * u + 1) (2 * v) in
    let d : ℕ → ℤ = λ c. f c (2 * u) (2 * v + 1) in
    let e : ℕ → ℤ = λ c. f c (2 * u + 1) (2 * v + 1) in
    (λ t. sym (total-sum k a b) t +ℤ sym (total-sum k d e) t)
    ∙ sym (total-sum k (λ c. a c +ℤ b c) (λ c. d c +ℤ e c))))

-- the pairs of a level are those of the level above: its tests are those of the nodes that hold them, and the number
-- between two of that level is the sum of the four between their children
pub refine : (n k : ℕ) (fine coarse : ℕ → ℕ → ℕ → Bool) (x y : ℕ → ℕ → ℕ → ℤ)
    → ((c u v : ℕ) → fine c u v ≡ coarse (c / 2) (u / 2) (v / 2))
    → ((c u v : ℕ) → y c u v ≡ (x (2 * c) (2 * u) (2 * v) +ℤ x (2 * c) (2 * u + 1) (2 * v)) +ℤ
    (x (2 * c) (2 * u) (2 * v + 1) +ℤ x (2 * c) (2 * u + 1) (2 * v + 1)))
    → pairs (2 * n) (suc (2 * k)) fine x ≡ pairs n k coarse y
refine n k fine coarse x y same parts =
    let g : ℕ → ℕ → ℕ → ℤ = λ c u v. step (fine c u v) (fine (suc c) u v) (x (suc c) u v) in
    let none : (c u v : ℕ) → g (2 * c) u v ≡ pos 0 =
    λ c u v.
    let at : fine (2 * c) u v ≡ fine (suc (2 * c)) u v =
    same (2 * c) u v ∙ (λ t. coarse (halves c t) (u / 2) (v / 2))
    ∙ sym (same (suc (2 * c)) u v) in
    (λ t. step (at t) (fine (suc (2 * c)) u v) (x (suc (2 * c)) u v))
    ∙ step-none (fine (suc (2 * c)) u v) (x (suc (2 * c)) u v) in
    let rows : pairs (2 * n) (suc (2 * k)) fine x ≡ total (2 * n)
    (λ v. total (2 * n) (λ u. total k (λ c. g (suc (2 * c)) u v))) =
    total-same (2 * n) (λ v. total (2 * n) (λ u. total (suc (2 * k)) (λ c. g c u v)))
    (λ v. total (2 * n) (λ u. total k (λ c. g (suc (2 * c)) u v))) (λ v v_in.
    total-same (2 * n) (λ u. total (suc (2 * k)) (λ c. g c u v))
    (λ u. total k (λ c. g (suc (2 * c)) u v)) (λ u u_in.
    row-pairs k (λ c. g c u v) (λ c c_in. none c u v))) in
    let at : (c u v d e : ℕ) → d / 2 ≡ u → e / 2 ≡ v
    → g (suc (2 * c)) d e ≡ step (coarse c u v) (coarse (suc c) u v) (x (2 * suc c) d e) =
    λ c u v d e' ed ee.
    step-same (fine (suc (2 * c)) d e') (fine (suc (suc (2 * c))) d e') (coarse c u v)
    (coarse (suc c) u v) (x (suc (suc (2 * c))) d e') (x (2 * suc c) d e')
    (same (suc (2 * c)) d e' ∙ (λ t. coarse (half_odd c t) (ed t) (ee t)))
    (same (suc (suc (2 * c))) d e' ∙ (λ t. coarse (half_next c t) (ed t) (ee t)))
    (λ t. x (twice_next c t) d e') in
    rows
    ∙ four-places n k (λ c u v. g (suc (2 * c)) u v)
    ∙ total-same n (λ v. total n (λ u. total k
    (λ c. (g (suc (2 * c)) (2 * u) (2 * v) +ℤ g (suc (2 * c)) (2 * u + 1) (2 * v)) +ℤ
    (g (suc (2 * c)) (2 * u) (2 * v + 1) +ℤ g (suc (2 * c)) (2 * u + 1) (2 * v + 1)))))
    (λ v. total n (λ u. total k (λ c. step (coarse c u v) (coarse (suc c) u v)
    (y (suc c) u v)))) (λ v v_in.
    total-same n (λ u. total k (λ c. (g (suc (2 * c)) (2 * u) (2 * v) +ℤ g (suc (2 * c)) (2 * u + 1)
    (2 * v)) +ℤ (g (suc (2 * c)) (2 * u) (2 * v + 1) +ℤ g (suc (2 * c)) (2 * u + 1)
    (2 * v + 1)))) (λ u. total k (λ c. step (coarse c u v) (coarse (suc c) u v)
    (y (suc c) u v))) (λ u u_in.
    total-same k (λ c. (g (suc (2 * c)) (2 * u) (2 * v) +ℤ g (suc (2 * c)) (2 * u + 1) (2 * v)) +ℤ
    (g (suc (2 * c)) (2 * u) (2 * v + 1) +ℤ g (suc (2 * c)) (2 * u + 1) (2 * v + 1)))
    (λ c. step (coarse c u v) (coarse (suc c) u v) (y (suc c) u v)) (λ c c_in.
    omega (
      arith,
      ints,
      at c u v (2 * u) (2 * v) (omega arith) (omega arith),
      at c u v (2 * u + 1) (2 * v) (omega arith) (omega arith),
      at c u v (2 * u) (2 * v + 1) (omega arith) (omega arith),
      at c u v (2 * u + 1) (2 * v + 1) (omega arith) (omega arith),
      step-four (coarse c u v) (coarse (suc c) u v) (x (2 * suc c) (2 * u) (2 * v))
          (x (2 * suc c) (2 * u + 1) (2 * v)) (x (2 * suc c) (2 * u) (2 * v + 1))
          (x (2 * suc c) (2 * u + 1) (2 * v + 1)),
      ap (step (coarse c u v) (coarse (suc c) u v)) (parts (suc c) u v),
    ))))
  where
    halves : (c : ℕ) → (2 * c) / 2 ≡ suc (2 * c) / 2
    halves c = omega arith

    half_odd : (c : ℕ) → suc (2 * c) / 2 ≡ c
    half_odd c = omega arith

    half_next : (c : ℕ) → suc (suc (2 * c)) / 2 ≡ suc c
    half_next c = omega arith

    twice_next : (c : ℕ) → suc (suc (2 * c)) ≡ 2 * suc c
    twice_next c = omega arith
