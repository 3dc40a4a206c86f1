-- Heights that marks on a line cover at a place: what three marks cover, two of them cover at least as high.
--
-- Weights of two and of three marks are taken out of their lists, and put back (`of_two`, `from_two`, `of_three`,
-- `from_three`). The marks of three lie on both sides of the place, one of them against the two others; `against` is
-- about such three by their distances from it. By the weights that make the place the mean, the height is the mean of
-- two heights, each of which the one mark covers with one of the others, so one of these is at least as high (`mixed`);
-- where the one is at the place itself, so are all that count. So two of the three are above (`two_above`).
use Rattle.std.proofs.Common.{◌≡◌, ℕ, zero, suc, ◌+◌, ◌-◌, ◌*◌, ◌<◌, ◌≤◌, ◌⊎◌, inl, inr, List, [], ◌∷◌, length, refl, sym, ap, ◌∙◌, subst, arith}
use Rattle.std.proofs.lemmas.Bool.{cases_lt}
use Rattle.std.proofs.Math.Nat.{le_of_mul-le-mul_left, mul-le-mul_left, mul-lt-mul_of_pos_left}
use Rattle.frame_surface.specs.Heights.{weight_sum, weighed}
use Rattle.frame_surface.specs.Lines.{CoversOnLine}
use Rattle.frame_surface.specs.declared.line.Mark.{Mark}

-- ---- weights in lists

-- two marks cover a height by these weights
pub record OfTwo (a b : Mark) (at n d : ℕ) : Type 0 where
  pub u : ℕ
  pub v : ℕ
  pub some : 1 ≤ d
  pub sum : u + v ≡ d
  pub at_is : u * a.at + v * b.at ≡ at * d
  pub z_is : u * a.z + v * b.z ≡ n

-- three do
pub record OfThree (a b c : Mark) (at n d : ℕ) : Type 0 where
  pub u : ℕ
  pub v : ℕ
  pub w : ℕ
  pub some : 1 ≤ d
  pub sum : u + v + w ≡ d
  pub at_is : u * a.at + v * b.at + w * c.at ≡ at * d
  pub z_is : u * a.z + v * b.z + w * c.z ≡ n

-- the weights of two marks out of their list
pub of_two : (a b : Mark) (at n d : ℕ) → CoversOnLine (a ∷ b ∷ []) at n d → OfTwo a b at n d
of_two a b at n d c = go c.weights c.each c.some c.sum_is c.at_is c.z_is
  where
    go : (ws : List ℕ) → length ws ≡ 2 → 1 ≤ d → weight_sum ws ≡ d
        → weighed ws (a.at ∷ b.at ∷ []) ≡ at * d → weighed ws (a.z ∷ b.z ∷ []) ≡ n
        → OfTwo a b at n d
    go [] each some sum place z = absurd (omega arith)
    go (u ∷ []) each some sum place z = absurd (omega arith)
    go (u ∷ v ∷ []) each some sum place z = record {
      u = u;
      v = v;
      some = some;
      sum = omega arith;
      at_is = omega arith;
      z_is = omega arith;
    }
    go (u ∷ v ∷ w ∷ ws) each some sum place z = absurd (omega arith)

-- and back
pub from_two : (a b : Mark) (at n d : ℕ) → OfTwo a b at n d → CoversOnLine (a ∷ b ∷ []) at n d
from_two a b at n d h = record {
  weights = h.u ∷ h.v ∷ [];
  each = refl;
  some = h.some;
  sum_is = omega (arith, h.sum);
  at_is = omega (arith, h.at_is);
  z_is = omega (arith, h.z_is);
}

-- those of three marks
pub of_three : (a b c : Mark) (at n d : ℕ) → CoversOnLine (a ∷ b ∷ c ∷ []) at n d
    → OfThree a b c at n d
of_three a b c at n d h = go h.weights h.each h.some h.sum_is h.at_is h.z_is
  where
    go : (ws : List ℕ) → length ws ≡ 3 → 1 ≤ d → weight_sum ws ≡ d
        → weighed ws (a.at ∷ b.at ∷ c.at ∷ []) ≡ at * d
        → weighed ws (a.z ∷ b.z ∷ c.z ∷ []) ≡ n → OfThree a b c at n d
    go [] each some sum place z = absurd (omega arith)
    go (u ∷ []) each some sum place z = absurd (omega arith)
    go (u ∷ v ∷ []) each some sum place z = absurd (omega arith)
    go (u ∷ v ∷ w ∷ []) each some sum place z = record {
      u = u;
      v = v;
      w = w;
      some = some;
      sum = omega arith;
      at_is = omega arith;
      z_is = omega arith;
    }
    go (u ∷ v ∷ w ∷ t ∷ ws) each some sum place z = absurd (omega arith)

-- and back
pub from_three : (a b c : Mark) (at n d : ℕ) → OfThree a b c at n d
    → CoversOnLine (a ∷ b ∷ c ∷ []) at n d
from_three a b c at n d h = record {
  weights = h.u ∷ h.v ∷ h.w ∷ [];
  each = refl;
  some = h.some;
  sum_is = omega (arith, h.sum);
  at_is = omega (arith, h.at_is);
  z_is = omega (arith, h.z_is);
}

-- the same two marks the other way round
pub turned : (a b : Mark) (at n d : ℕ) → OfTwo a b at n d → OfTwo b a at n d
turned a b at n d h = record {
  u = h.v;
  v = h.u;
  some = h.some;
  sum = omega (arith, h.sum);
  at_is = omega (arith, h.at_is);
  z_is = omega (arith, h.z_is);
}

-- ---- one mark against two others, by distances

-- weights of two marks on both sides of a place, at these distances from it, by which they cover a height that is at
-- least n / d
record IsAbove (a b p q n d : ℕ) : Type 0 where
  u : ℕ
  v : ℕ
  some : 1 ≤ u + v
  level : u * a ≡ v * b
  above : n * (u + v) ≤ (u * p + v * q) * d

-- a mean of two heights is at most the greater of them
mixed : (a n d i j n1 d1 n2 d2 : ℕ) → 0 < a → a * n ≡ i * n1 + j * n2 → a * d ≡ i * d1 + j * d2
    → n2 * d1 ≤ n1 * d2 → n * d1 ≤ n1 * d
mixed a n d i j n1 d1 n2 d2 some num den more =
    let most : j * (n2 * d1) ≤ j * (n1 * d2) = mul-le-mul_left j more in
    let scaled : a * (n * d1) ≤ a * (n1 * d) =
    omega (arith, most, ap (λ t. t * d1) num, ap (λ t. n1 * t) den) in
    le_of_mul-le-mul_left scaled some

-- a product that is nothing has a factor that is nothing
nothing : (c b : ℕ) → 0 < c → c * b ≡ 0 → b ≡ 0
nothing c zero some none = refl
nothing c (suc b) some none = absurd (omega (arith, mul-le-mul_left c (suc-some b)))
  where
    suc-some : (b : ℕ) → 1 ≤ suc b
    suc-some b = omega arith

-- the first of two marks is at the place, and high enough
by_first : (b p q n d : ℕ) → n ≤ p * d → IsAbove 0 b p q n d
by_first b p q n d high = record {
  u = 1;
  v = 0;
  some = omega arith;
  level = omega arith;
  above = omega (arith, high);
}

-- the second is
by_second : (b p q n d : ℕ) → b ≡ 0 → n ≤ q * d → IsAbove 0 b p q n d
by_second b p q n d here high = record {
  u = 0;
  v = 1;
  some = omega arith;
  level = omega (arith, here);
  above = omega (arith, high);
}

-- what doesn't count is as high as anything
few : (c q m : ℕ) → c ≤ 0 → c * q ≤ c * m
few zero q m none = omega arith
few (suc c) q m none = absurd (omega arith)

-- a mean of three heights is at most a height that is at least each of them
most : (ck ci cj p q r m : ℕ) → ck * p ≤ ck * m → ci * q ≤ ci * m → cj * r ≤ cj * m
    → ck * p + ci * q + cj * r ≤ m * (ck + ci + cj)
most ck ci cj p q r m hk hi hj = omega (arith, hk, hi, hj)

-- a factor of a sum that is nothing
part : (x y : ℕ) → 0 ≡ x + y → (x ≡ 0) × (y ≡ 0)
part x y none = (omega (arith, none), omega (arith, none))

-- one mark at the place itself, where two others that count are there too
level_three : (b b' ck ci cj p q r : ℕ) → 0 ≡ ci * b + cj * b' → 1 ≤ ck + ci + cj
    → IsAbove 0 b p q (ck * p + ci * q + cj * r) (ck + ci + cj)
    ⊎ IsAbove 0 b' p r (ck * p + ci * q + cj * r) (ck + ci + cj)
level_three b b' ck ci cj p q r level some =
    let n : ℕ = ck * p + ci * q + cj * r in
    let d : ℕ = ck + ci + cj in
    let none = part (ci * b) (cj * b') level in
    let same : (c m : ℕ) → c * m ≤ c * m = λ c m. omega arith in
    elim (cases_lt 0 ci) [
      | inl i ↦
          let at_i : b ≡ 0 = nothing ci b i none.0 in
          elim (cases_lt 0 cj) [
            | inl j ↦
                let at_j : b' ≡ 0 = nothing cj b' j none.1 in
                elim (cases_lt p q) [
                  | inl pq ↦
                      elim (cases_lt q r) [
                        | inl qr ↦
                            inr (by_second b' p r n d at_j (most ck ci cj p q r r
                            (mul-le-mul_left ck (omega arith)) (mul-le-mul_left ci (omega arith))
                            (same cj r)))
                        | inr rq ↦
                            inl (by_second b p q n d at_i (most ck ci cj p q r q
                            (mul-le-mul_left ck (omega arith)) (same ci q)
                            (mul-le-mul_left cj rq)))
                      ]
                  | inr qp ↦
                      elim (cases_lt p r) [
                        | inl pr ↦
                            inr (by_second b' p r n d at_j (most ck ci cj p q r r
                            (mul-le-mul_left ck (omega arith)) (mul-le-mul_left ci (omega arith))
                            (same cj r)))
                        | inr rp ↦
                            inl (by_first b p q n d (most ck ci cj p q r p (same ck p)
                            (mul-le-mul_left ci qp) (mul-le-mul_left cj rp)))
                      ]
                ]
            | inr no_j ↦
                elim (cases_lt p q) [
                  | inl pq ↦
                      inl (by_second b p q n d at_i (most ck ci cj p q r q
                      (mul-le-mul_left ck (omega arith)) (same ci q) (few cj r q no_j)))
                  | inr qp ↦
                      inl (by_first b p q n d (most ck ci cj p q r p (same ck p)
                      (mul-le-mul_left ci qp) (few cj r p no_j)))
                ]
          ]
      | inr no_i ↦
          elim (cases_lt 0 cj) [
            | inl j ↦
                let at_j : b' ≡ 0 = nothing cj b' j none.1 in
                elim (cases_lt p r) [
                  | inl pr ↦
                      inr (by_second b' p r n d at_j (most ck ci cj p q r r
                      (mul-le-mul_left ck (omega arith)) (few ci q r no_i) (same cj r)))
                  | inr rp ↦
                      inr (by_first b' p r n d (most ck ci cj p q r p (same ck p)
                      (few ci q p no_i) (mul-le-mul_left cj rp)))
                ]
            | inr no_j ↦
                inl (by_first b p q n d (most ck ci cj p q r p (same ck p) (few ci q p no_i)
                (few cj r p no_j)))
          ]
    ]

-- the height that three marks cover, one of them on one side of the place and two on the other, at these distances
against : (a b b' ck ci cj p q r : ℕ) → ck * a ≡ ci * b + cj * b' → 1 ≤ ck + ci + cj
    → IsAbove a b p q (ck * p + ci * q + cj * r) (ck + ci + cj)
    ⊎ IsAbove a b' p r (ck * p + ci * q + cj * r) (ck + ci + cj)
against zero b b' ck ci cj p q r level some =
    level_three b b' ck ci cj p q r (omega (arith, level)) some
against (suc a') b b' ck ci cj p q r level some =
    let a : ℕ = suc a' in
    let n : ℕ = ck * p + ci * q + cj * r in
    let d : ℕ = ck + ci + cj in
    let num : a * n ≡ ci * (b * p + a * q) + cj * (b' * p + a * r) =
    omega (arith, ap (λ t. t * p) level) in
    let den : a * d ≡ ci * (b + a) + cj * (b' + a) = omega (arith, level) in
    elim (cases_lt ((b * p + a * q) * (b' + a)) ((b' * p + a * r) * (b + a))) [
      | inl less ↦
          inr (record {
            u = b';
            v = a;
            some = omega arith;
            level = omega arith;
            above =
                mixed a n d cj ci (b' * p + a * r) (b' + a) (b * p + a * q) (b + a) (omega arith)
                (omega (arith, num)) (omega (arith, den)) (omega (arith, less));
          })
      | inr more ↦
          inl (record {
            u = b;
            v = a;
            some = omega arith;
            level = omega arith;
            above =
                mixed a n d ci cj (b * p + a * q) (b + a) (b' * p + a * r) (b' + a) (omega arith)
                num den more;
          })
    ]

-- ---- three marks round a place

-- two marks cover a height that is at least n / d
pub record PairAbove (a b : Mark) (at n d : ℕ) : Type 0 where
  pub n' : ℕ
  pub d' : ℕ
  pub covers : CoversOnLine (a ∷ b ∷ []) at n' d'
  pub above : n * d' ≤ n' * d

-- two of three do
abbrev pub TwoAbove : Mark → Mark → Mark → ℕ → ℕ → ℕ → Type 0
TwoAbove a b c at n d = PairAbove a b at n d ⊎ (PairAbove b c at n d ⊎ PairAbove c a at n d)

-- the same pair the other way round
pair_turned : (a b : Mark) (at n d : ℕ) → PairAbove a b at n d → PairAbove b a at n d
pair_turned a b at n d h = record {
  n' = h.n';
  d' = h.d';
  covers = from_two b a at h.n' h.d' (turned a b at h.n' h.d' (of_two a b at h.n' h.d' h.covers));
  above = h.above;
}

-- a pair on both sides of the place, by distances: the first behind it
pair_behind : (a b : Mark) (at p q n d : ℕ) → a.at + p ≡ at → b.at ≡ at + q
    → IsAbove p q a.z b.z n d → PairAbove a b at n d
pair_behind a b at p q n d behind before h = record {
  n' = h.u * a.z + h.v * b.z;
  d' = h.u + h.v;
  covers = from_two a b at (h.u * a.z + h.v * b.z) (h.u + h.v) (record {
    u = h.u;
    v = h.v;
    some = h.some;
    sum = refl;
    at_is = omega (arith, h.level, ap (λ t. h.u * t) behind, ap (λ t. h.v * t) before);
    z_is = refl;
  });
  above = h.above;
}

-- the first before it
pair_before : (a b : Mark) (at p q n d : ℕ) → a.at ≡ at + p → b.at + q ≡ at
    → IsAbove p q a.z b.z n d → PairAbove a b at n d
pair_before a b at p q n d before behind h = record {
  n' = h.u * a.z + h.v * b.z;
  d' = h.u + h.v;
  covers = from_two a b at (h.u * a.z + h.v * b.z) (h.u + h.v) (record {
    u = h.u;
    v = h.v;
    some = h.some;
    sum = refl;
    at_is = omega (arith, h.level, ap (λ t. h.u * t) before, ap (λ t. h.v * t) behind);
    z_is = refl;
  });
  above = h.above;
}

module _ (k i j : Mark) (at u v w : ℕ) (some : 1 ≤ u + v + w)
    (mean : u * k.at + v * i.at + w * j.at ≡ at * (u + v + w)) where
  -- one mark behind the place, two before it
  one_behind : k.at ≤ at → at ≤ i.at → at ≤ j.at
      → PairAbove k i at (u * k.z + v * i.z + w * j.z) (u + v + w)
      ⊎ PairAbove k j at (u * k.z + v * i.z + w * j.z) (u + v + w)
  one_behind hk hi hj =
      let n : ℕ = u * k.z + v * i.z + w * j.z in
      let d : ℕ = u + v + w in
      let ek : k.at + (at - k.at) ≡ at = omega arith in
      let ei : i.at ≡ at + (i.at - at) = omega arith in
      let ej : j.at ≡ at + (j.at - at) = omega arith in
      let level : u * (at - k.at) ≡ v * (i.at - at) + w * (j.at - at) =
      omega (arith, mean, ap (λ t. u * t) ek, ap (λ t. v * t) ei, ap (λ t. w * t) ej) in
      elim (against (at - k.at) (i.at - at) (j.at - at) u v w k.z i.z j.z level some) [
        | inl h ↦ inl (pair_behind k i at (at - k.at) (i.at - at) n d ek ei h)
        | inr h ↦ inr (pair_behind k j at (at - k.at) (j.at - at) n d ek ej h)
      ]

  -- one before it, two behind
  one_before : at ≤ k.at → i.at ≤ at → j.at ≤ at
      → PairAbove k i at (u * k.z + v * i.z + w * j.z) (u + v + w)
      ⊎ PairAbove k j at (u * k.z + v * i.z + w * j.z) (u + v + w)
  one_before hk hi hj =
      let n : ℕ = u * k.z + v * i.z + w * j.z in
      let d : ℕ = u + v + w in
      let ek : k.at ≡ at + (k.at - at) = omega arith in
      let ei : i.at + (at - i.at) ≡ at = omega arith in
      let ej : j.at + (at - j.at) ≡ at = omega arith in
      let level : u * (k.at - at) ≡ v * (at - i.at) + w * (at - j.at) =
      omega (arith, mean, ap (λ t. u * t) ek, ap (λ t. v * t) ei, ap (λ t. w * t) ej) in
      elim (against (k.at - at) (at - i.at) (at - j.at) u v w k.z i.z j.z level some) [
        | inl h ↦ inl (pair_before k i at (k.at - at) (at - i.at) n d ek ei h)
        | inr h ↦ inr (pair_before k j at (k.at - at) (at - j.at) n d ek ej h)
      ]

  -- where all are before it, one that counts is at it
  all_before : at ≤ k.at → at ≤ i.at → at ≤ j.at → 1 ≤ u → k.at ≤ at
  all_before hk hi hj count = elim (cases_lt at k.at) [
    | inl less ↦
        let first : u * at < u * k.at = mul-lt-mul_of_pos_left less count in
        absurd (omega (arith, mean, first, mul-le-mul_left v hi, mul-le-mul_left w hj))
    | inr not_less ↦ not_less
  ]

  -- and not all are behind it
  all_behind : k.at < at → i.at < at → j.at < at → ⊥
  all_behind hk hi hj =
      let first : u * k.at + u ≤ u * at = omega (arith, mul-le-mul_left u (below k.at at hk)) in
      let second : v * i.at + v ≤ v * at = omega (arith, mul-le-mul_left v (below i.at at hi)) in
      let third : w * j.at + w ≤ w * at = omega (arith, mul-le-mul_left w (below j.at at hj)) in
      omega (arith, mean, first, second, third, some)
    where
      below : (m n : ℕ) → m < n → m + 1 ≤ n
      below m n h = omega arith

-- a height with its terms in another order
pair_same : (a b : Mark) (at n d n2 d2 : ℕ) → n ≡ n2 → d ≡ d2 → PairAbove a b at n d
    → PairAbove a b at n2 d2
pair_same a b at n d n2 d2 num den h =
    subst (λ m. PairAbove a b at m d2) num (subst (λ m. PairAbove a b at n m) den h)

-- of three marks that cover a height, two cover one that is at least as high
pub two_above : (a b c : Mark) (at n d : ℕ) → CoversOnLine (a ∷ b ∷ c ∷ []) at n d
    → TwoAbove a b c at n d
two_above a b c at n d h =
    let three = of_three a b c at n d h in
    go three.u three.v three.w (omega (arith, three.some, three.sum)) three.sum
    (three.at_is ∙ ap (λ t. at * t) (sym three.sum)) three.z_is
  where
    go : (u v w : ℕ) → 1 ≤ u + v + w → u + v + w ≡ d
        → u * a.at + v * b.at + w * c.at ≡ at * (u + v + w)
        → u * a.z + v * b.z + w * c.z ≡ n → TwoAbove a b c at n d
    go u v w some sum mean num =
        let of_a : PairAbove a b at (u * a.z + v * b.z + w * c.z) (u + v + w)
        ⊎ PairAbove a c at (u * a.z + v * b.z + w * c.z) (u + v + w) → TwoAbove a b c at n d =
        λ pair. elim pair [
          | inl p ↦ inl (pair_same a b at _ _ n d num sum p)
          | inr p ↦ inr (inr (pair_turned a c at n d (pair_same a c at _ _ n d num sum p)))
        ] in
        let b_num : v * b.z + u * a.z + w * c.z ≡ n = omega (arith, num) in
        let b_sum : v + u + w ≡ d = omega (arith, sum) in
        let b_some : 1 ≤ v + u + w = omega arith in
        let b_mean : v * b.at + u * a.at + w * c.at ≡ at * (v + u + w) = omega (arith, mean) in
        let of_b : PairAbove b a at (v * b.z + u * a.z + w * c.z) (v + u + w)
        ⊎ PairAbove b c at (v * b.z + u * a.z + w * c.z) (v + u + w) → TwoAbove a b c at n d =
        λ pair. elim pair [
          | inl p ↦ inl (pair_turned b a at n d (pair_same b a at _ _ n d b_num b_sum p))
          | inr p ↦ inr (inl (pair_same b c at _ _ n d b_num b_sum p))
        ] in
        let c_num : w * c.z + u * a.z + v * b.z ≡ n = omega (arith, num) in
        let c_sum : w + u + v ≡ d = omega (arith, sum) in
        let c_some : 1 ≤ w + u + v = omega arith in
        let c_mean : w * c.at + u * a.at + v * b.at ≡ at * (w + u + v) = omega (arith, mean) in
        let of_c : PairAbove c a at (w * c.z + u * a.z + v * b.z) (w + u + v)
        ⊎ PairAbove c b at (w * c.z + u * a.z + v * b.z) (w + u + v) → TwoAbove a b c at n d =
        λ pair. elim pair [
          | inl p ↦ inr (inr (pair_same c a at _ _ n d c_num c_sum p))
          | inr p ↦ inr (inl (pair_turned c b at n d (pair_same c b at _ _ n d c_num c_sum p)))
        ] in
        elim (cases_lt a.at at) [
          | inl a_behind ↦
              elim (cases_lt b.at at) [
                | inl b_behind ↦
                    elim (cases_lt c.at at) [
                      | inl c_behind ↦
                          absurd (all_behind a b c at u v w some mean a_behind b_behind c_behind)
                      | inr c_before ↦
                          of_c (one_before c a b at w u v c_some c_mean c_before (omega arith)
                          (omega arith))
                    ]
                | inr b_before ↦
                    elim (cases_lt c.at at) [
                      | inl c_behind ↦
                          of_b (one_before b a c at v u w b_some b_mean b_before (omega arith)
                          (omega arith))
                      | inr c_before ↦
                          of_a (one_behind a b c at u v w some mean (omega arith) b_before c_before)
                    ]
              ]
          | inr a_before ↦
              elim (cases_lt b.at at) [
                | inl b_behind ↦
                    elim (cases_lt c.at at) [
                      | inl c_behind ↦
                          of_a (one_before a b c at u v w some mean a_before (omega arith)
                          (omega arith))
                      | inr c_before ↦
                          of_b (one_behind b a c at v u w b_some b_mean (omega arith) a_before
                          c_before)
                    ]
                | inr b_before ↦
                    elim (cases_lt c.at at) [
                      | inl c_behind ↦
                          of_c (one_behind c a b at w u v c_some c_mean (omega arith) a_before
                          b_before)
                      | inr c_before ↦
                          elim (cases_lt 0 u) [
                            | inl counts ↦
                                of_a (one_behind a b c at u v w some mean
                                (all_before a b c at u v w some mean a_before b_before c_before
                                counts) b_before c_before)
                            | inr u_none ↦
                                elim (cases_lt 0 v) [
                                  | inl counts ↦
                                      of_b (one_behind b a c at v u w b_some b_mean
                                      (all_before b a c at v u w b_some b_mean b_before a_before
                                      c_before counts) a_before c_before)
                                  | inr v_none ↦
                                      of_c (one_behind c a b at w u v c_some c_mean
                                      (all_before c a b at w u v c_some c_mean c_before a_before
                                      b_before (omega arith)) a_before b_before)
                                ]
                          ]
                    ]
              ]
        ]
