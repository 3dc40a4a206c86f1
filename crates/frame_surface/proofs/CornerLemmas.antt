-- Heights that the three corners of a triangle cover over a place, for `top` and `top_of_flat`.
--
-- Weights of three corners are taken out of their list and put back (`of_corners`, `from_corners`). Where the triangle
-- has area, all weights are in the ratio of the turns, so it covers one height (`weighed-covers`, `weighed-greatest`).
-- Where the place and any two corners lie on a line, heights are those of marks on that line: by y where the line is
-- along y (`upright-top`), else by x (`level-top`), since the corners' x then tells of
-- their y as well (`y-mean`). A triangle that lies beside the place covers nothing (`beside-x`, `beside-y`).
use Rattle.std.proofs.Common.{◌≡◌, ◌≢◌, ℕ, ◌+◌, ◌-◌, ◌*◌, ◌<◌, ◌≤◌, ◌⊎◌, inl, inr, List, [], ◌∷◌, length, refl, sym, ap, ◌∙◌, subst, arith}
use Rattle.std.specs.Prelude.{IfSome, None, Option, Some}
use Rattle.std.proofs.Math.Nat.{eq_of_mul-eq-mul_left, mul-le-mul_left}
use Rattle.std.proofs.lemmas.Bool.{cases_lt}
use Rattle.lattice.specs.declared.point.Pos.{Pos}
use Rattle.frame_surface.proofs.LineLemmas.{of_three}
use Rattle.frame_surface.specs.Heights.{Covers, weight_sum, weighed}
use Rattle.frame_surface.specs.Lines.{CoversOnLine, by_x, by_y}
use Rattle.frame_surface.specs.Turns.{AreMean, AreWeights, IsFlat}
use Rattle.frame_surface.specs.declared.height.Height.{Height}
use Rattle.frame_surface.specs.declared.line.Mark.{Mark}
use Rattle.frame_surface.specs.declared.spot.Spot.{Spot}
use Rattle.frame_surface.specs.declared.turns.Weights.{Weights}

-- three corners cover a height by these weights
pub record OfCorners (p q r : Pos) (x y n d : ℕ) : Type 0 where
  pub u : ℕ
  pub v : ℕ
  pub w : ℕ
  pub some : 1 ≤ d
  pub sum : u + v + w ≡ d
  pub x_is : u * p.x + v * q.x + w * r.x ≡ x * d
  pub y_is : u * p.y + v * q.y + w * r.y ≡ y * d
  pub z_is : u * p.z + v * q.z + w * r.z ≡ n

-- the weights out of their list
pub of_corners : (p q r : Pos) (x y n d : ℕ) → Covers (p ∷ q ∷ r ∷ []) x y n d
    → OfCorners p q r x y n d
of_corners p q r x y n d h = go h.weights h.each h.some h.sum_is h.x_is h.y_is h.z_is
  where
    go : (ws : List ℕ) → length ws ≡ 3 → 1 ≤ d → weight_sum ws ≡ d
        → weighed ws (p.x ∷ q.x ∷ r.x ∷ []) ≡ x * d → weighed ws (p.y ∷ q.y ∷ r.y ∷ []) ≡ y * d
        → weighed ws (p.z ∷ q.z ∷ r.z ∷ []) ≡ n → OfCorners p q r x y n d
    go [] each some sum on_x on_y z = absurd (omega arith)
    go (u ∷ []) each some sum on_x on_y z = absurd (omega arith)
    go (u ∷ v ∷ []) each some sum on_x on_y z = absurd (omega arith)
    go (u ∷ v ∷ w ∷ []) each some sum on_x on_y z = record {
      u = u;
      v = v;
      w = w;
      some = some;
      sum = omega arith;
      x_is = omega arith;
      y_is = omega arith;
      z_is = omega arith;
    }
    go (u ∷ v ∷ w ∷ t ∷ ws) each some sum on_x on_y z = absurd (omega arith)

-- and back
pub from_corners : (p q r : Pos) (x y n d : ℕ) → OfCorners p q r x y n d
    → Covers (p ∷ q ∷ r ∷ []) x y n d
from_corners p q r x y n d h = record {
  weights = h.u ∷ h.v ∷ h.w ∷ [];
  each = refl;
  some = h.some;
  sum_is = omega (arith, h.sum);
  x_is = omega (arith, h.x_is);
  y_is = omega (arith, h.y_is);
  z_is = omega (arith, h.z_is);
}

-- the place is the mean of the corners by these weights
pub mean_of : (p q r : Pos) (at : Spot) (n d : ℕ) (h : OfCorners p q r at.x at.y n d)
    → AreMean p q r at h.u h.v h.w
mean_of p q r at n d h = record {
  x = h.x_is ∙ ap (λ t. at.x * t) (sym h.sum);
  y = h.y_is ∙ ap (λ t. at.y * t) (sym h.sum);
}

-- ---- a triangle with area

module _ (p q r : Pos) (at : Spot) (w : Weights) (are : AreWeights p q r at w) where
  -- it covers the height that the weights give
  pub weighed-covers : 1 ≤ w.p + w.q + w.r
      → Covers (p ∷ q ∷ r ∷ []) at.x at.y (w.p * p.z + w.q * q.z + w.r * r.z) (w.p + w.q + w.r)
  weighed-covers some =
      from_corners p q r at.x at.y (w.p * p.z + w.q * q.z + w.r * r.z) (w.p + w.q + w.r) (record {
        u = w.p;
        v = w.q;
        w = w.r;
        some = some;
        sum = refl;
        x_is = are.mean.x;
        y_is = are.mean.y;
        z_is = refl;
      })

  -- and no other
  pub weighed-greatest : (n d : ℕ) → Covers (p ∷ q ∷ r ∷ []) at.x at.y n d
      → n * (w.p + w.q + w.r) ≤ (w.p * p.z + w.q * q.z + w.r * r.z) * d
  weighed-greatest n d covers =
      let h = of_corners p q r at.x at.y n d covers in
      let mean = mean_of p q r at n d h in
      let hp = are.p_ratio h.u h.v h.w mean in
      let hq = are.q_ratio h.u h.v h.w mean in
      let hr = are.r_ratio h.u h.v h.w mean in
      let same = in_ratio h.u h.v h.w w.p w.q w.r p.z q.z r.z hp hq hr in
      omega (
        arith,
        same,
        ap (λ t. t * (w.p + w.q + w.r)) h.z_is,
        ap (λ t. (w.p * p.z + w.q * q.z + w.r * r.z) * t) h.sum,
      )
    where
      in_ratio : (a b c i j k x y z : ℕ) → a * (i + j + k) ≡ (a + b + c) * i
          → b * (i + j + k) ≡ (a + b + c) * j → c * (i + j + k) ≡ (a + b + c) * k
          → (a * x + b * y + c * z) * (i + j + k) ≡ (i * x + j * y + k * z) * (a + b + c)
      in_ratio a b c i j k x y z hi hj hk =
          omega (arith, ap (λ t. t * x) hi, ap (λ t. t * y) hj, ap (λ t. t * z) hk)

-- ---- a triangle without area

-- two numbers that two other ones weigh the same either way round are the same
apart : (p q l m : ℕ) → p ≢ q → p * l + q * m ≡ p * m + q * l → l ≡ m
apart p q l m differ same = elim (cases_lt p q) [
  | inl less ↦
      let gap : p + (q - p) ≡ q = omega arith in
      let rest : (q - p) * m ≡ (q - p) * l =
      omega (arith, same, ap (λ t. t * m) gap, ap (λ t. t * l) gap) in
      sym (eq_of_mul-eq-mul_left (q - p) (omega arith) m l rest)
  | inr more ↦
      let gap : q + (p - q) ≡ p = omega arith in
      let rest : (p - q) * l ≡ (p - q) * m =
      omega (arith, same, ap (λ t. t * m) gap, ap (λ t. t * l) gap) in
      eq_of_mul-eq-mul_left (p - q) (omega (arith, differ)) l m rest
]

module _ (p q r : Pos) (at : Spot) where
  -- all corners stand over the place's x
  module _ (hp : p.x ≡ at.x) (hq : q.x ≡ at.x) (hr : r.x ≡ at.x) where
    -- what their marks by y cover, the corners cover
    pub upright-covers : (n d : ℕ)
        → CoversOnLine (by_y p ∷ by_y q ∷ by_y r ∷ []) at.y n d
        → Covers (p ∷ q ∷ r ∷ []) at.x at.y n d
    upright-covers n d covers =
        let h = of_three (by_y p) (by_y q) (by_y r) at.y n d covers in
        from_corners p q r at.x at.y n d (record {
          u = h.u;
          v = h.v;
          w = h.w;
          some = h.some;
          sum = h.sum;
          x_is =
              omega (
                arith,
                ap (λ t. h.u * t) hp,
                ap (λ t. h.v * t) hq,
                ap (λ t. h.w * t) hr,
                ap (λ t. at.x * t) h.sum,
              );
          y_is = h.at_is;
          z_is = h.z_is;
        })

  -- the place and any two corners lie on a line that isn't along y
  module _ (flat : IsFlat p q r at) (away : (p.x ≢ at.x) ⊎ ((q.x ≢ at.x) ⊎ (r.x ≢ at.x))) where
    -- a mean along x is one along y
    y-mean : (u v w : ℕ) → u * p.x + v * q.x + w * r.x ≡ at.x * (u + v + w)
        → u * p.y + v * q.y + w * r.y ≡ at.y * (u + v + w)
    y-mean u v w mean =
        let l : ℕ = u * p.y + v * q.y + w * r.y in
        let m : ℕ = at.y * (u + v + w) in
        elim away [
          | inl hp ↦
              apart p.x at.x l m hp
              (omega (
                arith,
                ap (λ t. v * t) flat.pq,
                ap (λ t. w * t) flat.rp,
                ap (λ t. t * p.y) mean,
                ap (λ t. t * at.y) mean,
              ))
          | inr others ↦
              elim others [
                | inl hq ↦
                    apart q.x at.x l m hq
                    (omega (
                      arith,
                      ap (λ t. u * t) flat.pq,
                      ap (λ t. w * t) flat.qr,
                      ap (λ t. t * q.y) mean,
                      ap (λ t. t * at.y) mean,
                    ))
                | inr hr ↦
                    apart r.x at.x l m hr
                    (omega (
                      arith,
                      ap (λ t. u * t) flat.rp,
                      ap (λ t. v * t) flat.qr,
                      ap (λ t. t * r.y) mean,
                      ap (λ t. t * at.y) mean,
                    ))
              ]
        ]

    -- what marks by x cover, the corners cover
    pub level-covers : (n d : ℕ)
        → CoversOnLine (by_x p ∷ by_x q ∷ by_x r ∷ []) at.x n d
        → Covers (p ∷ q ∷ r ∷ []) at.x at.y n d
    level-covers n d covers =
        let h = of_three (by_x p) (by_x q) (by_x r) at.x n d covers in
        from_corners p q r at.x at.y n d (record {
          u = h.u;
          v = h.v;
          w = h.w;
          some = h.some;
          sum = h.sum;
          x_is = h.at_is;
          y_is =
              y-mean h.u h.v h.w (h.at_is ∙ ap (λ t. at.x * t) (sym h.sum))
              ∙ ap (λ t. at.y * t) h.sum;
          z_is = h.z_is;
        })

  -- a height that marks cover, if there is one
  abbrev IfMarks : List Mark → ℕ → Option Height → Type 0
  IfMarks marks place o = IfSome o (λ h. CoversOnLine marks place h.num h.den)

  -- one that the corners cover
  abbrev pub IfCovers : Option Height → Type 0
  IfCovers o = IfSome o (λ h. Covers (p ∷ q ∷ r ∷ []) at.x at.y h.num h.den)

  module _ (a b c : Mark) (o : Option Height) where
    -- the greatest height of marks by y is one of the corners
    pub upright-top : p.x ≡ at.x → q.x ≡ at.x → r.x ≡ at.x → a ≡ by_y p → b ≡ by_y q
        → c ≡ by_y r → IfMarks (a ∷ b ∷ c ∷ []) at.y o → IfCovers o
    upright-top hp hq hr ea eb ec covers =
        go o (subst (λ marks. IfMarks marks at.y o) (λ i. ea i ∷ eb i ∷ ec i ∷ []) covers)
      where
        go : (o : Option Height) → IfMarks (by_y p ∷ by_y q ∷ by_y r ∷ []) at.y o → IfCovers o
        go None h = tt
        go (Some h) covers = upright-covers hp hq hr h.num h.den covers

    -- so is that of marks by x
    pub level-top : IsFlat p q r at → (p.x ≢ at.x) ⊎ ((q.x ≢ at.x) ⊎ (r.x ≢ at.x))
        → a ≡ by_x p → b ≡ by_x q → c ≡ by_x r → IfMarks (a ∷ b ∷ c ∷ []) at.x o → IfCovers o
    level-top flat away ea eb ec covers =
        go o (subst (λ marks. IfMarks marks at.x o) (λ i. ea i ∷ eb i ∷ ec i ∷ []) covers)
      where
        go : (o : Option Height) → IfMarks (by_x p ∷ by_x q ∷ by_x r ∷ []) at.x o → IfCovers o
        go None h = tt
        go (Some h) covers = level-covers flat away h.num h.den covers

-- ---- a triangle beside the place

-- a mean of three numbers that are all less than a number, or all greater, isn't that number
off_mean : (u v w a b c at : ℕ) → 1 ≤ u + v + w
    → ((at < a) × (at < b) × (at < c)) ⊎ ((a < at) × (b < at) × (c < at))
    → u * a + v * b + w * c ≡ at * (u + v + w) → ⊥
off_mean u v w a b c at some (inl (ha, hb, hc)) mean =
    let first : u * (at + 1) ≤ u * a = mul-le-mul_left u (omega (arith, ha)) in
    let second : v * (at + 1) ≤ v * b = mul-le-mul_left v (omega (arith, hb)) in
    let third : w * (at + 1) ≤ w * c = mul-le-mul_left w (omega (arith, hc)) in
    omega (arith, first, second, third, mean, some)
off_mean u v w a b c at some (inr (ha, hb, hc)) mean =
    let first : u * (a + 1) ≤ u * at = mul-le-mul_left u (omega (arith, ha)) in
    let second : v * (b + 1) ≤ v * at = mul-le-mul_left v (omega (arith, hb)) in
    let third : w * (c + 1) ≤ w * at = mul-le-mul_left w (omega (arith, hc)) in
    omega (arith, first, second, third, mean, some)

module _ (p q r : Pos) (x y n d : ℕ) (covers : Covers (p ∷ q ∷ r ∷ []) x y n d) where
  -- such a triangle covers nothing, along x
  pub beside-x : ((x < p.x) × (x < q.x) × (x < r.x)) ⊎ ((p.x < x) × (q.x < x) × (r.x < x)) → ⊥
  beside-x off =
      let h = of_corners p q r x y n d covers in
      off_mean h.u h.v h.w p.x q.x r.x x (omega (arith, h.some, h.sum)) off
      (h.x_is ∙ ap (λ t. x * t) (sym h.sum))

  -- and along y
  pub beside-y : ((y < p.y) × (y < q.y) × (y < r.y)) ⊎ ((p.y < y) × (q.y < y) × (r.y < y)) → ⊥
  beside-y off =
      let h = of_corners p q r x y n d covers in
      off_mean h.u h.v h.w p.y q.y r.y y (omega (arith, h.some, h.sum)) off
      (h.y_is ∙ ap (λ t. y * t) (sym h.sum))
