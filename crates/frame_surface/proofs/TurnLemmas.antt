-- The weights of a triangle's corners, by the turns at a place.
--
-- All is about six coordinates and the place's two. Left parts and right parts are the two halves of a product with
-- signs, so an equation between differences stands here as one between sums. The place is the mean of the corners by
-- the turns (`mean-x`, `mean-y`). Of any weights of which it is the mean, each two are in the ratio of the turns
-- (`ratio-pq` and so on), so each is in the ratio of its turn to all three (`share-p` and so on). From this come the
-- two ways in which the code makes weights of turns (`ratio`, `ratio-back`), and that all turns of a mean are to one
-- side (`to_left`).
use Rattle.std.proofs.Common.{◌≡◌, ℕ, ◌+◌, ◌*◌, ◌<◌, ◌≤◌, inl, inr, ap, arith}
use Rattle.std.proofs.lemmas.Bool.{cases_lt}
use Rattle.std.proofs.Math.Nat.{mul-le-mul_left, mul-lt-mul_of_pos_left}

-- the turn from one place to another: what counts to the left, and to the right
abbrev pub left : ℕ → ℕ → ℕ → ℕ → ℕ → ℕ → ℕ
left px py qx qy x y = px * qy + qx * y + x * py

abbrev pub right : ℕ → ℕ → ℕ → ℕ → ℕ → ℕ → ℕ
right px py qx qy x y = qx * py + px * y + x * qy

-- a weight in the ratio of two turns to both others is in that of its turn to all three
shared : (a b c l r lb rb lc rc : ℕ) → a * lb + b * r ≡ a * rb + b * l
    → a * lc + c * r ≡ a * rc + c * l
    → a * (l + lb + lc) + (a + b + c) * r ≡ a * (r + rb + rc) + (a + b + c) * l
shared a b c l r lb rb lc rc h k = omega arith

module _ (px py qx qy rx ry x y : ℕ) where
  -- the parts of the three turns
  abbrev pub lp : ℕ
  lp = left qx qy rx ry x y

  abbrev pub rp : ℕ
  rp = right qx qy rx ry x y

  abbrev pub lq : ℕ
  lq = left rx ry px py x y

  abbrev pub rq : ℕ
  rq = right rx ry px py x y

  abbrev pub lr : ℕ
  lr = left px py qx qy x y

  abbrev pub rr : ℕ
  rr = right px py qx qy x y

  -- the place is the mean of the corners by the turns, along x
  pub mean-x : lp * px + lq * qx + lr * rx + x * (rp + rq + rr)
      ≡ rp * px + rq * qx + rr * rx + x * (lp + lq + lr)
  mean-x = omega arith

  -- and along y
  pub mean-y : lp * py + lq * qy + lr * ry + y * (rp + rq + rr)
      ≡ rp * py + rq * qy + rr * ry + y * (lp + lq + lr)
  mean-y = omega arith

  module _ (a b c : ℕ) (on_x : a * px + b * qx + c * rx ≡ x * (a + b + c))
      (on_y : a * py + b * qy + c * ry ≡ y * (a + b + c)) where
    -- the weights of p and q are in the ratio of their turns
    ratio-pq : a * lq + b * rp ≡ a * rq + b * lp
    ratio-pq =
        omega (
          arith,
          ap (λ t. t * rx) on_y,
          ap (λ t. t * x) on_y,
          ap (λ t. t * ry) on_x,
          ap (λ t. t * y) on_x,
        )

    -- those of q and r
    ratio-qr : b * lr + c * rq ≡ b * rr + c * lq
    ratio-qr =
        omega (
          arith,
          ap (λ t. t * px) on_y,
          ap (λ t. t * x) on_y,
          ap (λ t. t * py) on_x,
          ap (λ t. t * y) on_x,
        )

    -- and those of r and p
    ratio-rp : c * lp + a * rr ≡ c * rp + a * lr
    ratio-rp =
        omega (
          arith,
          ap (λ t. t * qx) on_y,
          ap (λ t. t * x) on_y,
          ap (λ t. t * qy) on_x,
          ap (λ t. t * y) on_x,
        )

    -- so each weight is in the ratio of its turn to all three
    pub share-p : a * (lp + lq + lr) + (a + b + c) * rp ≡ a * (rp + rq + rr) + (a + b + c) * lp
    share-p = shared a b c lp rp lq rq lr rr ratio-pq (omega (arith, ratio-rp))

    -- the same of q
    pub share-q : b * (lp + lq + lr) + (a + b + c) * rq ≡ b * (rp + rq + rr) + (a + b + c) * lq
    share-q =
        let h = shared b c a lq rq lr rr lp rp ratio-qr (omega (arith, ratio-pq)) in
        omega (arith, h)

    -- and of r
    pub share-r : c * (lp + lq + lr) + (a + b + c) * rr ≡ c * (rp + rq + rr) + (a + b + c) * lr
    share-r =
        let h = shared c a b lr rr lp rp lq rq ratio-rp (omega (arith, ratio-qr)) in
        omega (arith, h)

-- ---- weights of turns

-- a weight by a turn and by all three, where turns are differences: the same without them
pub ratio : (a e l r w left right sum : ℕ) → l ≡ r + w → left ≡ right + sum
    → a * left + e * r ≡ a * right + e * l → a * sum ≡ e * w
ratio a e l r w left right sum h k same =
    omega (arith, same, ap (λ t. e * t) h, ap (λ t. a * t) k)

-- the same of turns to the right
pub ratio-back : (a e l r w left right sum : ℕ) → r ≡ l + w → right ≡ left + sum
    → a * left + e * r ≡ a * right + e * l → a * sum ≡ e * w
ratio-back a e l r w left right sum h k same =
    omega (arith, same, ap (λ t. e * t) h, ap (λ t. a * t) k)

-- the place as a mean by such weights
pub mean : (p q r at l m n l' m' n' u v w : ℕ) → l ≡ l' + u → m ≡ m' + v → n ≡ n' + w
    → l * p + m * q + n * r + at * (l' + m' + n') ≡ l' * p + m' * q + n' * r + at * (l + m + n)
    → u * p + v * q + w * r ≡ at * (u + v + w)
mean p q r at l m n l' m' n' u v w hu hv hw same =
    omega (
      arith,
      same,
      ap (λ t. t * p) hu,
      ap (λ t. t * q) hv,
      ap (λ t. t * r) hw,
      ap (λ t. at * t) hu,
      ap (λ t. at * t) hv,
      ap (λ t. at * t) hw,
    )

-- where all turns together are to the left, each with a weight is
pub to_left : (a e l r left right : ℕ) → 1 ≤ e → right ≤ left
    → a * left + e * r ≡ a * right + e * l → r ≤ l
to_left a e l r left right some more same = elim (cases_lt l r) [
  | inl less ↦
      let small : a * right ≤ a * left = mul-le-mul_left a more in
      let large : e * l < e * r = mul-lt-mul_of_pos_left less some in
      absurd (omega (arith, same, small, large))
  | inr not_less ↦ not_less
]
