-- Which heights a triangle has over a place.
-- Source: barycentric coordinates, here as whole weights; this project's rule.
use Rattle.std.specs.Prelude.{◌≡◌, ℕ, ◌+◌, ◌*◌, ◌^◌, ◌<◌, ◌≤◌, List, [], ◌∷◌, Option, None, Some, length, map}
use Rattle.lattice.specs.declared.point.Pos.{Pos}
use Rattle.frame_surface.specs.declared.height.Height.{Height}

-- the sum of weights
abbrev pub weight_sum : List ℕ → ℕ
weight_sum [] = 0
weight_sum (w ∷ ws) = w + weight_sum ws

-- the sum of numbers, each as often as its weight says
abbrev pub weighed : List ℕ → List ℕ → ℕ
weighed [] ns = 0
weighed (w ∷ ws) [] = 0
weighed (w ∷ ws) (n ∷ ns) = w * n + weighed ws ns

-- corners cover a height num / den over the place (x, y): the point there at that height is the mean of the corners by
-- some whole weights, one for each, whose sum is den. So it lies in the triangle that the corners span, its border
-- included, also where that stands upright or has no area.
pub record Covers (corners : List Pos) (x y num den : ℕ) : Type 0 where
  pub weights : List ℕ
  pub each : length weights ≡ length corners
  pub some : 1 ≤ den
  pub sum_is : weight_sum weights ≡ den
  pub x_is : weighed weights (map (λ (p : Pos). p.x) corners) ≡ x * den
  pub y_is : weighed weights (map (λ (p : Pos). p.y) corners) ≡ y * den
  pub z_is : weighed weights (map (λ (p : Pos). p.z) corners) ≡ num

-- the height n / d is at most another, if there is one
abbrev pub IsAtMost : ℕ → ℕ → Option Height → Type 0
IsAtMost n d None = ⊥
IsAtMost n d (Some h) = n * h.den ≤ h.num * d

-- a height's denominator isn't 0, and its numbers are small
pub record IsHeight (h : Height) : Type 0 where
  pub some : 1 ≤ h.den
  pub num : h.num < 2 ^ 63
  pub den : h.den < 2 ^ 63
