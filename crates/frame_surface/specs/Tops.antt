-- How high a surface is over a place, in whole units of 1/256 cell and rounded down: what a pick tells.
--
-- The greatest height that is covered is a fraction (`IsHighest`). Its whole part is found by trying: the greatest
-- number that some triangle reaches. Weights below 2^63 and triangles below 2^32 are enough to try, as `height_over`
-- shows.
-- Source: this project's rule.
use Rattle.std.specs.Prelude.{ℕ, zero, suc, ◌+◌, ◌*◌, ◌^◌, Bool, false, ◌&&◌, ◌||◌, ◌==◌, nat_le, List, [], ◌∷◌, Option, None, Some, if◌then◌else◌, map}
use Rattle.std.specs.List.{list_any}
use Rattle.lattice.specs.declared.point.Pos.{Pos}
use Rattle.lattice.specs.declared.point.TheConstants.{UNITS}
use Rattle.lattice.specs.Node.{nodes}
use Rattle.lattice.specs.Settings.{world_side}
use Rattle.frame_surface.specs.Heights.{weight_sum, weighed}
use Rattle.frame_surface.specs.Surface.{Surface}

-- whether a test holds of some number below an end
unfoldable pub some_below : ℕ → (ℕ → Bool) → Bool
some_below zero test = false
some_below (suc n) test = test n || some_below n test

-- the greatest number below an end of which a test holds, if there is one
unfoldable pub greatest_below : ℕ → (ℕ → Bool) → Option ℕ
greatest_below zero test = None
greatest_below (suc n) test = if test n then Some n else greatest_below n test

-- whether a test holds of some weights below a bound, one for each corner
abbrev pub some_weights : ℕ → List Pos → (List ℕ → Bool) → Bool
some_weights bound [] test = test []
some_weights bound (corner ∷ corners) test =
    some_below bound (λ w. some_weights bound corners (λ ws. test (w ∷ ws)))

-- whether the mean of corners by these weights is over the place (x, y), and at least so high
abbrev pub is_over : List Pos → ℕ → ℕ → ℕ → List ℕ → Bool
is_over corners x y height weights =
    let den = weight_sum weights in
    nat_le 1 den && weighed weights (map (λ (p : Pos). p.x) corners) == x * den
    && weighed weights (map (λ (p : Pos). p.y) corners) == y * den
    && nat_le (height * den) (weighed weights (map (λ (p : Pos). p.z) corners))

-- whether corners cover this height over the place, or a greater one
abbrev pub reaches : List Pos → ℕ → ℕ → ℕ → Bool
reaches corners x y height = some_weights (2 ^ 63) corners (is_over corners x y height)

-- whether some triangle of a surface does
abbrev pub is_reached : ℕ → Surface → ℕ → ℕ → ℕ → Bool
is_reached depth surface x y height =
    list_any (λ n. some_below (2 ^ 32) (λ i. reaches (surface n i) x y height)) (nodes depth)

-- the greatest height of a world that is reached, if any is
abbrev pub height_over : ℕ → Surface → ℕ → ℕ → Option ℕ
height_over depth surface x y =
    greatest_below (UNITS * world_side depth + 1) (is_reached depth surface x y)
