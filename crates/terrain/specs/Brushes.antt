-- Brushes: what each makes of a field, which of them a world takes, and off which region they change nothing.
-- Source: this project's rule.
use Rattle.std.specs.Prelude.{ℕ, zero, suc, ◌+◌, ◌-◌, ◌*◌, ◌/◌, ◌≤◌, min, true, false, cond, ℤ, pos, ◌+ℤ◌, ◌-ℤ◌, ◌*ℤ◌, neg_ℤ, nat_le}
use Rattle.std.specs.Int.{int_max, int_min, int_div_euclid}
use Rattle.lattice.specs.declared.point.Point.{Point}
use Rattle.lattice.specs.declared.region.Region.{Region}
use Rattle.lattice.specs.Point.{IsInWorld, clamped}
use Rattle.lattice.specs.Region.{IsRegion, is_within}
use Rattle.lattice.specs.Settings.{world_side}
use Rattle.terrain.specs.declared.brush.Brush.{Brush}
use Rattle.terrain.specs.declared.brush.Brush.TheVariants.{Cuboid, Ball, Ground, Smooth}
use Rattle.terrain.specs.declared.brush.Mode.{Mode}
use Rattle.terrain.specs.declared.brush.Mode.TheVariants.{Fill, Carve}
use Rattle.terrain.specs.declared.brush.TheConstants.{MARGIN, SUBCELLS}
use Rattle.terrain.specs.Samples.{Field, clamped_sample}

-- ---- distances and roots

-- the root of n, rounded down: the greatest number whose square is at most n
unfoldable pub floor_root : ℕ → ℕ
floor_root zero = 0
floor_root (suc n) =
    let root = floor_root n in
    cond (nat_le ((root + 1) * (root + 1)) (suc n)) (root + 1) root

-- the square of the distance of two points
abbrev pub square_distance : Point → Point → ℕ
square_distance p q =
    let apart : ℕ → ℕ → ℕ = λ a b. (a - b) + (b - a) in
    apart p.x q.x * apart p.x q.x + apart p.y q.y * apart p.y q.y + apart p.z q.z * apart p.z q.z

-- how far a point is outside a box, negative inside: the greatest of lo - p and p - hi over the axes
abbrev pub outside : Point → Point → Point → ℤ
outside lo hi p =
    let beyond : ℕ → ℕ → ℕ → ℤ = λ low high c. int_max (pos low -ℤ pos c) (pos c -ℤ pos high) in
    int_max (beyond lo.x hi.x p.x) (int_max (beyond lo.y hi.y p.y) (beyond lo.z hi.z p.z))

-- ---- the brushes

-- a cuboid's value at a point, in units of 1/16 cell: 16 times how far the point is outside, less 8
abbrev pub cuboid_value : Point → Point → Point → ℤ
cuboid_value lo hi p = (pos SUBCELLS *ℤ outside lo hi p) -ℤ pos (SUBCELLS / 2)

-- a ball's: the root of 256 times the square of the distance from its centre, less 16 times its radius
abbrev pub ball_value : Point → ℕ → Point → ℤ
ball_value at r p =
    pos (floor_root (SUBCELLS * SUBCELLS * square_distance p at)) -ℤ pos (SUBCELLS * r)

-- a ground's: 16 times how far the point is above its height, less 8
abbrev pub ground_value : ℕ → Point → ℤ
ground_value h p = (pos SUBCELLS *ℤ (pos p.z -ℤ pos h)) -ℤ pos (SUBCELLS / 2)

-- what a shape of this value makes of a sample: fill takes the lesser of the two, carve the greater of the sample
-- and the value with its sign turned; the value is clamped to the range of samples
abbrev pub shaped : Mode → ℤ → ℤ → ℤ
shaped Fill g s = int_min s (clamped_sample g)
shaped Carve g s = int_max s (clamped_sample (neg_ℤ g))

-- the sum of the samples at a point's six neighbours, each with its coordinates clamped to the world
abbrev pub neighbour_sum : ℕ → Field → Point → ℤ
neighbour_sum depth s p =
    let up : ℕ → ℕ = λ c. min (c + 1) (world_side depth) in
    (s (record p { x = p.x - 1 }) +ℤ s (record p { x = up p.x }))
    +ℤ ((s (record p { y = p.y - 1 }) +ℤ s (record p { y = up p.y }))
    +ℤ (s (record p { z = p.z - 1 }) +ℤ s (record p { z = up p.z })))

-- twice a sample and its neighbours' sum, divided by 8 and rounded down; all of them are samples before the edit
abbrev pub smoothed : ℕ → Field → Point → ℤ
smoothed depth s p = int_div_euclid ((pos 2 *ℤ s p) +ℤ neighbour_sum depth s p) (pos 8)

-- the field after a brush; a smoothing changes the points of its box alone
abbrev pub after_brush : ℕ → Brush → Field → Field
after_brush depth (Cuboid mode lo hi) s p = shaped mode (cuboid_value lo hi p) (s p)
after_brush depth (Ball mode at r) s p = shaped mode (ball_value at r p) (s p)
after_brush depth (Ground mode h) s p = shaped mode (ground_value h p) (s p)
after_brush depth (Smooth lo hi) s p =
    elim (is_within (record { lo = lo; hi = hi }) p) [ true ↦ smoothed depth s p | false ↦ s p ]

-- ---- which brushes a world takes, and where they work

-- a ball about a point of the world, with a radius from 1 to the side
pub record IsBall (depth : ℕ) (at : Point) (r : ℕ) : Type 0 where
  pub centre : IsInWorld depth at
  pub least : 1 ≤ r
  pub most : r ≤ world_side depth

-- a brush that a world takes: boxes of its points, balls about its points, grounds up to its side
abbrev pub IsLawful : ℕ → Brush → Type 0
IsLawful depth (Cuboid mode lo hi) = IsRegion depth (record { lo = lo; hi = hi })
IsLawful depth (Ball mode at r) = IsBall depth at r
IsLawful depth (Ground mode h) = h ≤ world_side depth
IsLawful depth (Smooth lo hi) = IsRegion depth (record { lo = lo; hi = hi })

-- a box grown by so many cells on each side and clamped to the world
abbrev pub grown : ℕ → ℕ → Point → Point → Region
grown depth n lo hi = record {
  lo = record { z = lo.z - n; y = lo.y - n; x = lo.x - n };
  hi = clamped depth (record { z = hi.z + n; y = hi.y + n; x = hi.x + n });
}

-- the region of a brush, off which it changes nothing: a cuboid and a ball grown by MARGIN, all up to so far above a
-- ground, the box of a smoothing itself; each clamped to the world
abbrev pub region : ℕ → Brush → Region
region depth (Cuboid mode lo hi) = grown depth MARGIN lo hi
region depth (Ball mode at r) = grown depth (r + MARGIN) at at
region depth (Ground mode h) = record {
  lo = record { z = 0; y = 0; x = 0 };
  hi = clamped depth (record { z = h + MARGIN; y = world_side depth; x = world_side depth });
}
region depth (Smooth lo hi) = record { lo = lo; hi = hi }
