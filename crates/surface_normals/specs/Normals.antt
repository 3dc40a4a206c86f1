-- How steep a field is at a point, and the normal of a key.
-- Source: normals by differences of samples, and between the ends of an edge as its vertex is, after Lorensen and Cline
-- (1987); whole numbers without a division are this project's rule.
use Rattle.std.specs.Prelude.{ℕ, ◌-◌, ◌^◌, ℤ, pos, ◌+ℤ◌, ◌-ℤ◌, ◌*ℤ◌, unsigned_abs}
use Rattle.lattice.specs.declared.key.Key.{Key}
use Rattle.lattice.specs.declared.point.Axis.{Axis}
use Rattle.lattice.specs.declared.point.Axis.TheVariants.{X, Y, Z}
use Rattle.lattice.specs.declared.point.Point.{Point}
use Rattle.lattice.specs.Key.{far_end}
use Rattle.lattice.specs.Point.{clamped, moved}
use Rattle.terrain.specs.Samples.{Field}
use Rattle.surface_normals.specs.declared.vector.Normal.{Normal}

-- the point that is so much nearer to the low side along an axis, or on that side
abbrev pub moved_back : Axis → ℕ → Point → Point
moved_back X n p = record p { x = p.x - n }
moved_back Y n p = record p { y = p.y - n }
moved_back Z n p = record p { z = p.z - n }

-- how steep a field is at a point along an axis: its sample a step further less its sample a step before, where a step
-- that would leave the world ends on its border
abbrev pub slope : ℕ → Field → Point → ℕ → Axis → ℤ
slope depth s p step axis =
    s (clamped depth (moved axis step p)) -ℤ s (clamped depth (moved_back axis step p))

-- the normal of a key on an axis: the slopes at its ends, by steps of a cell of its level, each as often as the other
-- end's sample says without its sign; so the end that is nearer to the vertex counts for more
abbrev pub normal_on : ℕ → Field → Key → Axis → ℤ
normal_on depth s key axis =
    let step = 2 ^ key.level in
    let a = unsigned_abs (s key.at) in
    let b = unsigned_abs (s (far_end key)) in
    (pos b *ℤ slope depth s key.at step axis) +ℤ (pos a *ℤ slope depth s (far_end key) step axis)

-- the normal of a key. It is meant to lead to where samples rise, so to the empty side; its length says nothing, and it
-- may be 0.
abbrev pub normal_of : ℕ → Field → Key → Normal
normal_of depth s key = record {
  x = normal_on depth s key X;
  y = normal_on depth s key Y;
  z = normal_on depth s key Z;
}
