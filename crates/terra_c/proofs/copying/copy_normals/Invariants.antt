-- The normals of the keys before i are copied, and the others are as they were.
use Rattle.std.proofs.Common.{◌≡◌, ℕ, ◌<◌, ◌≤◌, slice_get}
use Rattle.std.specs.Option.{option_map}
use Rattle.terra_c.specs.Blocks.{normal_in}
use Rattle.terra_c.proofs.copying.copy_normals.Given as goal

abbrev pub invariant-loop-i : goal.invariant-loop-i
invariant-loop-i l =
    ((k : ℕ) → k < l.i → slice_get l.to k ≡ option_map (normal_in l.frame) (slice_get l.from k))
    × ((k : ℕ) → l.i ≤ k → slice_get l.to k ≡ slice_get l.initial.to k)
