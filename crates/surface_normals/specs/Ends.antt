-- The ends of a key, as a normal is computed from them. This project's rule.
use Rattle.std.specs.Prelude.{◌≡◌, ℕ, ◌^◌, ◌<◌}
use Rattle.lattice.specs.declared.key.Key.{Key}
use Rattle.lattice.specs.Key.{far_end}
use Rattle.lattice.specs.Point.{IsInWorld}
use Rattle.terrain.specs.Samples.{Field, IsSample}
use Rattle.surface_normals.specs.declared.normals.Ends.{Ends}

-- ends of a key of a world: its points are in the world, its step and its samples are small
pub record AreSmallEnds (depth : ℕ) (ends : Ends) : Type 0 where
  pub near : IsInWorld depth ends.near
  pub far : IsInWorld depth ends.far
  pub step : ends.step < 2 ^ 8
  pub a : IsSample ends.a
  pub b : IsSample ends.b

-- they are those of a key in a field
pub record AreKeyEnds (depth : ℕ) (s : Field) (key : Key) (ends : Ends) : Type 0 where
  pub small : AreSmallEnds depth ends
  pub near : ends.near ≡ key.at
  pub far : ends.far ≡ far_end key
  pub step : ends.step ≡ 2 ^ key.level
  pub a : ends.a ≡ s key.at
  pub b : ends.b ≡ s (far_end key)
