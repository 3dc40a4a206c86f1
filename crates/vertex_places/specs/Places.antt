-- Where the vertices of keys lie, by how far their ends move and by their samples.
-- Source: this project's rule.
use Rattle.std.specs.Prelude.{◌≡◌, ℕ, ◌+◌, ◌*◌, ℤ, pos, ◌+ℤ◌, unsigned_abs}
use Rattle.lattice.specs.declared.key.Key.{Key}
use Rattle.lattice.specs.declared.point.Axis.{Axis}
use Rattle.lattice.specs.declared.point.Axis.TheVariants.{X, Y, Z}
use Rattle.lattice.specs.declared.point.Point.{Point}
use Rattle.lattice.specs.declared.point.Pos.{Pos}
use Rattle.lattice.specs.declared.point.TheConstants.{UNITS}
use Rattle.lattice.specs.Key.{far_end}
use Rattle.lattice.specs.Point.{coordinate}
use Rattle.terrain.specs.Blocks.{between, shift}
use Rattle.terrain.specs.Levels.{LevelMap}
use Rattle.terrain.specs.Samples.{Field, IsSample}
use Rattle.vertex_places.specs.declared.places.End.{End}
use Rattle.vertex_places.specs.Moves.{IsShift, IsSmall, move_on}

-- where an end at a point lies on an axis after its move, in 1/256 cell
abbrev pub end_on : Axis → Point → End → ℤ
end_on axis p end = pos (UNITS * coordinate axis p) +ℤ move_on axis end.by

-- where the vertex of a key lies that has these ends
abbrev pub placed_on : Axis → Key → End → End → ℕ
placed_on axis key near far =
    between (end_on axis key.at near) (end_on axis (far_end key) far)
    (unsigned_abs near.sample) (unsigned_abs far.sample)

abbrev pub placed : Key → End → End → Pos
placed key near far = record {
  x = placed_on X key near far;
  y = placed_on Y key near far;
  z = placed_on Z key near far;
}

-- the position that is so many units further on an axis
abbrev pub further : Axis → ℕ → Pos → Pos
further X by p = record { x = p.x + by; y = p.y; z = p.z }
further Y by p = record { x = p.x; y = p.y + by; z = p.z }
further Z by p = record { x = p.x; y = p.y; z = p.z + by }

-- an end of a key as it is in a field and a level map: it moves by its point's shift, and has its point's sample
pub record IsEnd (depth : ℕ) (s : Field) (m : LevelMap) (level : ℕ) (p : Point) (end : End)
    : Type 0 where
  pub by : IsShift depth m level p end.by
  pub sample : end.sample ≡ s p

-- a point doesn't move as an end of a key of a level
pub record IsStill (depth : ℕ) (m : LevelMap) (level : ℕ) (p : Point) : Type 0 where
  pub on : (axis : Axis) → shift depth m level p axis ≡ pos 0

-- neither end of a key moves
pub record AreStill (depth : ℕ) (m : LevelMap) (key : Key) : Type 0 where
  pub begins : IsStill depth m key.level key.at
  pub ends : IsStill depth m key.level (far_end key)

-- an end of a key of a level, as worlds have them
pub record IsKeyEnd (level : ℕ) (end : End) : Type 0 where
  pub by : IsSmall level end.by
  pub sample : IsSample end.sample
