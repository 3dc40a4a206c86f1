-- A world with one split corner, and the ground in it.
use Rattle.std.specs.Prelude.{ℕ, ◌&&◌, ◌||◌, ◌==◌}
use Rattle.lattice.specs.declared.key.Key.{Key}
use Rattle.lattice.specs.declared.point.Axis.TheVariants.{Z}
use Rattle.lattice.specs.declared.point.Point.{Point}
use Rattle.terrain.specs.declared.brush.Brush.TheVariants.{Ground}
use Rattle.terrain.specs.declared.brush.Mode.TheVariants.{Fill}
use Rattle.terrain.specs.Brushes.{after_brush}
use Rattle.terrain.specs.Levels.{LevelMap}
use Rattle.terrain.specs.Samples.{Field, opening}

-- a point by its x, y and z, and the key there along z
abbrev pub lattice_point : ℕ → ℕ → ℕ → Point
lattice_point x y z = record { z = z; y = y; x = x }

abbrev pub upright : ℕ → Point → Key
upright level at = record { level = level; at = at; axis = Z }

-- in a world of depth 2 the root is split, and its child at the low corner
abbrev pub split_corner : LevelMap
split_corner n = (n.level == 2 || n.level == 1) && n.k == 0 && n.j == 0 && n.i == 0

-- the ground up to height 8: between 8 and 9 there is a vertex everywhere
abbrev pub ground : Field
ground = after_brush 2 (Ground Fill 8) opening
