-- Viewpoints by their numbers.
-- Source: this project's rule.
use Rattle.std.specs.Prelude.{ℕ, List, Option, None, slice_index_or}
use Rattle.std.specs.Option.{ForSome}
use Rattle.lattice.specs.declared.point.Point.{Point}
use Rattle.lattice.specs.Point.{IsInWorld}
use Rattle.terrain.specs.Levels.{points_of}
use Rattle.octree.specs.declared.viewpoints.Viewpoints.{Viewpoints}

-- where a viewpoint is
abbrev pub place_of : Viewpoints → ℕ → Option Point
place_of views view = slice_index_or views.places view None

-- the points at which they are, by their numbers
abbrev pub points_in : Viewpoints → List Point
points_in views = points_of (place_of views)

-- each of them that is somewhere is in the world
abbrev pub AreInWorld : ℕ → Viewpoints → Type 0
AreInWorld depth views = (view : ℕ) → ForSome (place_of views view) (IsInWorld depth)
