-- The orders of points, nodes and keys, each written out by its parts, the first that differs deciding.
-- Source: this project's rule.
use Rattle.std.specs.Prelude.{◌≡◌, ◌<◌, ◌↔◌, ◌⊎◌, ⊤}
use Rattle.std.specs.declared.cmp.Ordering.{Ordering}
use Rattle.std.specs.declared.cmp.Ordering.TheVariants.{Less, Equal, Greater}
use Rattle.lattice.specs.declared.point.Point.{Point}
use Rattle.lattice.specs.declared.point.Axis.{Axis}
use Rattle.lattice.specs.declared.point.Axis.TheVariants.{X, Y, Z}
use Rattle.lattice.specs.declared.node.Node.{Node}
use Rattle.lattice.specs.declared.key.Key.{Key}

-- a point is before another by z, then y, then x
abbrev pub PointIsBefore : Point → Point → Type 0
PointIsBefore a b = (a.z < b.z) ⊎ ((a.z ≡ b.z) × ((a.y < b.y) ⊎ ((a.y ≡ b.y) × (a.x < b.x))))

-- a node is before another by level, then k, then j, then i
abbrev pub NodeIsBefore : Node → Node → Type 0
NodeIsBefore a b =
    (a.level < b.level) ⊎ ((a.level ≡ b.level) × ((a.k < b.k) ⊎ ((a.k ≡ b.k)
    × ((a.j < b.j) ⊎ ((a.j ≡ b.j) × (a.i < b.i))))))

-- X is before Y, and both are before Z
abbrev pub AxisIsBefore : Axis → Axis → Type 0
AxisIsBefore X Y = ⊤
AxisIsBefore X Z = ⊤
AxisIsBefore Y Z = ⊤
AxisIsBefore a b = ⊥

-- a key is before another by level, then its point, then its axis
abbrev pub KeyIsBefore : Key → Key → Type 0
KeyIsBefore a b =
    (a.level < b.level) ⊎ ((a.level ≡ b.level)
    × (PointIsBefore a.at b.at ⊎ ((a.at ≡ b.at) × AxisIsBefore a.axis b.axis)))

-- a comparison is Less exactly where the first is before the second, Greater exactly where the second is before the
-- first, and Equal exactly where both are the same
pub record IsOrderBy {A : Type 0} (cmp : A → A → Ordering) (Before : A → A → Type 0) : Type 0 where
  pub less : (a b : A) → (cmp a b ≡ Less) ↔ Before a b
  pub equal : (a b : A) → (cmp a b ≡ Equal) ↔ (a ≡ b)
  pub greater : (a b : A) → (cmp a b ≡ Greater) ↔ Before b a
