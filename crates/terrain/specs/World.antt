-- How far a point is from a node, and the octants round a point.
-- Source: this project's rule.
use Rattle.std.specs.Prelude.{ℕ, ◌-◌, ◌/◌, max, Bool, true, false, ◌&&◌, List, [], ◌∷◌, map, flat_map, nat_lt}
use Rattle.lattice.specs.declared.node.Node.{Node}
use Rattle.lattice.specs.declared.point.Axis.{Axis}
use Rattle.lattice.specs.declared.point.Axis.TheVariants.{X, Y, Z}
use Rattle.lattice.specs.declared.point.Point.{Point}
use Rattle.lattice.specs.Node.{high_corner, low_corner, node_side}
use Rattle.lattice.specs.Settings.{world_side}

-- ---- distances

-- how far a number is from the range from low to high
abbrev pub gap : ℕ → ℕ → ℕ → ℕ
gap low high c = max (low - c) (c - high)

-- how far a point is from a node's closed cube, by the greatest of the three axes (Chebyshev's distance)
abbrev pub distance : Point → Node → ℕ
distance p n =
    let lo = low_corner n in
    let hi = high_corner n in
    max (gap lo.x hi.x p.x) (max (gap lo.y hi.y p.y) (gap lo.z hi.z p.z))

-- ---- what lies round a point

-- one of the eight parts of space round a point: on each axis, whether it is the high side
pub record Octant : Type 0 where
  pub z : Bool
  pub y : Bool
  pub x : Bool

-- all eight, by z, then y, then x
abbrev pub octants : List Octant
octants =
    let sides : List Bool = false ∷ true ∷ [] in
    let row : Bool → Bool → List Octant = λ z y. map (λ x. record { z = z; y = y; x = x }) sides in
    flat_map (λ z. flat_map (row z) sides) sides

-- an octant's side on an axis
abbrev pub side_on : Axis → Octant → Bool
side_on X o = o.x
side_on Y o = o.y
side_on Z o = o.z

-- whether an octant at a point of the world is in the world
abbrev pub has_octant : ℕ → Point → Octant → Bool
has_octant depth p o =
    let fits : ℕ → Bool → Bool = λ c high.
    elim high [ true ↦ nat_lt c (world_side depth) | false ↦ nat_lt 0 c ] in
    fits p.z o.z && fits p.y o.y && fits p.x o.x

-- the node of a level in which an octant at a point lies
abbrev pub octant_node : ℕ → Point → Octant → Node
octant_node level p o =
    let side = node_side level in
    let index : ℕ → Bool → ℕ = λ c high. elim high [ true ↦ c / side | false ↦ (c - 1) / side ] in
    record { level = level; k = index p.z o.z; j = index p.y o.y; i = index p.x o.x }
