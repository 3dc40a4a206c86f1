-- Offsets and directions from a node to what is next to it.
-- Source: this project's rule.
use Rattle.std.specs.Prelude.{◌≡◌, ℕ, ◌+◌, ◌-◌, Bool, true, false, ◌&&◌, List, [], ◌∷◌, map, flat_map, filter, nat_lt, nat_le, ◌==◌, ℤ, pos, negsuc, ◌+ℤ◌, ◌≤ℤ◌, All, unsigned_abs, slice_index_or}
use Rattle.lattice.specs.declared.node.Node.{Node}
use Rattle.lattice.specs.declared.point.Face.{Face}
use Rattle.lattice.specs.declared.point.Face.TheVariants.{XLow, XHigh, YLow, YHigh, ZLow, ZHigh}
use Rattle.lattice.specs.Node.{nodes_across}

-- an offset has a step for each of the axes x, y and z, and each step is -1, 0 or 1
abbrev pub AreSteps : List ℤ → Type 0
AreSteps offset = All (λ step. (negsuc 0 ≤ℤ step) × (step ≤ℤ pos 1)) offset

-- a node of the same level whose i, j and k are greater by the items of an offset
pub record IsAtOffset (offset : List ℤ) (n other : Node) : Type 0 where
  pub level : other.level ≡ n.level
  pub i : pos other.i ≡ pos n.i +ℤ slice_index_or offset 0 (pos 0)
  pub j : pos other.j ≡ pos n.j +ℤ slice_index_or offset 1 (pos 0)
  pub k : pos other.k ≡ pos n.k +ℤ slice_index_or offset 2 (pos 0)

-- a direction from a node: on each axis 0 towards the low side, 1 to neither side, 2 towards the high side
pub record Direction : Type 0 where
  pub z : ℕ
  pub y : ℕ
  pub x : ℕ

-- the direction of an offset: one more than each of its steps
abbrev pub direction_of : List ℤ → Direction
direction_of d =
    let step : ℕ → ℕ = λ axis. unsigned_abs (slice_index_or d axis (pos 0) +ℤ pos 1) in
    record { z = step 2; y = step 1; x = step 0 }

-- all 27 directions by z, then y, then x; the middle one stays where it is
abbrev pub all_directions : List Direction
all_directions =
    let steps : List ℕ = 0 ∷ 1 ∷ 2 ∷ [] in
    let row : ℕ → ℕ → List Direction = λ z y. map (λ x. record { z = z; y = y; x = x }) steps in
    flat_map (λ z. flat_map (row z) steps) steps

-- on how many axes a direction leads away
abbrev pub axes_left : Direction → ℕ
axes_left d =
    let away : ℕ → ℕ = λ step. elim (step == 1) [ true ↦ 0 | false ↦ 1 ] in
    away d.z + away d.y + away d.x

-- the 26 directions that lead away, by z, then y, then x
abbrev pub directions : List Direction
directions = filter (λ d. nat_lt 0 (axes_left d)) all_directions

-- the 18 directions across a face or an edge, and the one that stays
abbrev pub near_directions : List Direction
near_directions = filter (λ d. nat_lt (axes_left d) 3) all_directions

-- the direction across a face
abbrev pub across : Face → Direction
across XLow = record { z = 1; y = 1; x = 0 }
across XHigh = record { z = 1; y = 1; x = 2 }
across YLow = record { z = 1; y = 0; x = 1 }
across YHigh = record { z = 1; y = 2; x = 1 }
across ZLow = record { z = 0; y = 1; x = 1 }
across ZHigh = record { z = 2; y = 1; x = 1 }

-- whether the place next to a node in a direction is in the world
abbrev pub has_neighbour : ℕ → Direction → Node → Bool
has_neighbour depth d n =
    let fits : ℕ → ℕ → Bool = λ index step.
    nat_lt 0 (index + step) && nat_le (index + step) (nodes_across depth n.level) in
    fits n.k d.z && fits n.j d.y && fits n.i d.x

-- the node of the same level next to a node in a direction
abbrev pub neighbour : Direction → Node → Node
neighbour d n = record {
  level = n.level;
  k = n.k + d.z - 1;
  j = n.j + d.y - 1;
  i = n.i + d.x - 1;
}

-- a node and its neighbours across faces and edges, those that are in the world
abbrev pub near_nodes : ℕ → Node → List Node
near_nodes depth n =
    map (λ d. neighbour d n) (filter (λ d. has_neighbour depth d n) near_directions)
