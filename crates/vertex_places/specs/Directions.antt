-- The directions of the code as those of the lattice, and the borders of a leaf.
-- Source: this project's rule.
use Rattle.std.specs.Prelude.{ℕ, zero, suc, ◌+◌, ◌-◌, ◌*◌, ◌/◌, ◌%◌, min, max, ◌==◌, nat_lt, if◌then◌else◌, List, [], ◌∷◌, Option, Some, None, ℤ, pos, neg_ℤ}
use Rattle.lattice.specs.declared.point.Axis.{Axis}
use Rattle.lattice.specs.declared.point.Axis.TheVariants.{X, Y, Z}
use Rattle.lattice.specs.declared.node.TheConstants.{CELLS}
use Rattle.lattice.specs.Offset.{Direction}
use Rattle.vertex_places.specs.declared.direction.TheConstants.{STAY}
use Rattle.vertex_places.specs.declared.direction.Direction.{Direction as DirectionOf}
use Rattle.vertex_places.specs.declared.direction.Step.{Step}
use Rattle.vertex_places.specs.declared.direction.Step.TheVariants.{Low, Stay, High}

-- a step as a number: 0 towards the low side, 1 to neither side, 2 towards the high side
abbrev pub step_of : Step → ℕ
step_of Low = 0
step_of Stay = 1
step_of High = 2

abbrev pub as_direction : DirectionOf → Direction
as_direction d = record { z = step_of d.z; y = step_of d.y; x = step_of d.x }

-- the border of a leaf on which a lattice point lies on an axis, by its cells from the leaf's low corner: 0 the low
-- one, 2 the high one, 1 neither
abbrev pub border_at : ℕ → ℕ
border_at cells = if cells == 0 then 0 else if cells == CELLS then 2 else 1

-- the same on all three axes
abbrev pub border_of : ℕ → ℕ → ℕ → Direction
border_of z y x = record { z = border_at z; y = border_at y; x = border_at x }

-- a direction's step on an axis
abbrev pub step_on : Axis → Direction → ℕ
step_on X d = d.x
step_on Y d = d.y
step_on Z d = d.z

-- so far into a leaf from its border on an axis: up from the low one, down from the high one
abbrev pub inwards : ℕ → ℤ → ℤ
inwards zero far = far
inwards (suc zero) far = pos 0
inwards (suc (suc step)) far = neg_ℤ far

-- the directions to the places on the low side and on the high side, on each axis, of a point on a border
abbrev pub low_side : Direction → Direction
low_side d = record { z = min d.z 1; y = min d.y 1; x = min d.x 1 }

abbrev pub high_side : Direction → Direction
high_side d = record { z = max d.z 1; y = max d.y 1; x = max d.x 1 }

-- the direction across the face on which a border lies on an axis
abbrev pub facing : Axis → Direction → Direction
facing X d = record { z = 1; y = 1; x = d.x }
facing Y d = record { z = 1; y = d.y; x = 1 }
facing Z d = record { z = d.z; y = 1; x = 1 }

-- the four places beyond a leaf's border on an axis that meet at a point of the border
abbrev pub beyond : Axis → Direction → List Direction
beyond X d =
    let at : ℕ → ℕ → Direction = λ z y. record { z = z; y = y; x = d.x } in
    at (min d.z 1) (min d.y 1) ∷ at (min d.z 1) (max d.y 1)
    ∷ at (max d.z 1) (min d.y 1) ∷ at (max d.z 1) (max d.y 1) ∷ []
beyond Y d =
    let at : ℕ → ℕ → Direction = λ z x. record { z = z; y = d.y; x = x } in
    at (min d.z 1) (min d.x 1) ∷ at (min d.z 1) (max d.x 1)
    ∷ at (max d.z 1) (min d.x 1) ∷ at (max d.z 1) (max d.x 1) ∷ []
beyond Z d =
    let at : ℕ → ℕ → Direction = λ y x. record { z = d.z; y = y; x = x } in
    at (min d.y 1) (min d.x 1) ∷ at (min d.y 1) (max d.x 1)
    ∷ at (max d.y 1) (min d.x 1) ∷ at (max d.y 1) (max d.x 1) ∷ []

-- a direction's number among the 27, by z, then y, then x, and the direction of a number
abbrev pub number : Direction → ℕ
number d = 9 * d.z + 3 * d.y + d.x

abbrev pub direction_numbered : ℕ → Direction
direction_numbered n = record { z = n / 9; y = n / 3 % 3; x = n % 3 }

-- the number of a direction's bit in a rim: its number among the 27 but for the middle one, which has none
abbrev pub rim_bit : Direction → Option ℕ
rim_bit d =
    if nat_lt (number d) STAY then Some (number d)
    else if number d == STAY then None else Some (number d - 1)
