-- The number of a direction leads back to the direction.
use Rattle.std.proofs.Common.{◌≡◌, ◌+◌, ◌*◌, ◌/◌, ◌%◌, ◌<◌, ◌≤◌, arith}
use Rattle.lattice.specs.Offset.{Direction}
use Rattle.vertex_places.specs.Directions.{number, direction_numbered}

-- each direction has a number below 27
pub number-most : (d : Direction) → d.z ≤ 2 → d.y ≤ 2 → d.x ≤ 2 → number d < 27
number-most d hz hy hx = omega arith

-- the direction of a direction's number is the direction
pub numbered-number : (d : Direction) → d.z ≤ 2 → d.y ≤ 2 → d.x ≤ 2
    → direction_numbered (number d) ≡ d
numbered-number d hz hy hx =
    let z : (9 * d.z + 3 * d.y + d.x) / 9 ≡ d.z = omega arith in
    let y : (9 * d.z + 3 * d.y + d.x) / 3 % 3 ≡ d.y = omega arith in
    let x : (9 * d.z + 3 * d.y + d.x) % 3 ≡ d.x = omega arith in
    λ t. record { z = z t; y = y t; x = x t }
