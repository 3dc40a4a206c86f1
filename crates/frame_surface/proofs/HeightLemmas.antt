-- Heights as fractions: what is at most a height is at most a greater one.
use Rattle.std.proofs.Common.{ℕ, ◌*◌, ◌<◌, ◌≤◌, arith}
use Rattle.std.specs.Prelude.{Option, None, Some}
use Rattle.std.proofs.Math.Nat.{le_of_mul-le-mul_left, mul-le-mul_left}
use Rattle.frame_surface.specs.Heights.{IsAtMost}
use Rattle.frame_surface.specs.declared.height.Height.{Height}

-- through a height between two others
pub through : (n d a b p q : ℕ) → 0 < b → n * b ≤ a * d → a * q ≤ p * b → n * q ≤ p * d
through n d a b p q some low high =
    let first : q * (n * b) ≤ q * (a * d) = mul-le-mul_left q low in
    let second : d * (a * q) ≤ d * (p * b) = mul-le-mul_left d high in
    let scaled : b * (n * q) ≤ b * (p * d) = omega (arith, first, second) in
    le_of_mul-le-mul_left scaled some

-- what is at most a height that is at most another, if there is one
pub raised : (n d a b : ℕ) (o : Option Height) → 0 < b → n * b ≤ a * d → IsAtMost a b o
    → IsAtMost n d o
raised n d a b None some low high = high
raised n d a b (Some h) some low high = through n d a b h.num h.den some low high
