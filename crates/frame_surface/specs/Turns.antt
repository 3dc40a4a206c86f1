-- Weights of a triangle's corners by the turns at a place: each corner counts as much as the area of the triangle of
-- the place and the two other corners.
-- Source: barycentric coordinates by areas; this project's rule.
use Rattle.std.specs.Prelude.{◌≡◌, ℕ, ◌+◌, ◌*◌, ◌≤◌}
use Rattle.lattice.specs.declared.point.Pos.{Pos}
use Rattle.lattice.specs.declared.point.TheConstants.{UNITS}
use Rattle.lattice.specs.declared.settings.TheConstants.{MAX_SIDE}
use Rattle.frame_surface.specs.declared.spot.Spot.{Spot}
use Rattle.frame_surface.specs.declared.turns.Turn.{Turn}
use Rattle.frame_surface.specs.declared.turns.Weights.{Weights}

-- no coordinate of a position is greater
abbrev pub MAX_COORDINATE : ℕ
MAX_COORDINATE = UNITS * MAX_SIDE

-- a place that is in a world
pub record IsSpot (at : Spot) : Type 0 where
  pub x : at.x ≤ MAX_COORDINATE
  pub y : at.y ≤ MAX_COORDINATE

-- a position that is in a world
pub record IsSmallPos (p : Pos) : Type 0 where
  pub x : p.x ≤ MAX_COORDINATE
  pub y : p.y ≤ MAX_COORDINATE
  pub z : p.z ≤ MAX_COORDINATE

-- the turn at a place from p to q: left less right is twice the area of the triangle of the three, counted positive
-- where the turn is counter-clockwise
abbrev pub left_of : Pos → Pos → Spot → ℕ
left_of p q at = p.x * q.y + q.x * at.y + at.x * p.y

abbrev pub right_of : Pos → Pos → Spot → ℕ
right_of p q at = q.x * p.y + p.x * at.y + at.x * q.y

abbrev pub turn_of : Pos → Pos → Spot → Turn
turn_of p q at = record { left = left_of p q at; right = right_of p q at }

-- the place is the mean of three corners by these weights
pub record AreMean (p q r : Pos) (at : Spot) (a b c : ℕ) : Type 0 where
  pub x : a * p.x + b * q.x + c * r.x ≡ at.x * (a + b + c)
  pub y : a * p.y + b * q.y + c * r.y ≡ at.y * (a + b + c)

-- the place and any two of three corners lie on a line
pub record IsFlat (p q r : Pos) (at : Spot) : Type 0 where
  pub qr : left_of q r at ≡ right_of q r at
  pub rp : left_of r p at ≡ right_of r p at
  pub pq : left_of p q at ≡ right_of p q at

-- weights of three corners: the place is their mean, any others of which it is the mean are in the same ratio, and
-- where all of them are 0 the place and any two corners lie on a line
pub record AreWeights (p q r : Pos) (at : Spot) (w : Weights) : Type 0 where
  pub mean : AreMean p q r at w.p w.q w.r
  pub p_ratio : (a b c : ℕ) → AreMean p q r at a b c
      → a * (w.p + w.q + w.r) ≡ (a + b + c) * w.p
  pub q_ratio : (a b c : ℕ) → AreMean p q r at a b c
      → b * (w.p + w.q + w.r) ≡ (a + b + c) * w.q
  pub r_ratio : (a b c : ℕ) → AreMean p q r at a b c
      → c * (w.p + w.q + w.r) ≡ (a + b + c) * w.r
  pub flat : w.p + w.q + w.r ≡ 0 → IsFlat p q r at
