-- What a hit says: the highest point of a surface over a place, and the first triangle that has it.
-- Source: this project's rule.
use Rattle.std.specs.Prelude.{ℕ, ◌*◌, ◌<◌, ◌≤◌}
use Rattle.lattice.specs.declared.node.Node.{Node}
use Rattle.frame_surface.specs.Heights.{Covers}
use Rattle.frame_surface.specs.Surface.{IsEarlier, Surface}
use Rattle.frame_surface.specs.declared.hit.Hit.{Hit}

-- the hit's triangle covers the hit's height
abbrev pub IsReached : Surface → ℕ → ℕ → Hit → Type 0
IsReached surface x y hit = Covers (surface hit.node hit.triangle) x y hit.num hit.den

-- no triangle covers a greater height
abbrev pub IsHighest : Surface → ℕ → ℕ → Hit → Type 0
IsHighest surface x y hit =
    (n : Node) (i num den : ℕ) → Covers (surface n i) x y num den → num * hit.den ≤ hit.num * den

-- each earlier triangle covers lower heights alone
abbrev pub IsEarliest : Surface → ℕ → ℕ → Hit → Type 0
IsEarliest surface x y hit =
    (n : Node) (i num den : ℕ) → IsEarlier n i hit.node hit.triangle
    → Covers (surface n i) x y num den → num * hit.den < hit.num * den

-- no triangle covers any height
abbrev pub IsBare : Surface → ℕ → ℕ → Type 0
IsBare surface x y = (n : Node) (i num den : ℕ) → Covers (surface n i) x y num den → ⊥
