-- What is told of a frame's surface.
-- Source: this project's rule.
use Rattle.std.specs.Prelude.{◌≡◌, ◌↔◌, ◌*◌, ◌≤◌, ℕ}
use Rattle.lattice.specs.declared.point.TheConstants.{UNITS}
use Rattle.lattice.specs.Settings.{world_side}
use Rattle.snapshots.specs.Frame.{FrameState}
use Rattle.frame_surface.specs.Best.{IsBare, IsEarliest, IsHighest, IsReached}
use Rattle.frame_surface.specs.Surface.{surface_after}
use Rattle.frame_surface.specs.declared.hit.Hit.{Hit}
use Rattle.terra_c.specs.declared.shapes.TerraHit.{TerraHit}
use Rattle.terra_c.specs.declared.status.TheConstants.{DONE, NO_SURFACE, NOT_LAWFUL}
use Rattle.terra_c.specs.Shapes.{hit_of_c}

-- a place is over the world of a frame
pub record IsOverWorld (frame : FrameState) (at_x at_y : ℕ) : Type 0 where
  pub x : at_x ≤ UNITS * world_side frame.settings.depth
  pub y : at_y ≤ UNITS * world_side frame.settings.depth

-- no triangle of a frame covers any height over a place
abbrev pub IsBareIn : FrameState → ℕ → ℕ → Type 0
IsBareIn frame x y = IsBare (surface_after frame.settings frame.events) x y

-- a hit is the highest point of a frame's surface over a place, in the first triangle that has it
pub record IsHitIn (frame : FrameState) (x y : ℕ) (hit : Hit) : Type 0 where
  pub reached : IsReached (surface_after frame.settings frame.events) x y hit
  pub highest : IsHighest (surface_after frame.settings frame.events) x y hit
  pub first : IsEarliest (surface_after frame.settings frame.events) x y hit

-- a place over the world is picked: its hit is told, or that no triangle covers any height there
pub record Picks (frame : FrameState) (x y : ℕ) (hit hit' : TerraHit) (status : ℕ) : Type 0 where
  pub done : (status ≡ DONE) ↔ (IsOverWorld frame x y × (IsBareIn frame x y → ⊥))
  pub bare : (status ≡ NO_SURFACE) ↔ (IsOverWorld frame x y × IsBareIn frame x y)
  pub beyond : (status ≡ NOT_LAWFUL) ↔ (IsOverWorld frame x y → ⊥)
  pub told : status ≡ DONE → IsHitIn frame x y (hit_of_c hit')
  pub others : (status ≡ DONE → ⊥) → hit' ≡ hit
