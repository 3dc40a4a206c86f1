-- Triangles that stand upright over a place or have no area: by their marks on a line, each with a height. This
-- project's rule.
use Rattle.std.specs.Prelude.{◌≡◌, ℕ, ◌*◌, ◌≤◌, List, length, map}
use Rattle.lattice.specs.declared.point.Pos.{Pos}
use Rattle.frame_surface.specs.Heights.{weight_sum, weighed}
use Rattle.frame_surface.specs.Turns.{MAX_COORDINATE}
use Rattle.frame_surface.specs.declared.line.Mark.{Mark}

-- the mark of a position by its x, and by its y
abbrev pub by_x : Pos → Mark
by_x p = record { at = p.x; z = p.z }

abbrev pub by_y : Pos → Mark
by_y p = record { at = p.y; z = p.z }

-- marks cover a height num / den at a place on their line: it is their mean there by some whole weights, one for each,
-- whose sum is den
pub record CoversOnLine (marks : List Mark) (at num den : ℕ) : Type 0 where
  pub weights : List ℕ
  pub each : length weights ≡ length marks
  pub some : 1 ≤ den
  pub sum_is : weight_sum weights ≡ den
  pub at_is : weighed weights (map (λ (m : Mark). m.at) marks) ≡ at * den
  pub z_is : weighed weights (map (λ (m : Mark). m.z) marks) ≡ num

-- a mark whose place and height are in a world
pub record IsSmallMark (m : Mark) : Type 0 where
  pub at : m.at ≤ MAX_COORDINATE
  pub z : m.z ≤ MAX_COORDINATE
