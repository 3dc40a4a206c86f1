-- Settings: the depths and reaches that a world may have, and its side.
-- Source: blocks of 16 x 16 x 16 cells in levels by Lengyel (2010); the limits are this project's rule.
use Rattle.std.specs.Prelude.{ℕ, ◌*◌, ◌^◌, ◌≤◌}
use Rattle.lattice.specs.declared.node.TheConstants.{CELLS}
use Rattle.lattice.specs.declared.settings.Settings.{Settings}
use Rattle.lattice.specs.declared.settings.TheConstants.{MAX_DEPTH, MAX_REACH}

-- a depth that a world may have: at most MAX_DEPTH
abbrev pub IsDepth : ℕ → Type 0
IsDepth depth = depth ≤ MAX_DEPTH

-- settings that a world may have: such a depth, and a reach of at most MAX_REACH
pub record IsSettings (settings : Settings) : Type 0 where
  pub depth : IsDepth settings.depth
  pub reach : settings.reach ≤ MAX_REACH

-- the side of the world, in fine cells: 16 times 2 to the depth
abbrev pub world_side : ℕ → ℕ
world_side depth = CELLS * 2 ^ depth
