-- What of a wire is in a world.
-- Source: this project's rule.
use Rattle.std.specs.Prelude.{ℕ, ◌*◌, ◌≤◌, All}
use Rattle.lattice.specs.declared.point.Pos.{Pos}
use Rattle.lattice.specs.declared.point.TheConstants.{UNITS}
use Rattle.lattice.specs.Key.{IsKey}
use Rattle.lattice.specs.Node.{IsNode}
use Rattle.lattice.specs.Settings.{world_side}
use Rattle.replicas.specs.Grammar.{WireBlock}

-- a position in a world: no coordinate is beyond the side, in units
pub record IsPosition (depth : ℕ) (at : Pos) : Type 0 where
  pub x : at.x ≤ UNITS * world_side depth
  pub y : at.y ≤ UNITS * world_side depth
  pub z : at.z ≤ UNITS * world_side depth

-- a block of a world: its node is one of the world's, and so are the keys and the positions of its mesh
pub record IsOfWorld (depth : ℕ) (block : WireBlock) : Type 0 where
  pub node : IsNode depth block.node
  pub keys : All (IsKey depth) block.mesh.keys
  pub positions : All (IsPosition depth) block.mesh.positions
