-- Rounds, and what threads make of their leaves.
-- Source: this project's rule.
use Rattle.std.specs.Prelude.{◌≡◌, List, All}
use Rattle.std.specs.Arc.{arc_value}
use Rattle.field_pages.specs.Pages.{Pages, sample_at}
use Rattle.lattice.specs.declared.node.Node.{Node}
use Rattle.octree.specs.SplitBits.{SplitBits, split_at}
use Rattle.terrain.specs.Blocks.{brick}
use Rattle.terrain.specs.Levels.{IsBalanced, IsLeaf}
use Rattle.block_mesh.specs.Done.{DoneState}
use Rattle.mesh_board.specs.Board.{BoardState}
use Rattle.mesh_jobs.specs.declared.round.Haul.{Haul}

-- a round: a field, a level map, and some leaves of it
pub record RoundState : Type 0 where
  pub version : Pages
  pub levels : SplitBits
  pub leaves : List Node

-- a node is a leaf of a round's level map
abbrev pub IsRoundLeaf : RoundState → Node → Type 0
IsRoundLeaf round n = IsLeaf round.levels.depth (split_at round.levels) n

-- what every round keeps: the field and the level map are of one world, the map is balanced, and the leaves are leaves
pub record IsRound (round : RoundState) : Type 0 where
  pub depth : round.version.depth ≡ round.levels.depth
  pub balanced : IsBalanced round.levels.depth (split_at round.levels)
  pub leaves : All (IsRoundLeaf round) round.leaves

-- a block is of a leaf of a round's level map, and has its brick
pub record IsMadeOf (round : RoundState) (done : DoneState) : Type 0 where
  pub leaf : IsRoundLeaf round done.brick.node
  pub same : done.brick ≡ brick round.levels.depth (sample_at round.version)
      (split_at round.levels) done.brick.node

-- all blocks of a haul are such
abbrev pub IsHaulOf : RoundState → Haul → Type 0
IsHaulOf round haul = All (λ done. IsMadeOf round (arc_value done)) haul.made.items

-- a round is of a board's field and level map
pub record IsRoundOf (board : BoardState) (round : RoundState) : Type 0 where
  pub version : round.version ≡ board.world.version
  pub levels : round.levels ≡ board.world.levels
