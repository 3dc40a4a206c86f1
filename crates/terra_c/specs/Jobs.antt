-- What calls do with jobs, and with frames that are shared.
-- Source: this project's rule.
use Rattle.std.specs.Prelude.{◌≡◌, ◌≢◌, ◌↔◌, ◌⊎◌, ℕ, MatchOption, Option, Some, None}
use Rattle.lattice.specs.declared.node.Node.{Node}
use Rattle.block_mesh.specs.Done.{DoneState}
use Rattle.mesh_board.specs.Board.{Delivers, Takes, state_of}
use Rattle.mesh_board.specs.LeafStates.{recalled, wanted}
use Rattle.mesh_board.specs.declared.verdict.Verdict.TheVariants.{Kept, Stale}
use Rattle.snapshots.specs.Frame.{FrameState}
use Rattle.terrain.specs.Blocks.{Brick}
use Rattle.terra_world.specs.Game.{GameState}
use Rattle.terra_c.specs.declared.held.Held.{Held}
use Rattle.terra_c.specs.declared.held.Held.TheVariants.{Frame}
use Rattle.terra_c.specs.declared.status.TheConstants.{DONE, NO_MEMORY, NOTHING, NOT_HELD, STALE}
use Rattle.terra_c.specs.Held.{job_in, made_in}

-- the next wanted brick of a world is taken as a job; where there is none, or memory runs out, all is as it was
pub record TakesJob (job job' : Option Held) (old new : GameState) (status : ℕ) : Type 0 where
  pub answers : (status ≡ DONE) ⊎ ((status ≡ NOTHING) ⊎ (status ≡ NO_MEMORY))
  pub done : status ≡ DONE → MatchOption (job_in job') ⊥ (Takes old.board new.board)
  pub only : new ≡ record old { board = new.board }
  pub nothing : (status ≡ NOTHING) ↔ ((n : Node) → state_of old.board n ≢ wanted)
  pub kept : (status ≡ DONE → ⊥) → job' ≡ job
  pub world : (status ≡ DONE → ⊥) → new ≡ old

-- a job is made: its block has its brick; where memory runs out it is as it was
pub record MakesJob (brick : Brick) (before after : Option Held) (status : ℕ) : Type 0 where
  pub answers : (status ≡ DONE) ⊎ (status ≡ NO_MEMORY)
  pub done : status ≡ DONE → MatchOption (made_in after) ⊥ (λ block. block.brick ≡ brick)
  pub others : status ≡ NO_MEMORY → after ≡ before

-- a block is handed in: it is kept where its brick is the present one, and else all is as it was
pub record HandsBlock (block : DoneState) (old new : GameState) (status : ℕ) : Type 0 where
  pub only : new ≡ record old { board = new.board }
  pub verdict : ((status ≡ DONE) × Delivers old.board new.board block Kept)
      ⊎ ((status ≡ STALE) × Delivers old.board new.board block Stale)

-- what a handle has that should hold a made job is handed in, if it does, and the handle has nothing then
abbrev pub HandsIn : Option Held → Option Held → GameState → GameState → ℕ → Type 0
HandsIn job after old new status =
    MatchOption (made_in job) ((after ≡ job) × (new ≡ old) × (status ≡ NOT_HELD))
    (λ block. (after ≡ None) × HandsBlock block old new status)

-- a handle holds a frame then, or what it held, where memory ran out
pub record Shares (frame : FrameState) (before after : Option Held) (status : ℕ) : Type 0 where
  pub answers : (status ≡ DONE) ⊎ (status ≡ NO_MEMORY)
  pub done : status ≡ DONE → after ≡ Some (Frame frame)
  pub others : status ≡ NO_MEMORY → after ≡ before

-- each leaf that was out is wanted
pub record Recalls (old new : GameState) (status : ℕ) : Type 0 where
  pub answers : status ≡ DONE
  pub only : new ≡ record old { board = new.board }
  pub world : new.board.world ≡ old.board.world
  pub marked : new.board.marked ≡ old.board.marked
  pub states : (n : Node) → state_of new.board n ≡ recalled (state_of old.board n)
