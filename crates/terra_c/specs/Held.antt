-- What a handle holds, and calls that are for a world.
-- Source: this project's rule.
use Rattle.std.specs.Prelude.{◌≡◌, ℕ, MatchOption, Option, Some, None}
use Rattle.std.specs.Arc.{arc_value}
use Rattle.block_mesh.specs.Done.{DoneState}
use Rattle.terrain.specs.Blocks.{Brick}
use Rattle.snapshots.specs.Frame.{FrameState}
use Rattle.terra_world.specs.Game.{GameState}
use Rattle.terra_c.specs.declared.held.Held.{Held}
use Rattle.terra_c.specs.declared.held.Held.TheVariants.{Empty, World, Job, Made, Frame}
use Rattle.terra_c.specs.declared.status.TheConstants.{NOT_HELD}

-- the frame of a world that is held, or the frame that is
abbrev pub frame_of : Held → Option FrameState
frame_of Empty = None
frame_of (World world) = Some world.frame
frame_of (Job job) = None
frame_of (Made done) = None
frame_of (Frame frame) = Some frame

abbrev pub frame_in : Option Held → Option FrameState
frame_in None = None
frame_in (Some held) = frame_of held

-- the world that is held
abbrev pub world_of : Held → Option GameState
world_of Empty = None
world_of (World world) = Some world
world_of (Job job) = None
world_of (Made done) = None
world_of (Frame frame) = None

abbrev pub world_in : Option Held → Option GameState
world_in None = None
world_in (Some held) = world_of held

-- the brick of a job that is held, and the block of one that was made
abbrev pub job_of : Held → Option Brick
job_of Empty = None
job_of (World world) = None
job_of (Job job) = Some job
job_of (Made done) = None
job_of (Frame frame) = None

abbrev pub job_in : Option Held → Option Brick
job_in None = None
job_in (Some held) = job_of held

abbrev pub made_of : Held → Option DoneState
made_of Empty = None
made_of (World world) = None
made_of (Job job) = None
made_of (Made done) = Some done
made_of (Frame frame) = None

abbrev pub made_in : Option Held → Option DoneState
made_in None = None
made_in (Some held) = made_of held

-- a call does this with a world, and answers so, and it is held then; where none is held it changes nothing and says
-- that
abbrev pub does_at : (GameState → GameState → ℕ → Type 0) → Option Held → Option Held → ℕ
    → Option GameState → Type 0
does_at Does held after status None = (after ≡ held) × (status ≡ NOT_HELD)
does_at Does held after status (Some old) =
    MatchOption (world_in after) ⊥ (λ new. Does old new status)

-- the same of the world that is held
abbrev pub OnWorld : (GameState → GameState → ℕ → Type 0) → Option Held → Option Held → ℕ
    → Type 0
OnWorld Does held after status = does_at Does held after status (world_in held)
