-- Drills: the commands that a generator makes from a number.
-- Source: the generator's constants are those of Numerical Recipes (Press et al. 1992); all else is this project's.
use Rattle.std.specs.Prelude.{ℕ, zero, suc, ◌+◌, ◌*◌, ◌/◌, ◌%◌, ◌^◌, ◌≤◌, min, List, [], ◌∷◌, ◌==◌, if◌then◌else◌}
use Rattle.lattice.specs.declared.point.Point.{Point}
use Rattle.lattice.specs.Settings.{world_side}
use Rattle.terrain.specs.declared.brush.Brush.TheVariants.{Cuboid, Ball, Ground, Smooth}
use Rattle.terrain.specs.declared.brush.Mode.{Mode}
use Rattle.terrain.specs.declared.brush.Mode.TheVariants.{Fill, Carve}
use Rattle.terrain.specs.declared.event.Event.{Event}
use Rattle.terrain.specs.declared.event.Event.TheVariants.{Edit, Camera}
use Rattle.camera_script.specs.declared.commands.Command.{Command}
use Rattle.camera_script.specs.declared.commands.Command.TheVariants as command
use Rattle.drills.specs.declared.drill.TheConstants.{MAX_DRILL_DEPTH, STATS_STEP}
use Rattle.drills.specs.declared.generator.TheConstants.{INCREMENT, KINDS, MAX_EXTENT, MULTIPLIER}

-- a depth that the world of a drill may have: at most MAX_DRILL_DEPTH
abbrev pub IsDrillDepth : ℕ → Type 0
IsDrillDepth depth = depth ≤ MAX_DRILL_DEPTH

-- the state after a state
unfoldable pub next_state : ℕ → ℕ
next_state state = (state * MULTIPLIER + INCREMENT) % 2 ^ 32

-- the state after more draws
abbrev pub after_draws : ℕ → ℕ → ℕ
after_draws zero state = state
after_draws (suc count) state = after_draws count (next_state state)

-- a number below a count, by a state: the state's share of 2^32 of the count, rounded down
abbrev pub picked : ℕ → ℕ → ℕ
picked count state = state * count / 2 ^ 32

-- whether a brush fills or carves, by a state
abbrev pub mode_from : ℕ → Mode
mode_from state = if picked 2 state == 0 then Fill else Carve

-- how many states a point is made by
abbrev pub point_draws : ℕ
point_draws = 3

-- how many an event is made by
abbrev pub event_draws : ℕ
event_draws = 7

-- a point of the world, by the three states after a state
abbrev pub picked_point : ℕ → ℕ → Point
picked_point depth state =
    let coordinate : ℕ → ℕ = λ count. picked (world_side depth + 1) (after_draws count state) in
    record { z = coordinate 3; y = coordinate 2; x = coordinate 1 }

-- the point that is an extent further on each axis, but no further than the world's end
abbrev pub far_corner : ℕ → Point → ℕ → Point
far_corner depth at extent =
    let far : ℕ → ℕ = λ c. min (c + extent) (world_side depth) in
    record { z = far at.z; y = far at.y; x = far at.x }

-- an event of one of four kinds, in a mode, at a point and of an extent
abbrev pub event_of : ℕ → ℕ → Mode → Point → ℕ → Event
event_of depth kind mode at extent =
    if kind == 0 then Edit (Cuboid mode at (far_corner depth at extent))
    else if kind == 1 then Edit (Ball mode at extent)
    else if kind == 2 then Edit (Smooth at (far_corner depth at extent))
    else Camera 0 at

-- the event by the seven states after a state: its kind, its mode, its point, its extent; the last is for nothing
abbrev pub event_from : ℕ → ℕ → Event
event_from depth state =
    event_of depth (picked KINDS (after_draws 1 state)) (mode_from (after_draws 2 state))
    (picked_point depth (after_draws 2 state)) (picked MAX_EXTENT (after_draws 6 state) + 1)

-- a line of stats after every eighth edit
abbrev pub stats_after : ℕ → List Command → List Command
stats_after done rest = if done % STATS_STEP == 0 then command.Stats ∷ rest else rest

-- so many edits more, where some were made, and a line of stats at the end
abbrev pub edits_from : ℕ → ℕ → ℕ → ℕ → List Command
edits_from depth zero done state = command.Stats ∷ []
edits_from depth (suc left) done state =
    command.Event (event_from depth state)
    ∷ stats_after (done + 1) (edits_from depth left (done + 1) (after_draws event_draws state))

-- the script of a drill by its seed, its number of edits and its depth: a ground of half the world's height, so many
-- events with a line of stats after every STATS_STEP-th, and a line of stats at the end
abbrev pub drill : ℕ → ℕ → ℕ → List Command
drill seed edits depth =
    command.Event (Edit (Ground Fill (world_side depth / 2))) ∷ edits_from depth edits 0 seed
