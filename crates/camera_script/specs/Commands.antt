-- Which commands a world takes. This project's rule.
use Rattle.std.specs.Prelude.{ℕ, ◌*◌, ◌≤◌}
use Rattle.lattice.specs.declared.point.TheConstants.{UNITS}
use Rattle.lattice.specs.Settings.{world_side}
use Rattle.terrain.specs.History.{IsLawfulEvent}
use Rattle.camera_script.specs.declared.commands.Command.{Command}
use Rattle.camera_script.specs.declared.commands.Command.TheVariants.{Event, Shot, Stats, Pick}

-- an event that is asked for is lawful, and a place that is picked is in the world
abbrev pub IsAllowedCommand : ℕ → Command → Type 0
IsAllowedCommand depth (Event event) = IsLawfulEvent depth event
IsAllowedCommand depth (Shot normals) = Unit {0}
IsAllowedCommand depth Stats = Unit {0}
IsAllowedCommand depth (Pick x y) =
    (x ≤ UNITS * world_side depth) × (y ≤ UNITS * world_side depth)
