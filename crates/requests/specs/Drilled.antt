-- How a drill ends, and what it writes. This project's rule.
use Rattle.std.specs.Prelude.{ℕ, List}
use Rattle.drills.specs.Drill.{drill}
use Rattle.drills.specs.declared.drill.TheConstants.{DRILL_REACH}
use Rattle.arguments.specs.declared.drill.Drill.{Drill}
use Rattle.terra_io.specs.Stream.{Stream, Appends, AppendsPrefix, IsFaultless, HasFailed}
use Rattle.script_play.specs.Output.{output}
use Rattle.script_play.specs.declared.status.Status.{Status}
use Rattle.script_play.specs.declared.status.Status.TheVariants.{Done, NoMemory, WriteFault}

-- what the commands of a drill write
abbrev pub drill_output : Drill → List ℕ
drill_output asked =
    output (record { depth = asked.depth; reach = DRILL_REACH })
    (drill asked.seed asked.edits asked.depth)

-- the output of a drill was written whole, or a first part of it before memory ran out or a write failed
abbrev pub IsDrilled : Drill → Stream → Stream → Status → Type 0
IsDrilled asked sink sink' Done =
    Appends sink sink' (drill_output asked) × IsFaultless sink sink'
IsDrilled asked sink sink' NoMemory =
    AppendsPrefix sink sink' (drill_output asked) × IsFaultless sink sink'
IsDrilled asked sink sink' WriteFault =
    AppendsPrefix sink sink' (drill_output asked) × HasFailed sink sink'
IsDrilled asked sink sink' _ = ⊥
