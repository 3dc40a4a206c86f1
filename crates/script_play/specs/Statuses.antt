-- The status for each way in which a part of a run ends. This project's rule.
use Rattle.std.specs.Prelude.{ℕ, Result, Ok, Err}
use Rattle.camera_script.specs.declared.fault.LineFault.{LineFault}
use Rattle.camera_script.specs.declared.fault.LineFault.TheVariants as faults
use Rattle.mesh_out.specs.declared.fault.OutFault.{OutFault}
use Rattle.mesh_out.specs.declared.fault.OutFault.TheVariants as out
use Rattle.mirrors.specs.declared.refusal.MirrorRefusal.{MirrorRefusal}
use Rattle.mirrors.specs.declared.refusal.MirrorRefusal.TheVariants as refusals
use Rattle.script_play.specs.declared.refusal.ReadRefusal.{ReadRefusal}
use Rattle.script_play.specs.declared.refusal.ReadRefusal.TheVariants as reading
use Rattle.script_play.specs.declared.status.Status.{Status}
use Rattle.script_play.specs.declared.status.Status.TheVariants.{Done, NoMemory, BadScript, ReadFault, WriteFault, InputLimit, BadWire, CutWire}

-- the status of a script that was carried out to its end, or not
abbrev pub status_from : Result (Unit {0}) Status → Status
status_from (Ok done) = Done
status_from (Err status) = status

-- the status of a line that is refused, unless memory ran out
abbrev pub refused_status : ℕ → LineFault → Status
refused_status line faults.NoMemory = NoMemory
refused_status line fault = BadScript line fault

-- of a run for which no further line came
abbrev pub reading_status : ReadRefusal → Status
reading_status reading.ReadFault = ReadFault
reading_status reading.InputLimit = InputLimit
reading_status (reading.TooLong line) = BadScript line faults.TooLong

-- of one whose output wasn't written whole
abbrev pub writing_status : OutFault → Status
writing_status out.NoMemory = NoMemory
writing_status out.WriteFault = WriteFault

-- the status of a wire that wasn't mirrored
abbrev pub refusal_status : MirrorRefusal → Status
refusal_status refusals.NoMemory = NoMemory
refusal_status refusals.ReadFault = ReadFault
refusal_status refusals.WriteFault = WriteFault
refusal_status refusals.InputLimit = InputLimit
refusal_status (refusals.BadWire at fault) = BadWire at fault
refusal_status refusals.CutWire = CutWire
