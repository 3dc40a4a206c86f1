-- Why a wire isn't read to its end, by the fault of its replica or of the output. This project's rule.
use Rattle.std.specs.Prelude.{ℕ}
use Rattle.mesh_out.specs.declared.fault.OutFault.{OutFault}
use Rattle.mesh_out.specs.declared.fault.OutFault.TheVariants as out
use Rattle.replicas.specs.declared.fault.WireFault.{WireFault}
use Rattle.replicas.specs.declared.fault.WireFault.TheVariants as faults
use Rattle.mirrors.specs.declared.refusal.MirrorRefusal.{MirrorRefusal}
use Rattle.mirrors.specs.declared.refusal.MirrorRefusal.TheVariants.{NoMemory, WriteFault, BadWire}

-- the refusal of a field with which so many bytes were taken, unless memory ran out
abbrev pub refusal_of : ℕ → WireFault → MirrorRefusal
refusal_of at faults.NoMemory = NoMemory
refusal_of at fault = BadWire at fault

-- the refusal of a wire whose text wasn't written whole
abbrev pub writing_refusal : OutFault → MirrorRefusal
writing_refusal out.NoMemory = NoMemory
writing_refusal out.WriteFault = WriteFault
