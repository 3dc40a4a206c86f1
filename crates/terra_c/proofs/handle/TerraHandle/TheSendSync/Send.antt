-- A handle may go to another thread, since what it holds may, and the block that it frees.
use Rattle.std.proofs.Common.{Option}
use mathlib.Core.Bool.{Bool, true, false}
use mir.Raw.{raw}
use base.Shift.{Keyless}
use denote.Memory.{lone}
use denote.RawPtr.{Ptr}
use denote.Param.Send.{IsSend, owning_send, struct_send, sendable}
use denote.Builtin.{RawPtr, bool}
use denote.Struct.Struct.{exits_of}
use denote.Struct.Owning.{shape, fields, to}
use Rattle.std_alloc.proofs.SendSync.{quiet, lies}
use Rattle.std.proofs.Crossing.{frees}
use Rattle.terra_c.specs.Handle.{holds}
use Rattle.terra_c.specs.contracts.handle.TerraHandle.{the_row, the_type}
use Rattle.terra_c.specs.contracts.held.Held.{the_row as R}
use Rattle.terra_c.proofs.held.Held.TheSendSync.{the_send as held_send}

-- what a handle owns may go to another thread
kept : (is_open : Bool) (at : Ptr) (held : Option R.Denot) → Keyless (holds R is_open at held)
kept true at held = λ s. (tt, (lies R held_send at s.1, frees.frees s.0 (raw (lone R.mir)) at))
kept false at held = tt

-- so the handle may
pub send : IsSend the_row
send =
    let O = the_type in let ps : IsSend RawPtr = search sendable in let bs : IsSend bool = search
    sendable in
    owning_send O (ps, (bs, tt)) (λ d. kept d.is_open d.at d.held)
    (λ k. quiet (to O) (exits_of k (fields O)) ((struct_send (shape O) (ps, (bs, tt))).leaving k))
