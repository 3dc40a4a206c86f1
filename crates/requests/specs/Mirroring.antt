-- How a run ends that mirrors a wire. This project's rule.
use Rattle.std.specs.Prelude.{◌≡◌, Result, Ok, Err}
use Rattle.terra_io.specs.Stream.{Stream}
use Rattle.mirrors.specs.declared.refusal.MirrorRefusal.{MirrorRefusal}
use Rattle.mirrors.specs.Mirrored.{IsMirrored, IsMirroredAtLimit, Mirrored}
use Rattle.script_play.specs.declared.status.Status.{Status}
use Rattle.script_play.specs.declared.status.Status.TheVariants.{Done}
use Rattle.script_play.specs.Statuses.{refusal_status}

-- the status of a wire that was mirrored, or not
abbrev pub mirror_status : Result (Unit {0}) MirrorRefusal → Status
mirror_status (Ok done) = Done
mirror_status (Err refusal) = refusal_status refusal

-- a wire was mirrored, and the status is that of how it ended: by the table, and the other way round
pub record HasMirrored (source source' sink sink' : Stream) (status : Status) : Type 0 where
  pub result : Result (Unit {0}) MirrorRefusal
  pub status_is : status ≡ mirror_status result
  pub table : Mirrored source source' sink sink' result
  pub exact : IsMirrored source source' sink sink' result
  pub limit : IsMirroredAtLimit source source' sink sink' result
