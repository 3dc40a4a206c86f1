-- Threads may share what was seen, since it owns nothing.
use denote.RattleType.{RattleType}
use denote.Param.Send.{IsSync, part_keyless}
use Rattle.block_mesh.specs.contracts.seen.Seen.{the_row}
use Rattle.block_mesh.proofs.seen.Seen.TheSendSync.Send.{send}

-- so it is `Sync`
pub sync : (T : RattleType) → IsSync (the_row T)
sync T = record { shared = λ d b o κ q. part_keyless (the_row T) (send T) q d b o }
