-- What was seen may go to any thread, since it owns nothing.
use denote.RattleType.{RattleType}
use denote.Param.Send.{IsSend}
use Rattle.block_mesh.specs.contracts.seen.Seen.{the_row}

-- so it is `Send`
pub send : (T : RattleType) → IsSend (the_row T)
send T = record {
  owned = λ d vs. ((λ vss. (tt, ((λ uss. (tt, tt)), tt))), tt);
  leaving = λ k f vs. tt;
}
