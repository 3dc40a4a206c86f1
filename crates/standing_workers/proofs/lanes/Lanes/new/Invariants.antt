-- The seats so far are new ones, and each account has fewer shares by as many.
use Rattle.std.proofs.Common.{◌≡◌, ◌+◌, [], All, vec_len}
use Rattle.shared_queues.specs.Accounts.{all_shares}
use Rattle.shared_queues.specs.Queues.{IsAccountOf, entries}
use Rattle.standing_workers.specs.Seats.{IsNewSeat, IsSeatOf}
use Rattle.standing_workers.proofs.lanes.Lanes.new.Given as goal

abbrev pub invariant-loop-number : goal.invariant-loop-number
invariant-loop-number l = record {
  jobs : IsAccountOf l.lanes.jobs l.job_account;
  results : IsAccountOf l.lanes.results l.result_account;
  job_shares : (entries l.job_account).shares + l.number ≡ all_shares;
  result_shares : (entries l.result_account).shares + l.number ≡ all_shares;
  no_job : (entries l.job_account).pushed ≡ [];
  none_taken : (entries l.job_account).popped ≡ [];
  no_outcome : (entries l.result_account).pushed ≡ [];
  none_collected : (entries l.result_account).popped ≡ [];
  seats : All (IsSeatOf l.lanes) l.seats.items;
  new_seats : All IsNewSeat l.seats.items;
  count : vec_len l.seats ≡ l.number;
}
