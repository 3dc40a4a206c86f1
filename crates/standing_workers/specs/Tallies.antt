-- The tally of all work.
-- Source: this project's rule.
use Rattle.std.specs.Prelude.{◌≡◌, ◌+◌, List, [], ◌∷◌, ◌++◌, length}
use Rattle.shared_queues.specs.declared.entries.Entries.{Entries}
use Rattle.shared_queues.specs.Accounts.{WeighTheSame}
use Rattle.standing_workers.specs.declared.desk.Desk.{Desk}
use Rattle.standing_workers.specs.declared.job.Job.{Job}
use Rattle.standing_workers.specs.declared.outcome.Outcome.{Outcome}
use Rattle.standing_workers.specs.declared.tally.Tally.{Tally}
use Rattle.standing_workers.specs.declared.worker_end.WorkerEnd.{WorkerEnd}
use Rattle.standing_workers.specs.Desks.{collected_by_desk, popped_by_desk, pushed_by_desk}
use Rattle.standing_workers.specs.Jobs.{mesh_count, outcome_count}
use Rattle.standing_workers.specs.Seats.{popped_jobs, pushed_outcomes}

-- the jobs that all these workers popped
abbrev pub popped_by_all : List WorkerEnd → List Job
popped_by_all [] = []
popped_by_all (end ∷ ends) = popped_jobs end.seat ++ popped_by_all ends

-- and the outcomes that they pushed
abbrev pub pushed_by_all : List WorkerEnd → List Outcome
pushed_by_all [] = []
pushed_by_all (end ∷ ends) = pushed_outcomes end.seat ++ pushed_by_all ends

-- two accounts got those of all these workers' seats: they have these shares too, each job that the one shows as
-- popped now is, as often, one that it showed or that a worker popped, and it shows no other pushed job; so it is with
-- the outcomes that the other one shows as pushed
pub record GetsAccounts (jobs jobs_then : Entries Job) (results results_then : Entries Outcome)
    (ends : List WorkerEnd) : Type 0 where
  pub job_shares : jobs_then.shares ≡ jobs.shares + length ends
  pub result_shares : results_then.shares ≡ results.shares + length ends
  pub pushed_jobs : jobs_then.pushed ≡ jobs.pushed
  pub popped_jobs : WeighTheSame jobs_then.popped (jobs.popped ++ popped_by_all ends)
  pub pushed_outcomes : WeighTheSame results_then.pushed (results.pushed ++ pushed_by_all ends)
  pub popped_outcomes : results_then.popped ≡ results.popped

-- the tally of a desk and its workers: some jobs and outcomes are left, and each job that was pushed is, as often,
-- popped by the desk or by workers, or left; so is each outcome
pub record IsTally (desk : Desk) (ends : List WorkerEnd) (tally : Tally) (jobs : List Job)
    (outcomes : List Outcome) : Type 0 where
  pub jobs_add_up : WeighTheSame (pushed_by_desk desk)
      (popped_by_desk desk ++ popped_by_all ends ++ jobs)
  pub outcomes_add_up : WeighTheSame (pushed_by_all ends) (collected_by_desk desk ++ outcomes)
  pub issued : tally.issued ≡ mesh_count (pushed_by_desk desk)
  pub collected : tally.collected
      ≡ mesh_count (popped_by_desk desk) + outcome_count (collected_by_desk desk)
  pub left : tally.left ≡ mesh_count jobs + outcome_count outcomes
  pub all : tally.issued ≡ tally.collected + tally.left
