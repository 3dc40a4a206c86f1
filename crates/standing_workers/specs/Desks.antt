-- The engine's desk at the queues of its workers.
-- Source: this project's rule.
use Rattle.std.specs.Prelude.{◌≡◌, ℕ, ◌+◌, ◌-◌, ◌≤◌, List, []}
use Rattle.shared_queues.specs.declared.entries.Entries.{Entries}
use Rattle.shared_queues.specs.Accounts.{all_shares}
use Rattle.shared_queues.specs.Queues.{IsAccountOf, entries}
use Rattle.standing_workers.specs.declared.desk.Desk.{Desk}
use Rattle.standing_workers.specs.declared.desk.TheConstants.{MAX_OUTSTANDING, MAX_TICKETS}
use Rattle.standing_workers.specs.declared.job.Job.{Job}
use Rattle.standing_workers.specs.declared.lanes.Lanes.{Lanes}
use Rattle.standing_workers.specs.declared.lanes.TheConstants.{MAX_SEATS}
use Rattle.standing_workers.specs.declared.outcome.Outcome.{Outcome}
use Rattle.standing_workers.specs.Jobs.{AreNumberedFrom, mesh_count, outcome_count, stop_count}

-- the jobs that a desk pushed, those that it popped itself, and the outcomes that it popped
abbrev pub pushed_by_desk : Desk → List Job
pushed_by_desk desk = (entries desk.jobs).pushed

abbrev pub popped_by_desk : Desk → List Job
popped_by_desk desk = (entries desk.jobs).popped

abbrev pub collected_by_desk : Desk → List Outcome
collected_by_desk desk = (entries desk.results).popped

-- how many tickets are outstanding, by two accounts: jobs that were pushed, less jobs and outcomes that were popped
abbrev pub outstanding_of : Entries Job → Entries Outcome → ℕ
outstanding_of jobs results =
    mesh_count jobs.pushed - (mesh_count jobs.popped + outcome_count results.popped)

abbrev pub outstanding : Desk → ℕ
outstanding desk = outstanding_of (entries desk.jobs) (entries desk.results)

-- a desk's numbers are those of its accounts: its seats have one share each and it has the others, it pushes no
-- outcome, tickets count up from 0, it counts the jobs that it pushed, and the jobs and outcomes that it popped, and
-- no more tickets are outstanding than may be
pub record AreCounted (jobs : Entries Job) (results : Entries Outcome)
    (seats issued collected : ℕ) : Type 0 where
  pub job_shares : jobs.shares + seats ≡ all_shares
  pub result_shares : results.shares + seats ≡ all_shares
  pub seats_in : seats ≤ MAX_SEATS
  pub no_outcome : results.pushed ≡ []
  pub tickets : AreNumberedFrom 0 jobs.pushed
  pub issued_are : issued ≡ mesh_count jobs.pushed
  pub collected_are : collected ≡ mesh_count jobs.popped + outcome_count results.popped
  pub few : outstanding_of jobs results ≤ MAX_OUTSTANDING
  pub issued_in : issued ≤ MAX_TICKETS
  pub collected_in : collected ≤ MAX_TICKETS

-- a desk at these queues
pub record IsDeskOf (lanes : Lanes) (desk : Desk) : Type 0 where
  pub jobs : IsAccountOf lanes.jobs desk.jobs
  pub results : IsAccountOf lanes.results desk.results
  pub counted : AreCounted (entries desk.jobs) (entries desk.results) desk.seats desk.issued
      desk.collected

-- a desk that pushed no Stop yet
abbrev pub IsOpen : Desk → Type 0
IsOpen desk = stop_count (pushed_by_desk desk) ≡ 0

-- a desk that did nothing, of so many seats
pub record IsNewDesk (desk : Desk) (seats : ℕ) : Type 0 where
  pub seats_are : desk.seats ≡ seats
  pub pushed : pushed_by_desk desk ≡ []
  pub popped : popped_by_desk desk ≡ []
  pub collected : collected_by_desk desk ≡ []
