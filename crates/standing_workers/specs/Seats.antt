-- Seats of workers, and what a worker does.
-- Source: this project's rule.
use Rattle.std.specs.Prelude.{◌≡◌, ℕ, ◌+◌, List, [], ◌++◌, Some, slice_get}
use Rattle.shared_queues.specs.Accounts.{new_entries}
use Rattle.shared_queues.specs.Queues.{IsAccountOf, entries}
use Rattle.standing_workers.specs.declared.job.Job.{Job}
use Rattle.standing_workers.specs.declared.lanes.Lanes.{Lanes}
use Rattle.standing_workers.specs.declared.outcome.Outcome.{Outcome}
use Rattle.standing_workers.specs.declared.seat.Seat.{Seat}
use Rattle.standing_workers.specs.declared.worker_end.WorkerEnd.{WorkerEnd}
use Rattle.standing_workers.specs.Jobs.{AnswerAll, lost_count, made_count, mesh_count, stop_count}

-- the jobs that a seat popped, and the outcomes that it pushed
abbrev pub popped_jobs : Seat → List Job
popped_jobs seat = (entries seat.jobs).popped

abbrev pub pushed_outcomes : Seat → List Outcome
pushed_outcomes seat = (entries seat.results).pushed

-- a seat at these queues: it only pops jobs and only pushes outcomes, and these answer those
pub record IsSeatOf (lanes : Lanes) (seat : Seat) : Type 0 where
  pub jobs : IsAccountOf lanes.jobs seat.jobs
  pub results : IsAccountOf lanes.results seat.results
  pub job_share : (entries seat.jobs).shares ≡ 1
  pub result_share : (entries seat.results).shares ≡ 1
  pub no_job : (entries seat.jobs).pushed ≡ []
  pub no_outcome : (entries seat.results).popped ≡ []
  pub answered : AnswerAll (popped_jobs seat) (pushed_outcomes seat)

-- a seat that did nothing
pub record IsNewSeat (seat : Seat) : Type 0 where
  pub jobs : entries seat.jobs ≡ new_entries
  pub results : entries seat.results ≡ new_entries

-- in between a seat popped these jobs and pushed these outcomes, which answer them
pub record Answered (old new : Seat) (jobs : List Job) (outcomes : List Outcome) : Type 0 where
  pub popped : popped_jobs new ≡ popped_jobs old ++ jobs
  pub pushed : pushed_outcomes new ≡ pushed_outcomes old ++ outcomes
  pub each : AnswerAll jobs outcomes

-- what a worker did whose seat popped these jobs and pushed these outcomes: it popped one Stop, and counted the rest
pub record IsWorkersEnd (old : Seat) (end : WorkerEnd) (jobs : List Job) (outcomes : List Outcome)
    : Type 0 where
  pub answered : Answered old end.seat jobs outcomes
  pub stop : stop_count jobs ≡ 1
  pub popped : end.popped ≡ mesh_count jobs
  pub made : end.made ≡ made_count outcomes
  pub lost : end.lost ≡ lost_count outcomes
  pub all : end.popped ≡ end.made + end.lost

-- what came of a worker at this seat of these queues
pub record IsEndOf (lanes : Lanes) (seat : Seat) (end : WorkerEnd) : Type 0 where
  pub seat_of : IsSeatOf lanes end.seat
  pub jobs : List Job
  pub outcomes : List Outcome
  pub work : IsWorkersEnd seat end jobs outcomes

-- each of these ends is that of the seat at its place
abbrev pub AreEndsOf : Lanes → List Seat → List WorkerEnd → Type 0
AreEndsOf lanes seats ends = (k : ℕ) (seat : Seat) (end : WorkerEnd)
    → slice_get seats k ≡ Some seat → slice_get ends k ≡ Some end → IsEndOf lanes seat end
