-- What all workers did together.
-- Workers are taken one after another from the back of the list. A list with one worker more weighs what the list
-- weighs and what that worker did (`popped_by_all-snoc`, `pushed_by_all-snoc`). Each worker pushed as many outcomes as
-- it popped jobs to mesh, so all together did too (`all_answered`).
use Rattle.std.proofs.Common.{◌≡◌, ℕ, ◌+◌, ◌-◌, List, [], ◌∷◌, ◌++◌, length, refl, ap, ◌∙◌, subst, arith, All, append-nil, length-append}
use Rattle.std.proofs.lemmas.List.Elements.{All-head, All-tail}
use Rattle.shared_queues.specs.declared.entries.Entries.{Entries}
use Rattle.shared_queues.specs.Accounts.{WeighTheSame, IsLeft, joined_entries, weight_of}
use Rattle.shared_queues.specs.Queues.{entries}
use Rattle.shared_queues.proofs.WeightLemmas.{weight_of-append}
use Rattle.standing_workers.specs.declared.desk.Desk.{Desk}
use Rattle.standing_workers.specs.declared.job.Job.{Job}
use Rattle.standing_workers.specs.declared.lanes.Lanes.{Lanes}
use Rattle.standing_workers.specs.declared.outcome.Outcome.{Outcome}
use Rattle.standing_workers.specs.declared.tally.Tally.{Tally}
use Rattle.standing_workers.specs.declared.worker_end.WorkerEnd.{WorkerEnd}
use Rattle.standing_workers.specs.Desks.{IsDeskOf, collected_by_desk, popped_by_desk, pushed_by_desk}
use Rattle.standing_workers.specs.Jobs.{mesh_count, mesh_weight, outcome_count}
use Rattle.standing_workers.specs.Seats.{IsSeatOf, popped_jobs, pushed_outcomes}
use Rattle.standing_workers.specs.Tallies.{GetsAccounts, IsTally, popped_by_all, pushed_by_all}
use Rattle.standing_workers.proofs.AnswerLemmas.{as_many}

-- one worker more popped more jobs
pub popped_by_all-snoc : (weigh : Job → ℕ) (ends : List WorkerEnd) (end : WorkerEnd)
    → weight_of weigh (popped_by_all (ends ++ end ∷ []))
    ≡ weight_of weigh (popped_by_all ends) + weight_of weigh (popped_jobs end.seat)
popped_by_all-snoc weigh [] end =
    omega (arith, weight_of-append weigh (popped_jobs end.seat) [])
popped_by_all-snoc weigh (e ∷ ends) end =
    omega (
      arith,
      popped_by_all-snoc weigh ends end,
      weight_of-append weigh (popped_jobs e.seat) (popped_by_all ends),
      weight_of-append weigh (popped_jobs e.seat) (popped_by_all (ends ++ end ∷ [])),
    )

-- and pushed more outcomes
pub pushed_by_all-snoc : (weigh : Outcome → ℕ) (ends : List WorkerEnd) (end : WorkerEnd)
    → weight_of weigh (pushed_by_all (ends ++ end ∷ []))
    ≡ weight_of weigh (pushed_by_all ends) + weight_of weigh (pushed_outcomes end.seat)
pushed_by_all-snoc weigh [] end =
    omega (arith, weight_of-append weigh (pushed_outcomes end.seat) [])
pushed_by_all-snoc weigh (e ∷ ends) end =
    omega (
      arith,
      pushed_by_all-snoc weigh ends end,
      weight_of-append weigh (pushed_outcomes e.seat) (pushed_by_all ends),
      weight_of-append weigh (pushed_outcomes e.seat) (pushed_by_all (ends ++ end ∷ [])),
    )

-- what two accounts have got of all workers, where some of these are left
pub record GetsFrom (jobs jobs_then : Entries Job) (results results_then : Entries Outcome)
    (ends left : List WorkerEnd) : Type 0 where
  pub job_shares : jobs_then.shares + length left ≡ jobs.shares + length ends
  pub result_shares : results_then.shares + length left ≡ results.shares + length ends
  pub pushed_jobs : jobs_then.pushed ≡ jobs.pushed
  pub popped_jobs : (weigh : Job → ℕ)
      → weight_of weigh jobs_then.popped + weight_of weigh (popped_by_all left)
      ≡ weight_of weigh jobs.popped + weight_of weigh (popped_by_all ends)
  pub pushed_outcomes : (weigh : Outcome → ℕ)
      → weight_of weigh results_then.pushed + weight_of weigh (pushed_by_all left)
      ≡ weight_of weigh results.pushed + weight_of weigh (pushed_by_all ends)
  pub popped_outcomes : results_then.popped ≡ results.popped

-- at first all are left
pub gets-none : (jobs : Entries Job) (results : Entries Outcome) (ends : List WorkerEnd)
    → GetsFrom jobs jobs results results ends ends
gets-none jobs results ends = record {
  job_shares = refl;
  result_shares = refl;
  pushed_jobs = refl;
  popped_jobs = λ weigh. refl;
  pushed_outcomes = λ weigh. refl;
  popped_outcomes = refl;
}

-- one more
pub gets-one : (lanes : Lanes) (jobs jobs_then : Entries Job)
    (results results_then : Entries Outcome) (ends left : List WorkerEnd) (end : WorkerEnd)
    → IsSeatOf lanes end.seat
    → GetsFrom jobs jobs_then results results_then ends (left ++ end ∷ [])
    → GetsFrom jobs (joined_entries jobs_then (entries end.seat.jobs)) results
    (joined_entries results_then (entries end.seat.results)) ends left
gets-one lanes jobs jobs_then results results_then ends left end seat got = record {
  job_shares = omega (arith, got.job_shares, seat.job_share, length-append left (end ∷ []));
  result_shares = omega (
    arith,
    got.result_shares,
    seat.result_share,
    length-append left (end ∷ []),
  );
  pushed_jobs = ap (λ xs. jobs_then.pushed ++ xs) seat.no_job ∙ append-nil jobs_then.pushed
      ∙ got.pushed_jobs;
  popped_jobs = λ weigh.
      omega (
        arith,
        got.popped_jobs weigh,
        popped_by_all-snoc weigh left end,
        weight_of-append weigh jobs_then.popped (popped_jobs end.seat),
      );
  pushed_outcomes = λ weigh.
      omega (
        arith,
        got.pushed_outcomes weigh,
        pushed_by_all-snoc weigh left end,
        weight_of-append weigh results_then.pushed (pushed_outcomes end.seat),
      );
  popped_outcomes = ap (λ xs. results_then.popped ++ xs) seat.no_outcome
      ∙ append-nil results_then.popped ∙ got.popped_outcomes;
}

-- where none is left, all is got
pub gets-all : (jobs jobs_then : Entries Job) (results results_then : Entries Outcome)
    (ends left : List WorkerEnd) → left ≡ []
    → GetsFrom jobs jobs_then results results_then ends left
    → GetsAccounts jobs jobs_then results results_then ends
gets-all jobs jobs_then results results_then ends left none got =
    let all = subst (GetsFrom jobs jobs_then results results_then ends) none got in record {
      job_shares = omega (arith, all.job_shares);
      result_shares = omega (arith, all.result_shares);
      pushed_jobs = all.pushed_jobs;
      popped_jobs = λ weigh.
          omega (
            arith,
            all.popped_jobs weigh,
            weight_of-append weigh jobs.popped (popped_by_all ends),
          );
      pushed_outcomes = λ weigh.
          omega (
            arith,
            all.pushed_outcomes weigh,
            weight_of-append weigh results.pushed (pushed_by_all ends),
          );
      popped_outcomes = all.popped_outcomes;
    }

-- all workers pushed as many outcomes as they popped jobs to mesh
pub all_answered : (lanes : Lanes) (ends : List WorkerEnd)
    → All (λ (end : WorkerEnd). IsSeatOf lanes end.seat) ends
    → outcome_count (pushed_by_all ends) ≡ mesh_count (popped_by_all ends)
all_answered lanes [] each = refl
all_answered lanes (end ∷ ends) each =
    let IsHere = λ (e : WorkerEnd). IsSeatOf lanes e.seat in
    let here = All-head IsHere end ends each in
    let rest = all_answered lanes ends (All-tail IsHere end ends each) in
    omega (
      arith,
      rest,
      as_many (popped_jobs end.seat) (pushed_outcomes end.seat) here.answered,
      weight_of-append mesh_weight (popped_jobs end.seat) (popped_by_all ends),
      weight_of-append (λ (o : Outcome). 1) (pushed_outcomes end.seat) (pushed_by_all ends),
    )

module _ (lanes : Lanes) (desk : Desk) (ends : List WorkerEnd) (is_desk : IsDeskOf lanes desk)
    (seats : All (λ (end : WorkerEnd). IsSeatOf lanes end.seat) ends) (jobs : Entries Job)
    (results : Entries Outcome)
    (got : GetsAccounts (entries desk.jobs) jobs (entries desk.results) results ends)
    (left_jobs : List Job) (left_outcomes : List Outcome) (are_jobs : IsLeft jobs left_jobs)
    (are_outcomes : IsLeft results left_outcomes) where
  -- each job that was pushed was popped, or is left
  jobs_add_up : WeighTheSame (pushed_by_desk desk)
      (popped_by_desk desk ++ popped_by_all ends ++ left_jobs)
  jobs_add_up weigh =
      omega (
        arith,
        ap (weight_of weigh) got.pushed_jobs,
        are_jobs weigh,
        got.popped_jobs weigh,
        weight_of-append weigh jobs.popped left_jobs,
        weight_of-append weigh (popped_by_desk desk ++ popped_by_all ends) left_jobs,
      )

  -- so is each outcome
  outcomes_add_up : WeighTheSame (pushed_by_all ends) (collected_by_desk desk ++ left_outcomes)
  outcomes_add_up weigh =
      omega (
        arith,
        ap (weight_of weigh) got.popped_outcomes,
        are_outcomes weigh,
        got.pushed_outcomes weigh,
        weight_of-append weigh results.popped left_outcomes,
        weight_of-append weigh (entries desk.results).pushed (pushed_by_all ends),
        ap (weight_of weigh) is_desk.counted.no_outcome,
        weight_of-append weigh (collected_by_desk desk) left_outcomes,
      )

  -- what was issued was collected or is left
  pub issued_are : desk.issued
      ≡ desk.collected + (mesh_count left_jobs + outcome_count left_outcomes)
  issued_are =
      omega (
        arith,
        is_desk.counted.issued_are,
        is_desk.counted.collected_are,
        jobs_add_up mesh_weight,
        outcomes_add_up (λ (o : Outcome). 1),
        all_answered lanes ends seats,
        weight_of-append mesh_weight (popped_by_desk desk ++ popped_by_all ends) left_jobs,
        weight_of-append mesh_weight (popped_by_desk desk) (popped_by_all ends),
        weight_of-append (λ (o : Outcome). 1) (collected_by_desk desk) left_outcomes,
      )

  -- so that is the tally
  pub tallied : (tally : Tally) → tally.issued ≡ desk.issued → tally.collected ≡ desk.collected
      → tally.left ≡ desk.issued - desk.collected
      → IsTally desk ends tally left_jobs left_outcomes
  tallied tally issued collected left =
      let all = issued_are in record {
        jobs_add_up = jobs_add_up;
        outcomes_add_up = outcomes_add_up;
        issued = omega (arith, is_desk.counted.issued_are);
        collected = omega (arith, is_desk.counted.collected_are);
        left = omega arith;
        all = omega arith;
      }

-- a list without length has nothing
pub none_of : (ends : List WorkerEnd) → length ends ≡ 0 → ends ≡ []
none_of [] none = refl
none_of (end ∷ ends) none = absurd (omega arith)
