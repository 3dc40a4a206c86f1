-- What a worker has done so far, and after one job more.
-- Jobs and outcomes are kept as two lists, by which the accounts of the seat grew; the outcomes answer the jobs
-- (`worked-mesh`). A Stop ends the work (`stopped-end`).
use Rattle.std.proofs.Common.{◌≡◌, ℕ, ◌+◌, List, [], ◌∷◌, ◌++◌, refl, sym, ap, ◌∙◌, subst, append_assoc, append-nil, arith}
use Rattle.terrain.specs.Blocks.{Brick}
use Rattle.shared_queues.specs.declared.account.Account.{Account}
use Rattle.shared_queues.specs.declared.entries.Entries.{Entries}
use Rattle.shared_queues.specs.Accounts.{with_popped, with_pushed}
use Rattle.shared_queues.specs.Queues.{IsAccountOf, entries}
use Rattle.shared_queues.proofs.WeightLemmas.{weight_of-snoc}
use Rattle.standing_workers.specs.declared.job.Job.{Job}
use Rattle.standing_workers.specs.declared.job.Job.TheVariants.{Mesh, Stop}
use Rattle.standing_workers.specs.declared.lanes.Lanes.{Lanes}
use Rattle.standing_workers.specs.declared.outcome.Outcome.{Outcome}
use Rattle.standing_workers.specs.declared.outcome.Outcome.TheVariants.{Lost, Made}
use Rattle.standing_workers.specs.declared.seat.Seat.{Seat}
use Rattle.standing_workers.specs.Jobs.{AnswerAll, Answers, lost_count, lost_weight, made_count, made_weight, mesh_count, mesh_weight, stop_count, stop_weight}
use Rattle.standing_workers.specs.Seats.{Answered, IsWorkersEnd, IsSeatOf, popped_jobs, pushed_outcomes}
use Rattle.standing_workers.proofs.AnswerLemmas.{answered-mesh, answered-stop}

-- a seat of these accounts
abbrev pub seat_of : Account Job → Account Outcome → Seat
seat_of jobs results = record { jobs = jobs; results = results }

-- what was done so far: these jobs were popped, none of them a Stop, and these outcomes pushed
pub record HasWorked (lanes : Lanes) (old new : Seat) (popped made lost : ℕ) : Type 0 where
  pub seat : IsSeatOf lanes new
  pub jobs : List Job
  pub outcomes : List Outcome
  pub answered : Answered old new jobs outcomes
  pub no_stop : stop_count jobs ≡ 0
  pub popped_are : popped ≡ mesh_count jobs
  pub made_are : made ≡ made_count outcomes
  pub lost_are : lost ≡ lost_count outcomes
  pub all : popped ≡ made + lost

-- nothing was done
pub worked-none : (lanes : Lanes) (seat : Seat) → IsSeatOf lanes seat
    → HasWorked lanes seat seat 0 0 0
worked-none lanes seat is = record {
  seat = is;
  jobs = [];
  outcomes = [];
  answered = record {
    popped = sym (append-nil (popped_jobs seat));
    pushed = sym (append-nil (pushed_outcomes seat));
    each = tt;
  };
  no_stop = refl;
  popped_are = refl;
  made_are = refl;
  lost_are = refl;
  all = refl;
}

-- each outcome is made or lost
one_of : (outcome : Outcome) → made_weight outcome + lost_weight outcome ≡ 1
one_of (Made ticket done) = refl
one_of (Lost ticket node) = refl

module _ (lanes : Lanes) (old new : Seat) (popped made lost : ℕ)
    (done : HasWorked lanes old new popped made lost) (jobs : Account Job)
    (jobs_are : IsAccountOf lanes.jobs jobs) where
  -- one more job to mesh was popped, and its outcome was pushed
  pub worked-mesh : (results : Account Outcome) → IsAccountOf lanes.results results
      → (ticket : ℕ) (brick : Brick) (outcome : Outcome)
      → entries jobs ≡ with_popped (entries new.jobs) (Mesh ticket brick)
      → entries results ≡ with_pushed (entries new.results) outcome
      → Answers ticket brick outcome
      → HasWorked lanes old (seat_of jobs results) (popped + 1) (made + made_weight outcome)
      (lost + lost_weight outcome)
  worked-mesh results results_are ticket brick outcome took gave answers =
      let job = Mesh ticket brick in
      let popped_now = ap (λ (e : Entries Job). e.popped) took in
      let pushed_now = ap (λ (e : Entries Outcome). e.pushed) gave in record {
        seat = record {
          jobs = jobs_are;
          results = results_are;
          job_share = ap (λ (e : Entries Job). e.shares) took ∙ done.seat.job_share;
          result_share = ap (λ (e : Entries Outcome). e.shares) gave ∙ done.seat.result_share;
          no_job = ap (λ (e : Entries Job). e.pushed) took ∙ done.seat.no_job;
          no_outcome = ap (λ (e : Entries Outcome). e.popped) gave ∙ done.seat.no_outcome;
          answered = subst (λ (y : List Job × List Outcome). AnswerAll y.0 y.1)
              (λ i. (sym popped_now i, sym pushed_now i))
              (answered-mesh (popped_jobs new) (pushed_outcomes new) ticket brick outcome
              done.seat.answered answers);
        };
        jobs = done.jobs ++ job ∷ [];
        outcomes = done.outcomes ++ outcome ∷ [];
        answered = record {
          popped = popped_now ∙ ap (λ xs. xs ++ job ∷ []) done.answered.popped
              ∙ append_assoc (popped_jobs old) done.jobs (job ∷ []);
          pushed = pushed_now ∙ ap (λ xs. xs ++ outcome ∷ []) done.answered.pushed
              ∙ append_assoc (pushed_outcomes old) done.outcomes (outcome ∷ []);
          each = answered-mesh done.jobs done.outcomes ticket brick outcome done.answered.each
              answers;
        };
        no_stop = omega (arith, done.no_stop, weight_of-snoc stop_weight done.jobs job);
        popped_are = omega (arith, done.popped_are, weight_of-snoc mesh_weight done.jobs job);
        made_are = omega (arith, done.made_are, weight_of-snoc made_weight done.outcomes outcome);
        lost_are = omega (arith, done.lost_are, weight_of-snoc lost_weight done.outcomes outcome);
        all = omega (arith, done.all, one_of outcome);
      }

  -- a Stop was popped: it's a seat still
  pub stopped-seat : entries jobs ≡ with_popped (entries new.jobs) Stop
      → IsSeatOf lanes (seat_of jobs new.results)
  stopped-seat took = record {
    jobs = jobs_are;
    results = done.seat.results;
    job_share = ap (λ (e : Entries Job). e.shares) took ∙ done.seat.job_share;
    result_share = done.seat.result_share;
    no_job = ap (λ (e : Entries Job). e.pushed) took ∙ done.seat.no_job;
    no_outcome = done.seat.no_outcome;
    answered = subst (λ (xs : List Job). AnswerAll xs (pushed_outcomes new))
        (sym (ap (λ (e : Entries Job). e.popped) took))
        (answered-stop (popped_jobs new) (pushed_outcomes new) done.seat.answered);
  }

  -- and the work has ended
  pub stopped-end : entries jobs ≡ with_popped (entries new.jobs) Stop
      → IsWorkersEnd old
      (record { seat = seat_of jobs new.results; popped = popped; made = made; lost = lost })
      (done.jobs ++ Stop ∷ []) done.outcomes
  stopped-end took = record {
    answered = record {
      popped = ap (λ (e : Entries Job). e.popped) took
          ∙ ap (λ xs. xs ++ Stop ∷ []) done.answered.popped
          ∙ append_assoc (popped_jobs old) done.jobs (Stop ∷ []);
      pushed = done.answered.pushed;
      each = answered-stop done.jobs done.outcomes done.answered.each;
    };
    stop = omega (arith, done.no_stop, weight_of-snoc stop_weight done.jobs Stop);
    popped = omega (arith, done.popped_are, weight_of-snoc mesh_weight done.jobs Stop);
    made = done.made_are;
    lost = done.lost_are;
    all = done.all;
  }
