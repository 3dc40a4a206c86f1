-- A desk's numbers after each of its steps are those of its accounts still.
-- Each step adds one item to one list of one account, so one count rises by one and the others stay. A job to mesh has
-- the number of jobs before it as its ticket. A Stop counts as none.
use Rattle.std.proofs.Common.{ℕ, ◌+◌, ◌^◌, ◌<◌, arith}
use Rattle.terrain.specs.Blocks.{Brick}
use Rattle.shared_queues.specs.declared.entries.Entries.{Entries}
use Rattle.shared_queues.specs.Accounts.{with_popped, with_pushed}
use Rattle.shared_queues.proofs.WeightLemmas.{weight_of-snoc}
use Rattle.standing_workers.specs.declared.job.Job.{Job}
use Rattle.standing_workers.specs.declared.job.Job.TheVariants.{Mesh, Stop}
use Rattle.standing_workers.specs.declared.outcome.Outcome.{Outcome}
use Rattle.standing_workers.specs.Desks.{AreCounted, outstanding_of}
use Rattle.standing_workers.specs.Jobs.{mesh_weight}
use Rattle.standing_workers.proofs.AnswerLemmas.{numbered-mesh, numbered-stop}

module _ (jobs : Entries Job) (results : Entries Outcome) (seats issued collected : ℕ)
    (old : AreCounted jobs results seats issued collected) where
  -- a job to mesh is pushed
  pub counted-handed : (brick : Brick) → outstanding_of jobs results < 64 → issued < 2 ^ 61
      → AreCounted (with_pushed jobs (Mesh issued brick)) results seats (issued + 1) collected
  counted-handed brick few room =
      let more = weight_of-snoc mesh_weight jobs.pushed (Mesh issued brick) in record {
        job_shares = old.job_shares;
        result_shares = old.result_shares;
        seats_in = old.seats_in;
        no_outcome = old.no_outcome;
        tickets = numbered-mesh 0 jobs.pushed issued brick old.tickets
            (omega (arith, old.issued_are));
        issued_are = omega (arith, old.issued_are);
        collected_are = old.collected_are;
        few = omega (arith, old.issued_are);
        issued_in = omega arith;
        collected_in = old.collected_in;
      }

  -- a Stop is pushed
  pub counted-stop : AreCounted (with_pushed jobs Stop) results seats issued collected
  counted-stop =
      let more = weight_of-snoc mesh_weight jobs.pushed Stop in record {
        job_shares = old.job_shares;
        result_shares = old.result_shares;
        seats_in = old.seats_in;
        no_outcome = old.no_outcome;
        tickets = numbered-stop 0 jobs.pushed old.tickets;
        issued_are = omega (arith, old.issued_are);
        collected_are = old.collected_are;
        few = omega (arith, old.few);
        issued_in = old.issued_in;
        collected_in = old.collected_in;
      }

  -- an outcome is popped
  pub counted-collected : (outcome : Outcome) → collected < 2 ^ 61
      → AreCounted jobs (with_popped results outcome) seats issued (collected + 1)
  counted-collected outcome room =
      let more = weight_of-snoc (λ (o : Outcome). 1) results.popped outcome in record {
        job_shares = old.job_shares;
        result_shares = old.result_shares;
        seats_in = old.seats_in;
        no_outcome = old.no_outcome;
        tickets = old.tickets;
        issued_are = old.issued_are;
        collected_are = omega (arith, old.collected_are);
        few = omega (arith, old.few);
        issued_in = old.issued_in;
        collected_in = omega arith;
      }

  -- a job to mesh is popped
  pub counted-taken : (ticket : ℕ) (brick : Brick) → collected < 2 ^ 61
      → AreCounted (with_popped jobs (Mesh ticket brick)) results seats issued (collected + 1)
  counted-taken ticket brick room =
      let more = weight_of-snoc mesh_weight jobs.popped (Mesh ticket brick) in record {
        job_shares = old.job_shares;
        result_shares = old.result_shares;
        seats_in = old.seats_in;
        no_outcome = old.no_outcome;
        tickets = old.tickets;
        issued_are = old.issued_are;
        collected_are = omega (arith, old.collected_are);
        few = omega (arith, old.few);
        issued_in = old.issued_in;
        collected_in = omega arith;
      }

  -- a Stop is popped
  pub counted-stopped : AreCounted (with_popped jobs Stop) results seats issued collected
  counted-stopped =
      let more = weight_of-snoc mesh_weight jobs.popped Stop in record {
        job_shares = old.job_shares;
        result_shares = old.result_shares;
        seats_in = old.seats_in;
        no_outcome = old.no_outcome;
        tickets = old.tickets;
        issued_are = old.issued_are;
        collected_are = omega (arith, old.collected_are);
        few = omega (arith, old.few);
        issued_in = old.issued_in;
        collected_in = old.collected_in;
      }
