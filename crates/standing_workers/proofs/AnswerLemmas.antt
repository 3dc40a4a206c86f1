-- Outcomes answer jobs and tickets count up, with one job more.
-- Each lemma goes down the list of jobs: at a Stop the outcomes stay, at a job to mesh the first outcome goes too. So
-- there are as many outcomes as jobs to mesh (`as_many`).
use Rattle.std.proofs.Common.{◌≡◌, ℕ, ◌+◌, List, [], ◌∷◌, ◌++◌, refl, arith}
use Rattle.terrain.specs.Blocks.{Brick}
use Rattle.standing_workers.specs.declared.job.Job.{Job}
use Rattle.standing_workers.specs.declared.job.Job.TheVariants.{Mesh, Stop}
use Rattle.standing_workers.specs.declared.outcome.Outcome.{Outcome}
use Rattle.standing_workers.specs.Jobs.{AnswerAll, Answers, AreNumberedFrom, mesh_count, outcome_count}

-- one more job to mesh, with its outcome
pub answered-mesh : (jobs : List Job) (outcomes : List Outcome) (ticket : ℕ) (brick : Brick)
    (outcome : Outcome) → AnswerAll jobs outcomes → Answers ticket brick outcome
    → AnswerAll (jobs ++ Mesh ticket brick ∷ []) (outcomes ++ outcome ∷ [])
answered-mesh [] [] ticket brick outcome each here = (here, tt)
answered-mesh [] (o ∷ os) ticket brick outcome each here = absurd each
answered-mesh (Stop ∷ jobs) outcomes ticket brick outcome each here =
    answered-mesh jobs outcomes ticket brick outcome each here
answered-mesh (Mesh t b ∷ jobs) [] ticket brick outcome each here = absurd each
answered-mesh (Mesh t b ∷ jobs) (o ∷ os) ticket brick outcome each here =
    (each.0, answered-mesh jobs os ticket brick outcome each.1 here)

-- one more Stop
pub answered-stop : (jobs : List Job) (outcomes : List Outcome) → AnswerAll jobs outcomes
    → AnswerAll (jobs ++ Stop ∷ []) outcomes
answered-stop [] [] each = tt
answered-stop [] (o ∷ os) each = absurd each
answered-stop (Stop ∷ jobs) outcomes each = answered-stop jobs outcomes each
answered-stop (Mesh t b ∷ jobs) [] each = absurd each
answered-stop (Mesh t b ∷ jobs) (o ∷ os) each = (each.0, answered-stop jobs os each.1)

-- what was answered before, and what was since
pub answered-append : (jobs : List Job) (outcomes : List Outcome) (more : List Job)
    (others : List Outcome) → AnswerAll jobs outcomes → AnswerAll more others
    → AnswerAll (jobs ++ more) (outcomes ++ others)
answered-append [] [] more others each rest = rest
answered-append [] (o ∷ os) more others each rest = absurd each
answered-append (Stop ∷ jobs) outcomes more others each rest =
    answered-append jobs outcomes more others each rest
answered-append (Mesh t b ∷ jobs) [] more others each rest = absurd each
answered-append (Mesh t b ∷ jobs) (o ∷ os) more others each rest =
    (each.0, answered-append jobs os more others each.1 rest)

-- as many outcomes as jobs to mesh
pub as_many : (jobs : List Job) (outcomes : List Outcome) → AnswerAll jobs outcomes
    → outcome_count outcomes ≡ mesh_count jobs
as_many [] [] each = refl
as_many [] (o ∷ os) each = absurd each
as_many (Stop ∷ jobs) outcomes each = omega (arith, as_many jobs outcomes each)
as_many (Mesh t b ∷ jobs) [] each = absurd each
as_many (Mesh t b ∷ jobs) (o ∷ os) each = omega (arith, as_many jobs os each.1)

-- the next ticket goes on from the others
pub numbered-mesh : (n : ℕ) (jobs : List Job) (ticket : ℕ) (brick : Brick)
    → AreNumberedFrom n jobs → ticket ≡ n + mesh_count jobs
    → AreNumberedFrom n (jobs ++ Mesh ticket brick ∷ [])
numbered-mesh n [] ticket brick each next = (omega arith, tt)
numbered-mesh n (Stop ∷ jobs) ticket brick each next =
    numbered-mesh n jobs ticket brick each (omega arith)
numbered-mesh n (Mesh t b ∷ jobs) ticket brick each next =
    (each.0, numbered-mesh (n + 1) jobs ticket brick each.1 (omega arith))

-- a Stop has no ticket
pub numbered-stop : (n : ℕ) (jobs : List Job) → AreNumberedFrom n jobs
    → AreNumberedFrom n (jobs ++ Stop ∷ [])
numbered-stop n [] each = tt
numbered-stop n (Stop ∷ jobs) each = numbered-stop n jobs each
numbered-stop n (Mesh t b ∷ jobs) each = (each.0, numbered-stop (n + 1) jobs each.1)
