-- Jobs and their outcomes.
-- Source: this project's rule.
use Rattle.std.specs.Prelude.{◌≡◌, ℕ, ◌+◌, List, [], ◌∷◌}
use Rattle.std.specs.Arc.{arc_value}
use Rattle.terrain.specs.Blocks.{Brick}
use Rattle.shared_queues.specs.Accounts.{weight_of}
use Rattle.standing_workers.specs.declared.job.Job.{Job}
use Rattle.standing_workers.specs.declared.job.Job.TheVariants.{Mesh, Stop}
use Rattle.standing_workers.specs.declared.outcome.Outcome.{Outcome}
use Rattle.standing_workers.specs.declared.outcome.Outcome.TheVariants.{Lost, Made}

-- 1 for a job to mesh, 0 for a Stop; and the other way round
abbrev pub mesh_weight : Job → ℕ
mesh_weight (Mesh ticket brick) = 1
mesh_weight Stop = 0

abbrev pub stop_weight : Job → ℕ
stop_weight (Mesh ticket brick) = 0
stop_weight Stop = 1

-- 1 for a mesh that was made, 0 for a lost one; and the other way round
abbrev pub made_weight : Outcome → ℕ
made_weight (Made ticket done) = 1
made_weight (Lost ticket node) = 0

abbrev pub lost_weight : Outcome → ℕ
lost_weight (Made ticket done) = 0
lost_weight (Lost ticket node) = 1

-- how many of these jobs are to mesh, and how many to stop
abbrev pub mesh_count : List Job → ℕ
mesh_count jobs = weight_of mesh_weight jobs

abbrev pub stop_count : List Job → ℕ
stop_count jobs = weight_of stop_weight jobs

-- how many of these outcomes there are, with a mesh, and lost
abbrev pub outcome_count : List Outcome → ℕ
outcome_count outcomes = weight_of (λ (outcome : Outcome). 1) outcomes

abbrev pub made_count : List Outcome → ℕ
made_count outcomes = weight_of made_weight outcomes

abbrev pub lost_count : List Outcome → ℕ
lost_count outcomes = weight_of lost_weight outcomes

-- the tickets of the jobs to mesh count up from a number
abbrev pub AreNumberedFrom : ℕ → List Job → Type 0
AreNumberedFrom n [] = Unit {0}
AreNumberedFrom n (Stop ∷ jobs) = AreNumberedFrom n jobs
AreNumberedFrom n (Mesh ticket brick ∷ jobs) = (ticket ≡ n) × AreNumberedFrom (n + 1) jobs

-- an outcome answers a job to mesh a brick: it has the job's ticket, and the brick with its mesh, or the brick's node
abbrev pub Answers : ℕ → Brick → Outcome → Type 0
Answers ticket brick (Made number done) = (number ≡ ticket) × (done.brick ≡ brick)
Answers ticket brick (Lost number node) = (number ≡ ticket) × (node ≡ brick.node)

-- outcomes answer jobs: each job to mesh has one, in the order of jobs, and a Stop has none
abbrev pub AnswerAll : List Job → List Outcome → Type 0
AnswerAll [] [] = Unit {0}
AnswerAll [] (outcome ∷ outcomes) = ⊥
AnswerAll (Stop ∷ jobs) outcomes = AnswerAll jobs outcomes
AnswerAll (Mesh ticket brick ∷ jobs) [] = ⊥
AnswerAll (Mesh ticket brick ∷ jobs) (outcome ∷ outcomes) =
    Answers ticket brick outcome × AnswerAll jobs outcomes
