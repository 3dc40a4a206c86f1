-- The taken job is held in the place of what was held.
use Rattle.std.proofs.Common.{◌≡◌, ℕ, Option, Some, refl, sym, ◌∙◌, subst}
use Rattle.std.proofs.lemmas.Bool.{false≢true}
use Rattle.terra_world.specs.Game.{GameState}
use Rattle.terra_c.specs.Held.{OnWorld}
use Rattle.terra_c.specs.Jobs.{TakesJob}
use Rattle.terra_c.specs.declared.held.Held.{Held}
use Rattle.terra_c.specs.declared.held.Held.TheVariants.{World}
use Rattle.terra_c.specs.declared.status.TheConstants.{DONE}
use Rattle.terra_c.proofs.jobs.take_job.Goals as goal

-- a job that was taken into room is held by any handle that has the room then
moved : (room room' job : Option Held) (old new : GameState) (status : ℕ) → status ≡ DONE
    → TakesJob room room' old new status → TakesJob job room' old new status
moved room room' job old new status done takes = record {
  answers = takes.answers;
  done = takes.done;
  only = takes.only;
  nothing = takes.nothing;
  kept = λ other. absurd (other done);
  world = takes.world;
}

-- a handle is as it was where no job was taken
left : (room room' job : Option Held) (old new : GameState) (status : ℕ) → (status ≡ DONE → ⊥)
    → TakesJob room room' old new status → TakesJob job job old new status
left room room' job old new status other takes = record {
  answers = takes.answers;
  done = λ is. absurd (other is);
  only = takes.only;
  nothing = takes.nothing;
  kept = λ _. refl;
  world = takes.world;
}

pub take_into-status-requires : goal.take_into-status-requires
take_into-status-requires c =
    λ none. false≢true (sym c.if-wants_nothing.false ∙ c.wants_nothing.ensures.1 none)

pub returns-then-status-eq-DONE-clause-taken : goal.returns-then-status-eq-DONE-clause-taken
returns-then-status-eq-DONE-clause-taken c =
    let job = c.args.job.now.held in
    let old = c.in-World.world in
    let new = c.take_into-status.new.world in
    let status = c.take_into-status.result in
    subst (λ held. OnWorld (TakesJob job c.put.new.handle.held) (Some held) (Some (World new))
    status) (sym c.in-World.is)
    (subst (λ taken. TakesJob job taken old new status) (sym c.put.ensures)
    (moved _ _ job old new status c.if-status-eq-DONE.true c.take_into-status.ensures))

pub returns-clause-taken : goal.returns-clause-taken
returns-clause-taken c =
    let job = c.args.job.now.held in
    let old = c.in-World.world in
    let new = c.take_into-status.new.world in
    let status = c.take_into-status.result in
    subst (λ held. OnWorld (TakesJob job job) (Some held) (Some (World new)) status)
    (sym c.in-World.is)
    (left _ _ job old new status c.if-status-eq-DONE.false c.take_into-status.ensures)
