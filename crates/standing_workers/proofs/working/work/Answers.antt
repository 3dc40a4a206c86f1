-- One more job was done, or the work ends.
use Rattle.std.proofs.Common.{ℕ, ◌+◌, [], ◌∷◌, ◌++◌, ap, subst, sym, ◌∙◌}
use Rattle.shared_queues.specs.Accounts.{with_popped}
use Rattle.shared_queues.specs.Queues.{entries}
use Rattle.standing_workers.specs.declared.job.Job.TheVariants.{Stop}
use Rattle.standing_workers.proofs.WorkLemmas.{HasWorked, seat_of, stopped-end, stopped-seat, worked-mesh, worked-none}
use Rattle.standing_workers.proofs.working.work.Goals as goal

pub loop-popped-init : goal.loop-popped-init
loop-popped-init g c = worked-none c.args.lanes.now c.args.seat c.requires

pub returns-in-Stop-clause-seat : goal.returns-in-Stop-clause-seat
returns-in-Stop-clause-seat g c =
    let took = c.wait.ensures.entries
    ∙ ap (with_popped (entries c.loop-popped.jobs)) c.in-Stop.is in
    stopped-seat c.args.lanes.now c.args.seat (seat_of c.loop-popped.jobs c.loop-popped.results)
    c.loop-popped.popped c.loop-popped.made c.loop-popped.lost c.loop-popped.invariant
    c.wait.new.account c.wait.ensures.account took

pub returns-in-Stop-clause-work : goal.returns-in-Stop-clause-work
returns-in-Stop-clause-work g c =
    let so_far = c.loop-popped.invariant in
    let took = c.wait.ensures.entries
    ∙ ap (with_popped (entries c.loop-popped.jobs)) c.in-Stop.is in (
      so_far.jobs ++ Stop ∷ [],
      so_far.outcomes,
      stopped-end c.args.lanes.now c.args.seat
          (seat_of c.loop-popped.jobs c.loop-popped.results) c.loop-popped.popped c.loop-popped.made
          c.loop-popped.lost so_far c.wait.new.account c.wait.ensures.account took,
    )

pub loop-popped-preserved : goal.loop-popped-preserved
loop-popped-preserved g c =
    let lanes = c.args.lanes.now in
    let jobs = c.wait.new.account in
    let results = c.push.new.account in
    let outcome = c.mesh-outcome.result in
    let popped = c.loop-popped.popped in
    let made = c.loop-popped.made in
    let lost = c.loop-popped.lost in
    let took = c.wait.ensures.entries
    ∙ ap (with_popped (entries c.loop-popped.jobs)) c.in-Mesh.is in
    subst (λ (y : ℕ × ℕ).
    HasWorked lanes c.args.seat (seat_of jobs results) (popped + 1) (made + y.0) (lost + y.1))
    (λ i. (sym c.made_count-made.ensures.count i, sym c.lost_count-lost.ensures.count i))
    (worked-mesh lanes c.args.seat (seat_of c.loop-popped.jobs c.loop-popped.results) popped made
    lost c.loop-popped.invariant jobs c.wait.ensures.account results c.push.ensures.account
    c.in-Mesh.ticket c.in-Mesh.brick outcome took c.push.ensures.entries c.mesh-outcome.ensures)
