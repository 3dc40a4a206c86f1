-- Each end is what the call at its seat returned.
use Rattle.standing_workers.proofs.BesideLemmas.{ends_of_seats}
use Rattle.standing_workers.proofs.beside.work_all.Goals as goal

pub returns-clause-ends : goal.returns-clause-ends
returns-clause-ends g c =
    ends_of_seats c.args.lanes.now c.args.seats.items c.in_ok-ends.ends.items
    (λ k d within.
    let job = (c.in_ok-ends.ensures.each k d within).1 in
    record { seat = job.job; seat_is = job.job_is; end_of = job.call.met })
