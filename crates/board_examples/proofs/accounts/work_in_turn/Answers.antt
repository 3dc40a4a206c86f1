-- One more seat worked.
use Rattle.std.proofs.Common.{Some, arith, rules}
use Rattle.std.proofs.lemmas.List.Elements.{All-pop, All-push, All-same}
use Rattle.standing_workers.specs.declared.worker_end.WorkerEnd.{WorkerEnd}
use Rattle.standing_workers.specs.Seats.{IsSeatOf}
use Rattle.board_examples.proofs.accounts.work_in_turn.Goals as goal

pub work-end-requires : goal.work-end-requires
work-end-requires g c = (
  search rules,
  (All-pop (IsSeatOf c.args.lanes.now) c.loop-seat.left.items c.pop.new.self.items
      (Some c.in-Some.seat) c.in-Some.ensures.items c.loop-seat.invariant.seats).1,
)

pub loop-seat-preserved : goal.loop-seat-preserved
loop-seat-preserved g c =
    let lanes = c.args.lanes.now in
    let so_far = c.loop-seat.invariant in
    let IsEnded = λ (end : WorkerEnd). IsSeatOf lanes end.seat in
    let parts = All-pop (IsSeatOf lanes) c.loop-seat.left.items c.pop.new.self.items
    (Some c.in-Some.seat) c.in-Some.ensures.items so_far.seats in record {
      seats = parts.0;
      ended = All-same IsEnded _ _ c.in_ok-push.ensures.items
          (All-push IsEnded c.loop-seat.ends.items c.work-end.result so_far.ended
          c.work-end.ensures.seat);
      count = omega (arith, so_far.count, c.in_ok-push.ensures.len, c.in-Some.ensures.cases);
    }
