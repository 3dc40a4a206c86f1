-- The ends of workers, seat by seat: what each call at a seat returns is the end of that seat.
use Rattle.std.proofs.Common.{◌≡◌, ℕ, ◌<◌, ◌∙◌, List, length, get_or, subst, sym}
use Rattle.std.proofs.lemmas.Option.{get_or_from_slice_get, slice_get_within}
use Rattle.standing_workers.specs.declared.lanes.Lanes.{Lanes}
use Rattle.standing_workers.specs.declared.seat.Seat.{Seat}
use Rattle.standing_workers.specs.declared.worker_end.WorkerEnd.{WorkerEnd}
use Rattle.standing_workers.specs.Seats.{AreEndsOf, IsEndOf}

-- what a call at the seat of a place returned
pub record IsEndAt (lanes : Lanes) (seats : List Seat) (k : ℕ) (end : WorkerEnd) : Type 0 where
  pub seat : Seat
  pub seat_is : (d : Seat) → get_or seats k d ≡ seat
  pub end_of : IsEndOf lanes seat end

-- so each of these ends is that of its seat
pub ends_of_seats : (lanes : Lanes) (seats : List Seat) (ends : List WorkerEnd)
    → ((k : ℕ) (d : WorkerEnd) → k < length seats → IsEndAt lanes seats k (get_or ends k d))
    → AreEndsOf lanes seats ends
ends_of_seats lanes seats ends each k seat end at at_end =
    let one = each k end (slice_get_within seats k seat at) in
    let here : one.seat ≡ seat =
    sym (one.seat_is seat) ∙ get_or_from_slice_get seats k seat seat at in
    let there : get_or ends k end ≡ end = get_or_from_slice_get ends k end end at_end in
    subst (λ s. IsEndOf lanes s end) here (subst (IsEndOf lanes one.seat) there one.end_of)
