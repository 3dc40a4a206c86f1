-- So far each viewer is one of the publisher's own, which has given no other, and the door has refused none.
use Rattle.std.proofs.Common.{◌≡◌, All, vec_len}
use Rattle.published_frames.specs.States.{viewer_of}
use Rattle.published_frames.proofs.opening.seat_all.Given as goal

abbrev pub invariant-loop : goal.invariant-loop
invariant-loop g l =
    (l.publisher ≡ record l.initial.publisher { viewers = l.counter })
    × (vec_len l.viewers ≡ l.counter)
    × All (λ viewer. viewer ≡ viewer_of l.initial.publisher) l.viewers.items
    × (g.D.Door.refusals l.door ≡ g.D.Door.refusals l.initial.door)
