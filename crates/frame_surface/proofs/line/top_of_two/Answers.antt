-- The same marks the other way round cover the same, and two marks on one side cover nothing.
use Rattle.std.proofs.Common.{inl, inr, arith}
use Rattle.frame_surface.proofs.MarkLemmas.{aside, covers-turned}
use Rattle.frame_surface.proofs.line.top_of_two.Goals as goal
use Rattle.frame_surface.proofs.line.top_of_two.Goals.{else-a-at-via-then-a-at+else-at-b, else-a-at-via-else-a-at, else-b-at-via-then-b-at+else-at-a, else-b-at-via-else-b-at}

pub returns-then-at-a-clause-covers : goal.returns-then-at-a-clause-covers
returns-then-at-a-clause-covers c =
    let top = c.top_between-then-at-a in
    covers-turned c.args.b c.args.a c.args.at top.result.num top.result.den top.ensures.covers

pub returns-then-at-a-clause-greatest : goal.returns-then-at-a-clause-greatest
returns-then-at-a-clause-greatest c n d covers =
    c.top_between-then-at-a.ensures.greatest n d
    (covers-turned c.args.a c.args.b c.args.at n d covers)

pub returns-else-b-at-clause-greatest : goal.returns-else-b-at-clause-greatest
returns-else-b-at-clause-greatest c n d =
    aside c.args.a c.args.b c.args.at n d
    (elim c.else-a-at.branch [
      | else-a-at-via-then-a-at+else-at-b w ↦
          elim c.else-b-at.branch [
            | else-b-at-via-then-b-at+else-at-a v ↦ inl (omega arith, omega arith)
            | else-b-at-via-else-b-at v ↦ absurd (omega arith)
          ]
      | else-a-at-via-else-a-at w ↦
          elim c.else-b-at.branch [
            | else-b-at-via-then-b-at+else-at-a v ↦ absurd (omega arith)
            | else-b-at-via-else-b-at v ↦ inr (omega arith, omega arith)
          ]
    ])
