-- The weights are the turns, where all are to one side; where the place is a mean of the corners, all are.
use Rattle.std.proofs.Common.{inl, inr, arith}
use Rattle.frame_surface.proofs.WeightLemmas.{all_turns, weights-left, weights-right}
use Rattle.frame_surface.proofs.turns.weights_at.Goals as goal
use Rattle.frame_surface.proofs.turns.weights_at.Goals.{else-a-via-then-a+then-b+else-c, else-a-via-then-a+else-b, else-a-via-else-a, else-a-2-via-then-a-2+then-b-2+else-c-2, else-a-2-via-then-a-2+else-b-2, else-a-2-via-else-a-2}

pub returns-then-c-clause-inside : goal.returns-then-c-clause-inside
returns-then-c-clause-inside c =
    weights-left c.args.p c.args.q c.args.r c.args.at c.turn_between-a.result
    c.turn_between-b.result c.turn_between-c.result c.turn_between-a.ensures.value
    c.turn_between-b.ensures.value c.turn_between-c.ensures.value c.if-a.true c.if-b.true
    c.if-c.true

pub returns-then-c-2-clause-inside : goal.returns-then-c-2-clause-inside
returns-then-c-2-clause-inside c =
    weights-right c.args.p c.args.q c.args.r c.args.at c.turn_between-a.result
    c.turn_between-b.result c.turn_between-c.result c.turn_between-a.ensures.value
    c.turn_between-b.ensures.value c.turn_between-c.ensures.value c.if-a-2.true c.if-b-2.true
    c.if-c-2.true

pub returns-else-a-2-clause-outside : goal.returns-else-a-2-clause-outside
returns-else-a-2-clause-outside c k l m some h =
    elim (all_turns c.args.p c.args.q c.args.r c.args.at c.turn_between-a.result
    c.turn_between-b.result c.turn_between-c.result c.turn_between-a.ensures.value
    c.turn_between-b.ensures.value c.turn_between-c.ensures.value k l m some h) [
      | inl lefts ↦
          elim c.else-a.branch [
            | else-a-via-then-a+then-b+else-c w ↦ absurd (omega (arith, lefts.2, w.if-c.false))
            | else-a-via-then-a+else-b w ↦ absurd (omega (arith, lefts.1, w.if-b.false))
            | else-a-via-else-a w ↦ absurd (omega (arith, lefts.0, w.if-a.false))
          ]
      | inr rights ↦
          elim c.else-a-2.branch [
            | else-a-2-via-then-a-2+then-b-2+else-c-2 w ↦
                absurd (omega (arith, rights.2, w.if-c-2.false))
            | else-a-2-via-then-a-2+else-b-2 w ↦
                absurd (omega (arith, rights.1, w.if-b-2.false))
            | else-a-2-via-else-a-2 w ↦ absurd (omega (arith, rights.0, w.if-a-2.false))
          ]
    ]
