-- Words are emptied run by run, and a run that is passed over is empty.
use Rattle.std.proofs.Common.{◌+◌, ◌*◌, ℕ, Bool, List, refl, sym, subst, arith, ap, false}
use Rattle.std.specs.Prelude.{◌==◌}
use Rattle.std.proofs.lemmas.Nat.Bits.{bit_at-zero}
use Rattle.node_tables.proofs.RunLemmas.{Changed-end, Changed-skip, has_bit-unmarked}
use Rattle.node_tables.proofs.WordLemmas.{Changed, Changed-all, Changed-more}
use Rattle.node_tables.proofs.runs.empty_marked.Goals as goal
use Rattle.node_tables.proofs.runs.empty_marked.Goals.{then-marks-run-ne0+else-loop-i-test, else-marks-run-ne0}

pub loop-run-init : goal.loop-run-init
loop-run-init c = record { done = λ p p_in. absurd (omega arith); left = λ p p_in. refl }

pub loop-i-init : goal.loop-i-init
loop-i-init c = c.loop-run.invariant

pub loop-i-preserved : goal.loop-i-preserved
loop-i-preserved c =
    Changed-more _ _ _ _ _ _ (omega arith) (λ k k_in. ap (λ d. d == 1) (bit_at-zero k))
    c.loop-i.invariant

pub loop-run-preserved : goal.loop-run-preserved
loop-run-preserved c =
    let both : Bool → Bool → Bool = λ (a : Bool) (b : Bool). false in
    let old = c.args.words.now in
    let others = c.args.words.now in
    let run = c.loop-run.run in
    let end = (run + 1) * 64 in
    let P : List ℕ → Type 0 = λ words. Changed both old words others end in
    elim c.if-marks-run-ne0.branch [
      | then-marks-run-ne0+else-loop-i-test w ↦
          subst P (sym w.words-is) (Changed-end both old w.loop-i.words others w.loop-i.i end
          (omega arith) (omega arith) refl refl w.loop-i.invariant)
      | else-marks-run-ne0 w ↦
          subst P (sym w.words-is) (Changed-skip both old c.loop-run.words others (run * 64) end
          (omega arith) (λ p from to.
          sym (has_bit-unmarked old c.args.marks.now run p c.requires
          w.if-marks-run-ne0.false from (omega arith))) c.loop-run.invariant)
    ]

pub returns : goal.returns
returns c =
    Changed-all _ _ _ _ _ (omega arith) (omega arith) refl c.loop-run.invariant
