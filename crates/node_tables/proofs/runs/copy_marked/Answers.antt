-- Words are copied run by run, and a run that is passed over is empty in both lists.
use Rattle.std.proofs.Common.{◌≡◌, ◌+◌, ◌*◌, ℕ, List, get_or, refl, sym, ◌∙◌, subst, arith}
use Rattle.std.proofs.lemmas.Nat.{le_or_l, le_or_r}
use Rattle.node_tables.proofs.RunLemmas.{Copied, Copied-all, Copied-end, Copied-more, Copied-skip, word-unmarked}
use Rattle.node_tables.proofs.runs.copy_marked.Goals as goal
use Rattle.node_tables.proofs.runs.copy_marked.Goals.{then-marks-run-ne0+else-loop-i-test, else-marks-run-ne0}

pub loop-run-init : goal.loop-run-init
loop-run-init c = record {
  copied = record { done = λ k k_in. absurd (omega arith); left = λ k k_in. refl };
  range = λ k. let word = c.type_inv.words k in word.fits;
}

pub loop-i-init : goal.loop-i-init
loop-i-init c = c.loop-run.invariant.copied

pub loop-i-preserved : goal.loop-i-preserved
loop-i-preserved c = Copied-more _ _ _ _ (omega arith) c.loop-i.invariant

pub loop-run-preserved : goal.loop-run-preserved
loop-run-preserved c =
    let old = c.args.words.now in
    let others = c.args.others.now in
    let run = c.loop-run.run in
    let end = (run + 1) * 64 in
    let own_mark = get_or c.args.marks.now run 0 in
    let other_mark = get_or c.args.other_marks.now run 0 in
    let P : List ℕ → Type 0 = λ words. Copied old words others end in
    record {
      copied = elim c.if-marks-run-ne0.branch [
        | then-marks-run-ne0+else-loop-i-test w ↦
            subst P (sym w.words-is) (Copied-end old w.loop-i.words others w.loop-i.i end
            (omega arith) (omega arith) (sym c.requires.long) w.loop-i.invariant)
        | else-marks-run-ne0 w ↦
            let own : own_mark ≡ 0 = omega (arith, le_or_l own_mark other_mark) in
            let other : other_mark ≡ 0 = omega (arith, le_or_r own_mark other_mark) in
            subst P (sym w.words-is) (Copied-skip old c.loop-run.words others (run * 64) end
            (omega arith) (λ k from to.
            let range = c.type_inv.others k in
            word-unmarked others c.args.other_marks.now run k c.requires.other_marked
            range.fits other from (omega arith)
            ∙ sym (word-unmarked old c.args.marks.now run k c.requires.marked
            (c.loop-run.invariant.range k) own from (omega arith)))
            c.loop-run.invariant.copied)
      ];
      range = c.loop-run.invariant.range;
    }

pub returns : goal.returns
returns c =
    Copied-all _ _ _ _ (omega arith) (omega arith) c.loop-run.invariant.copied
