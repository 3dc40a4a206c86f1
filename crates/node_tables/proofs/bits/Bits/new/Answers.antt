-- Words of zeros have no bit set, and need no mark.
use Rattle.std.proofs.Common.{ℕ, ap, length, ◌∙◌, arith}
use Rattle.std.proofs.lemmas.List.{length-replicate}
use Rattle.node_tables.proofs.WordLemmas.{has_bit-zeros}
use Rattle.node_tables.proofs.bits.Bits.new.Goals as goal

pub invariant_of-result : goal.invariant_of-result
invariant_of-result c =
    let zeros = c.in_ok-words.ensures.items_if_clones_equal (λ y same. same) in
    let no_marks = c.in_ok-marks.ensures.items_if_clones_equal (λ y same. same) in
    let long = ap length zeros ∙ length-replicate {A = ℕ} c.args.count 0 in
    let marks_long = ap length no_marks ∙ length-replicate {A = ℕ} c.div_ceil.result 0 in
    record {
      few = omega (arith, long, c.requires);
      long = omega (arith, long, marks_long, c.div_ceil.ensures);
      unmarked = λ p off. has_bit-zeros c.in_ok-words.words.items _ zeros p;
      spare = λ w set. let unset = has_bit-zeros c.in_ok-marks.marks.items _ no_marks w in
          absurd (cc);
    }

pub returns-clause-none : goal.returns-clause-none
returns-clause-none c =
    let zeros = c.in_ok-words.ensures.items_if_clones_equal (λ y same. same) in
    has_bit-zeros c.in_ok-words.words.items _ zeros
