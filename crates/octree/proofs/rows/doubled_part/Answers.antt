-- Each of the first sixteen bits is found by trying all cases, and no other is set.
use Rattle.std.proofs.Common.{◌*◌, ◌/◌, ◌%◌, ◌^◌, ◌<◌, ◌∙◌, inl, inr, sym, arith}
use Rattle.std.specs.Prelude.{bit_and, bit_or}
use Rattle.std.proofs.lemmas.Bool.{cases_lt}
use Rattle.std.proofs.lemmas.Nat.{and_le_r, or_lt}
use Rattle.octree.proofs.RowBitLemmas.{pairs-is, pairs_of, past_word}
use Rattle.octree.proofs.rows.doubled_part.Goals as goal

pub returns-clause-each : goal.returns-clause-each
returns-clause-each c i =
    let bits = c.args.bits in
    elim (cases_lt i 16) [
      | inl within ↦ pairs-is bits i c.requires within
      | inr past ↦
          let fours = bit_and (bit_or bits (bits * 16 % 2 ^ 64)) 3855 in
          let twos = bit_and (bit_or fours (fours * 4 % 2 ^ 64)) 13107 in
          let ones = bit_and (bit_or twos (twos * 2 % 2 ^ 64)) 21845 in
          let low = and_le_r (bit_or twos (twos * 2 % 2 ^ 64)) 21845 in
          let fits : pairs_of bits < 2 ^ 16 =
          or_lt 16 ones (ones * 2 % 2 ^ 64) (omega (arith, low)) (omega (arith, low)) in
          past_word (pairs_of bits) 16 i fits past
          ∙ sym (past_word bits 8 (i / 2) c.requires (omega (arith, past)))
    ]
