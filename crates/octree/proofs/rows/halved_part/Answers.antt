-- Each of the first four bits is found by trying all cases, and no other is set.
use Rattle.std.proofs.Common.{◌/◌, ◌<◌, ◌^◌, ◌∙◌, inl, inr, sym, arith}
use Rattle.std.specs.Prelude.{bit_and, bit_or}
use Rattle.std.proofs.lemmas.Bool.{cases_lt}
use Rattle.std.proofs.lemmas.Nat.{and_le_r}
use Rattle.octree.proofs.HalfLemmas.{either-past, halves-is, halves_of}
use Rattle.octree.proofs.RowBitLemmas.{past_word}
use Rattle.octree.proofs.rows.halved_part.Goals as goal

pub returns-clause-each : goal.returns-clause-each
returns-clause-each c i =
    let bits = c.args.bits in
    elim (cases_lt i 4) [
      | inl within ↦ halves-is bits i c.requires within
      | inr past ↦
          let ones = bit_and (bit_or bits (bits / 2)) 85 in
          let twos = bit_and (bit_or ones (ones / 2)) 51 in
          let fits : halves_of bits < 2 ^ 4 =
          omega (arith, and_le_r (bit_or twos (twos / 4)) 15) in
          past_word (halves_of bits) 4 i fits past
          ∙ sym (either-past bits 8 i c.requires (omega (arith, past)))
    ]
