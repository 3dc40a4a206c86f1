-- A bit that one word has alone is that of a switched node.
use Rattle.std.proofs.Common.{◌≡◌, ℕ, Bool, ap, subst, ◌∙◌}
use Rattle.std.specs.Bool.{beq}
use Rattle.std.specs.Prelude.{bit_xor, not}
use Rattle.octree.specs.Changes.{is_switched}
use Rattle.octree.specs.Layers.{PairOf}
use Rattle.octree.specs.SplitBits.{SplitBits, row_bit, split_at}
use Rattle.octree.proofs.RowBitLemmas.{xor_bits}
use Rattle.octree.proofs.changed.LevelPair.switched_row.Goals as goal

pub returns-clause-each : goal.returns-clause-each
returns-clause-each c i =
    let of : SplitBits → ℕ → Bool = λ levels level. split_at levels (record {
      level = level;
      k = c.args.k;
      j = c.args.j;
      i = i;
    }) in
    let first : row_bit c.row.result i ≡ of c.self.inside.before.levels c.self.inside.level =
    c.row.ensures.each i
    ∙ ap (of c.self.inside.before.levels) c.self.invariant.first_level in
    let second : row_bit c.row-2.result i ≡ of c.self.inside.after.levels c.self.inside.level =
    c.row-2.ensures.each i
    ∙ ap (of c.self.inside.after.levels) c.self.invariant.second_level in
    subst (λ (pair : PairOf). row_bit (bit_xor c.row.result c.row-2.result) i
    ≡ is_switched pair.before pair.after (record {
      level = pair.level;
      k = c.args.k;
      j = c.args.j;
      i = i;
    })) c.self.view_is (xor_bits c.row.result c.row-2.result i
    ∙ (λ t. not (beq (first t) (second t))))
