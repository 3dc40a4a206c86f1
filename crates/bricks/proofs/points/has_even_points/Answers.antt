-- The samples are compared line by line.
use Rattle.std.proofs.Common.{◌≡◌, ℕ, ◌+◌, ◌*◌, ◌%◌, ◌<◌, List, ℤ, pos, length, get_or, replicate, refl, sym, ap, w8, ◌∙◌, inl, inr, arith}
use Rattle.std.proofs.lemmas.Bool.{cases_lt, false≢true, iff_false}
use Rattle.std.proofs.lemmas.Int.{to_z-of_z}
use Rattle.std.proofs.lemmas.List.{get_or-replicate, get_or_default, length-replicate, same_lists}
use Rattle.lattice.specs.Steps.{point_at}
use Rattle.terrain.specs.Blocks.{leaf_samples}
use Rattle.field_pages.specs.Pages.{sample_at}
use Rattle.bricks.proofs.BrickLemmas.{length-leaf}
use Rattle.bricks.proofs.SampleLemmas.{leaf_samples-slot, line_steps}
use Rattle.bricks.proofs.points.has_even_points.Goals as goal

pub returns-then-not-is_even_line : goal.returns-then-not-is_even_line
returns-then-not-is_even_line c =
    let s = sample_at c.args.version.now in
    let leaf = c.args.leaf in
    let sample = c.args.sample in
    let line = c.loop-line.line in (
      (λ t. absurd (false≢true t)),
      (λ same. absurd (iff_false c.is_even_line.ensures c.if-not-is_even_line.true (λ x x_in.
          let k : ℕ = 17 * line + x in
          let k_in : k < 4913 = omega (arith, x_in, c.loop-line-test.true) in
          ap (λ p. s (point_at leaf.level leaf p)) (sym (line_steps line x x_in))
          ∙ sym (leaf_samples-slot s leaf k (pos 0) k_in)
          ∙ ap (λ xs. get_or xs k (pos 0)) (sym same)
          ∙ get_or-replicate 4913 k sample (pos 0) k_in
          ∙ sym (to_z-of_z w8 sample c.ranges.sample)))),
    )

pub loop-line-preserved : goal.loop-line-preserved
loop-line-preserved c = λ k k_in.
    let s = sample_at c.args.version.now in
    let leaf = c.args.leaf in
    let line = c.loop-line.line in
    elim (cases_lt k (17 * line)) [
      | inl before ↦ c.loop-line.invariant k before
      | inr after ↦
          let x : ℕ = k % 17 in
          let k_is : 17 * line + x ≡ k = omega (arith, k_in, after) in
          let x_in : x < 17 = omega arith in
          let all_in : 17 * line + x < 4913 = omega (arith, x_in, c.loop-line-test.true) in
          ap (λ m. get_or (leaf_samples s leaf) m (pos 0)) (sym k_is)
          ∙ leaf_samples-slot s leaf (17 * line + x) (pos 0) all_in
          ∙ ap (λ p. s (point_at leaf.level leaf p)) (line_steps line x x_in)
          ∙ c.is_even_line.ensures.0 c.if-not-is_even_line.false x x_in
    ]

pub returns : goal.returns
returns c =
    let sample = c.args.sample in
    let all : List ℤ = leaf_samples (sample_at c.args.version.now) c.args.leaf in
    let ours : length (replicate 4913 sample) ≡ 4913 = length-replicate {A = ℤ} 4913 sample in
    let long : length all ≡ 4913 = length-leaf (sample_at c.args.version.now) c.args.leaf in (
      (λ _. same_lists (replicate 4913 sample) all (ours ∙ sym long) (λ m d m_in.
          get_or-replicate 4913 m sample d (omega (arith, m_in, ours))
          ∙ sym (to_z-of_z w8 sample c.ranges.sample)
          ∙ sym (c.loop-line.invariant m (omega (arith, m_in, ours, c.loop-line-test.false)))
          ∙ get_or_default all m (pos 0) d (omega (arith, m_in, ours, long)))),
      (λ _. refl),
    )
