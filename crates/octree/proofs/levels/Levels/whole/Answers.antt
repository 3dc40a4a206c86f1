-- There is a word for each row above level 0, and each is 0.
use Rattle.std.proofs.Common.{◌≡◌, ℕ, get_or, inl, inr, ap, arith, ◌∙◌}
use Rattle.std.specs.Prelude.{replicate}
use Rattle.std.proofs.lemmas.Bool.{cases_lt}
use Rattle.std.proofs.lemmas.List.{get_or-replicate, get_or_past, length-replicate}
use Rattle.std.proofs.lemmas.Nat.{pow_pos}
use Rattle.lattice.specs.Node.{nodes_across}
use Rattle.octree.specs.SplitBits.{row_of}
use Rattle.octree.proofs.SplitAtLemmas.{split_at-none}
use Rattle.octree.proofs.levels.Levels.whole.Goals as goal

-- each word is 0
none_read : (n r : ℕ) → ◌≡◌ {A = ℕ} (get_or (replicate n 0) r 0) 0
none_read n r =
    elim (cases_lt r n) [
      | inl within ↦ get_or-replicate n r 0 0 within
      | inr past ↦
          get_or_past (replicate n 0) r 0 (omega (arith, length-replicate {A = ℕ} n 0))
    ]

pub invariant_of-result : goal.invariant_of-result
invariant_of-result c =
    let items = c.in_ok-rows.ensures.items_if_clones_equal (λ y same. same) in
    record {
      depth = c.requires;
      long = omega (arith, c.in_ok-rows.ensures.len, c.rows_below.ensures);
      fits = λ level k j row.
          let none = ap (λ rows. get_or rows (row_of c.args.depth level k j) 0) items
          ∙ none_read _ (row_of c.args.depth level k j) in
          omega (arith, none, pow_pos (nodes_across c.args.depth level));
    }

pub returns-clause-none : goal.returns-clause-none
returns-clause-none c =
    let items = c.in_ok-rows.ensures.items_if_clones_equal (λ y same. same) in
    split_at-none (record { depth = c.args.depth; rows = c.in_ok-rows.rows.items })
    (λ r. ap (λ rows. get_or rows r 0) items ∙ none_read _ r)
