-- Lists of words are equal exactly where each word is.
use Rattle.std.proofs.Common.{◌≡◌, ◌==◌, sym, ap, ◌∙◌}
use Rattle.std.specs.Cmp.Lexicographic.{pointwise}
use Rattle.octree.specs.SplitBits.{SplitBits}
use Rattle.octree.proofs.RowLemmas.{rows_same, same_rows}
use Rattle.octree.proofs.levels.LevelsPartialEq.eq.Goals as goal

pub returns-then-self-other-clause-fact : goal.returns-then-self-other-clause-fact
returns-then-self-other-clause-fact c =
    let mine = c.self.inside.rows.items in
    let others = c.other.inside.rows.items in
    let result : c.eq.result ≡ pointwise ◌==◌ mine others = c.eq.ensures ∙ (λ t.
    pointwise ◌==◌ (c.as_slice.ensures.value t) (c.as_slice-then-self-other.ensures.value t)) in
    let depth : c.self.inside.depth ≡ c.other.inside.depth = c.if-self-other.true in (
      (λ h.
          let rows = same_rows mine others (sym result ∙ h) in
          let levels : ◌≡◌ {A = SplitBits}
          (record { depth = c.self.inside.depth; rows = mine })
          (record { depth = c.other.inside.depth; rows = others }) =
          λ t. record { depth = depth t; rows = rows t } in
          sym c.self.view_is ∙ levels ∙ c.other.view_is),
      (λ same.
          let levels = c.self.view_is ∙ same ∙ sym c.other.view_is in
          let rows : mine ≡ others = ap (λ (l : SplitBits). l.rows) levels in
          result ∙ ap (λ l. pointwise ◌==◌ l others) rows ∙ rows_same others),
    )
