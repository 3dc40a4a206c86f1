-- The last row of the page is whole.
use Rattle.std.proofs.Common.{sym, ◌∙◌, arith}
use Rattle.std.proofs.lemmas.Bool.{eq-eqb, eqb-true}
use Rattle.field_pages.proofs.EvenLemmas.{whole_from, whole_row}
use Rattle.field_pages.proofs.even.Extent.is_whole.Goals as goal

pub returns : goal.returns
returns c = (
  (λ told. whole_from c.args.self.now (sym c.row_count.ensures.value ∙ eqb-true _ _ told)),
  (λ all. eq-eqb _ _ (c.row_count.ensures.value
      ∙ whole_row c.args.self.now c.requires (all 4095 (omega arith)))),
)
