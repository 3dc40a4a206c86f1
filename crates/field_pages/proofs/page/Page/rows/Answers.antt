-- The table lends as many samples as a page has.
use Rattle.std.proofs.Common.{length, ap, ◌∙◌}
use Rattle.field_pages.proofs.EvenLemmas.{length-even}
use Rattle.field_pages.proofs.page.Page.rows.Goals as goal

pub returns-in-Even-clause-len : goal.returns-in-Even-clause-len
returns-in-Even-clause-len c = ap length c.even.ensures ∙ length-even c.in-Even.page
