-- The pages are as many as is said.
use Rattle.std.proofs.Common.{◌∙◌, ap, length, map, sym}
use Rattle.std.specs.Arc.{arc_value}
use Rattle.field_pages.proofs.GroupLemmas.{length-ungrouped}
use Rattle.field_pages.proofs.shared_pages.SharedPages.len.Goals as goal

pub returns : goal.returns
returns c =
    let groups = map arc_value c.self.inside.groups.items in
    sym (length-ungrouped c.self.inside.count groups) ∙ ap length c.self.view_is
