-- The values of the parts after one was replaced.
use Rattle.std.proofs.Common.{◌∙◌, set}
use Rattle.std.proofs.lemmas.List.{map-set}
use Rattle.std.specs.Arc.{arc_value}
use Rattle.shared_lists.proofs.shared_list.SharedList.replace.Goals as goal

pub returns-clause-replaced : goal.returns-clause-replaced
returns-clause-replaced g c =
    map-set arc_value c.self.inside.parts.items c.args.index c.in_ok-self-inside.field-0
    ∙ (λ i. set (c.self.view_is i) c.args.index (c.in_ok-self-inside.ensures.ok i))
