-- Through the search over the names.
use Rattle.std.proofs.Common.{rules, tests, ◌∙◌}
use Rattle.std.specs.Prelude.{bytes_eq}
use Rattle.std.proofs.lemmas.Iterator.{YieldsList-from_slice}
use Rattle.std.proofs.lemmas.Iterator.Search.{any_from_yields_List}
use Rattle.camera_script.proofs.MembersLemmas.{list_any-shown}
use Rattle.camera_script.proofs.members.is_among.Goals as goal

pub returns : goal.returns
returns c =
    any_from_yields_List
    (λ one. bytes_eq c.args.name.now one.now) _ _ c.any.result c.any.ensures.ran
    (YieldsList-from_slice c.args.names.now cc) (λ x b q k. search (rules, tests))
    ∙ list_any-shown (bytes_eq c.args.name.now) (λ one. one.now) c.args.names.now
