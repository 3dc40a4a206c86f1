-- Through the search over all names.
use Rattle.std.proofs.Common.{rules, tests, ◌∙◌}
use Rattle.std.specs.Prelude.{is_some}
use Rattle.std.proofs.lemmas.Iterator.{YieldsList-from_slice}
use Rattle.std.proofs.lemmas.Iterator.Search.{all_from_yields_List}
use Rattle.serde_json.specs.Find.{get_member}
use Rattle.serde_json.specs.View.{members_view}
use Rattle.camera_script.proofs.MembersLemmas.{list_all-shown}
use Rattle.camera_script.proofs.members.has_each.Goals as goal

pub returns : goal.returns
returns c =
    all_from_yields_List
    (λ name. is_some (get_member name.now (members_view c.args.object.now.entries))) _ _
    c.all.result c.all.ensures.ran (YieldsList-from_slice c.args.names.now cc)
    (λ x b q k. search (rules, tests))
    ∙ list_all-shown (λ name. is_some (get_member name (members_view c.args.object.now.entries)))
    (λ name. name.now) c.args.names.now
