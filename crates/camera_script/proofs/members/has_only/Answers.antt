-- Through the search over all keys.
use Rattle.std.proofs.Common.{rules, tests, map, ◌∙◌}
use Rattle.std.specs.Prelude.{string_bytes}
use Rattle.std.specs.BTreeMap.{keys}
use Rattle.std.proofs.lemmas.Iterator.Consumers.{YieldsList-from_rest}
use Rattle.std.proofs.lemmas.Iterator.Search.{all_from_yields_List}
use Rattle.camera_script.specs.Members.{is_known}
use Rattle.camera_script.proofs.MembersLemmas.{list_all-names}
use Rattle.camera_script.proofs.members.has_only.Goals as goal

pub returns : goal.returns
returns c =
    let required = map (λ name. name.now) c.args.required.now in
    let optional = map (λ name. name.now) c.args.optional.now in
    all_from_yields_List
    (λ key. is_known required optional (string_bytes key)) _ _ c.all.result c.all.ensures.ran
    (YieldsList-from_rest (keys c.args.object.now) c.keys.ensures.rest)
    (λ x b q k. search (rules, tests))
    ∙ list_all-names (is_known required optional) c.args.object.now.entries
