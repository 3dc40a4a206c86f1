-- The text is of the owners and the stats that came of the lists.
use Rattle.requests.proofs.EditingLemmas.{text-edited}
use Rattle.requests.proofs.editing.text_of_editors.Goals as goal

pub returns : goal.returns
returns g c =
    let edited = c.in_ok-owners in
    text-edited c.args.asked edited.owners.items c.deref-2.result.now edited.stats
    c.text_of_owners.result edited.ensures c.deref-2.ensures.value c.text_of_owners.ensures
