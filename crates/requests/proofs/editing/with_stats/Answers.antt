-- The stats are of the world that these owners edited.
use Rattle.std.proofs.Common.{ℕ, Global, IfOk, Vec, subst}
use Rattle.requests.specs.Edited.{IsEditedBy}
use Rattle.requests.proofs.EditingLemmas.{owners-edited}
use Rattle.requests.proofs.editing.with_stats.Goals as goal

pub returns : goal.returns
returns g c =
    let asked = c.args.asked in
    let world = c.args.edited.now in
    let edited = subst (λ r. IfOk r (λ (some : Vec ℕ Global).
    IsEditedBy asked some.items world.board world.is_whole)) c.in_ok-owners.was
    c.requires.edited in
    owners-edited asked c.in_ok-owners.owners.items world.board world.is_whole
    c.settings_of.result c.in_ok-stats.stats edited c.in_ok-stats.ensures.whole
    c.settings_of.ensures c.in_ok-stats.ensures.stats
