-- The leaves that meet the region of the last edit in force are those that an undo touches.
use Rattle.std.proofs.Common.{ap, subst, ◌∙◌}
use Rattle.terra_events.specs.World.{IsWorldOf, WorldState}
use Rattle.terra_events.proofs.WorldLemmas.{touched-undo}
use Rattle.terra_events.proofs.world.World.undone_leaves.Goals as goal

pub returns : goal.returns
returns c =
    let world = c.args.self.now in
    let stands : IsWorldOf world world.settings world.events =
    subst (λ (w : WorldState). IsWorldOf w w.settings w.events) c.self.view_is
    c.self.invariant.0.stands in
    c.in_ok-met.ensures
    ∙ touched-undo world c.args.brush.now c.deref.result.now c.args.area
    c.touched_leaves_are_met_or_changed.ensures.undo stands
    (c.deref.ensures ∙ ap (λ (w : WorldState). w.levels) c.self.view_is) c.requires.newest
    c.requires.area
