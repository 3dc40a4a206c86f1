-- The new field is that of the edits in force then, and the level map stays.
use Rattle.std.proofs.Common.{◌<◌, [], ◌∷◌, ◌++◌, length, refl, sym, ap, ◌∙◌, subst, arith}
use Rattle.std.specs.Prelude.{vec_capacity}
use Rattle.terrain.specs.declared.event.Event.TheVariants.{Edit}
use Rattle.terrain.specs.Brushes.{IsLawful}
use Rattle.terrain.specs.declared.event.TheConstants.{MAX_EVENTS}
use Rattle.terra_events.specs.World.{IsWorldOf, WorldState}
use Rattle.terra_events.proofs.WorldLemmas.{AfterEdits, after-edits, lost-same}
use Rattle.terra_events.proofs.world.World.edit.Goals as goal
use Rattle.terra_events.proofs.world.World.edit.Goals.{After-new}

-- the world after the edit
after : (c : After-new) → AfterEdits (record {
  settings = c.self.inside.settings;
  events = c.self.inside.events.items;
  room = vec_capacity c.self.inside.events;
  version = c.self.inside.field.version;
  levels = c.self.inside.levels.value;
}) (Edit c.args.brush) c.self.inside.views c.edit.new.self.edits (record {
  settings = c.self.inside.settings;
  events = c.push_reserved.new.self.items;
  room = vec_capacity c.push_reserved.new.self;
  version = c.edit.new.self.version;
  levels = c.self.inside.levels.value;
})
after c =
    let inside = c.self.inside in
    let old : WorldState = record {
      settings = inside.settings;
      events = inside.events.items;
      room = vec_capacity inside.events;
      version = inside.field.version;
      levels = inside.levels.value;
    } in
    let fewer : length inside.events.items < MAX_EVENTS =
    subst (λ (w : WorldState). length w.events < MAX_EVENTS) (sym c.self.view_is)
    c.requires.room in
    after-edits old (Edit c.args.brush) inside.views c.push_reserved.new.self.items
    (vec_capacity c.push_reserved.new.self) c.edit.new.self
    c.fields_follow_the_edits_in_force.ensures.grow c.levels_follow_the_viewpoints.ensures.moves
    (c.levels_follow_the_viewpoints.ensures.edit inside.settings inside.events.items c.args.brush)
    (λ view at. refl) c.self.invariant.0 c.self.invariant.1
    (subst (λ (w : WorldState). IsLawful w.settings.depth c.args.brush) (sym c.self.view_is)
    c.requires.lawful)
    c.push_reserved.ensures.items fewer
    (omega (arith, c.self.invariant.0.room, c.push_reserved.ensures.capacity))
    c.in_ok-edit.ensures.holds
    (c.in_ok-edit.ensures.depth ∙ c.self.invariant.0.stands.field_depth)
    (c.in_ok-edit.ensures.edits ∙ ap (λ es. c.args.brush ∷ es) c.self.invariant.2)

pub invariant_of-self-2 : goal.invariant_of-self-2
invariant_of-self-2 c =
    let world = after (goal.at.invariant_of-self-2 c).After-new in
    (world.sound, world.seen, world.in_force)

pub returns-clause-stands : goal.returns-clause-stands
returns-clause-stands c =
    let world = after (goal.at.returns-clause-stands c).After-new in
    subst (λ (w : WorldState). IsWorldOf (record {
      settings = c.self.inside.settings;
      events = c.push_reserved.new.self.items;
      room = vec_capacity c.push_reserved.new.self;
      version = c.edit.new.self.version;
      levels = c.self.inside.levels.value;
    }) w.settings (w.events ++ Edit c.args.brush ∷ [])) c.self.view_is world.stands

pub returns-clause-lost : goal.returns-clause-lost
returns-clause-lost c =
    let world = c.args.self.now in
    c.new.ensures.items
    ∙ lost-same world.settings world.events (Edit c.args.brush)
    (c.levels_follow_the_viewpoints.ensures.edit world.settings world.events c.args.brush)
