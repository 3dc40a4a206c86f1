-- The level map is that of the viewpoints, kept or new, the field stays, and the leaves that changed are those that the
-- event touches.
use Rattle.std.proofs.Common.{◌≡◌, ◌<◌, [], ◌∷◌, ◌++◌, length, refl, sym, ap, ◌∙◌, subst, arith}
use Rattle.std.specs.Prelude.{vec_capacity}
use Rattle.std.specs.Option.{ForSome}
use Rattle.lattice.specs.Point.{IsInWorld}
use Rattle.octree.specs.Choice.{IsMapOf}
use Rattle.octree.specs.SplitBits.{split_at}
use Rattle.octree.specs.Viewpoints.{points_in}
use Rattle.terrain.specs.Blocks.{touched}
use Rattle.terrain.specs.declared.event.TheConstants.{MAX_EVENTS}
use Rattle.terra_events.specs.World.{IsWorldOf, WorldState, lost_by, placing}
use Rattle.terra_events.proofs.WorldLemmas.{AreViewsOf-placing, after-look, in_force-look, kept_map, lost-look, lost-none, map-of, new_map, touched-look}
use Rattle.terra_events.proofs.world.World.look.Goals as goal

pub follow-requires-clause-after : goal.follow-requires-clause-after
follow-requires-clause-after c =
    (AreViewsOf-placing c.self.inside.settings c.self.inside.events.items
    (c.self.inside.events.items ++ placing c.args.view c.args.at ∷ []) c.args.view c.args.at
    c.self.inside.views c.with-views.result c.levels_follow_the_viewpoints.ensures.moves refl
    c.with-views.ensures c.requires.view
    (subst (λ w. ForSome c.args.at (IsInWorld w.settings.depth)) (sym c.self.view_is)
    c.requires.at) c.self.invariant.1).inside

pub follow-requires-clause-levels : goal.follow-requires-clause-levels
follow-requires-clause-levels c =
    map-of (record {
      settings = c.self.inside.settings;
      events = c.self.inside.events.items;
      room = vec_capacity c.self.inside.events;
      version = c.self.inside.field.version;
      levels = c.self.inside.levels.value;
    }) c.self.inside.views c.deref.result.now c.self.invariant.0 c.self.invariant.1 c.deref.ensures

-- ---- where the level map stays

pub invariant_of-self-in_default : goal.invariant_of-self-in_default
invariant_of-self-in_default c =
    let after =
    (after-look (record {
      settings = c.self.inside.settings;
      events = c.self.inside.events.items;
      room = vec_capacity c.self.inside.events;
      version = c.self.inside.field.version;
      levels = c.self.inside.levels.value;
    }) c.args.view c.args.at c.self.inside.views c.with-views.result c.push.new.self.items
    (vec_capacity c.push.new.self) c.self.inside.levels.value
    c.histories_grow_by_events.ensures c.levels_follow_the_viewpoints.ensures.moves
    c.self.invariant.0 c.self.invariant.1
    (c.in_ok-push.ensures.items
    ∙ ap (λ e. c.self.inside.events.items ++ e ∷ []) c.placing-event.ensures)
    (subst (λ w. length w.events < MAX_EVENTS) (sym c.self.view_is) c.requires.room)
    (omega (arith, c.self.invariant.0.room, c.push.ensures.capacity)) c.requires.view
    (subst (λ w. ForSome c.args.at (IsInWorld w.settings.depth)) (sym c.self.view_is)
    c.requires.at) c.with-views.ensures
    (kept_map c.self.inside.settings (points_in c.with-views.result) c.self.inside.levels.value
    c.deref.result.now c.in_ok-found.found c.in_default.is c.deref.ensures
    c.in_ok-found.ensures))
    in (
      after.sound,
      after.seen,
      in_force-look c.self.inside.events.items c.push.new.self.items c.args.view c.args.at
          c.self.inside.field.edits c.fields_follow_the_edits_in_force.ensures.grow
          (c.in_ok-push.ensures.items
          ∙ ap (λ e. c.self.inside.events.items ++ e ∷ []) c.placing-event.ensures)
          c.self.invariant.2,
    )

pub returns-in_default-clause-stands : goal.returns-in_default-clause-stands
returns-in_default-clause-stands c =
    let after =
    (after-look (record {
      settings = c.self.inside.settings;
      events = c.self.inside.events.items;
      room = vec_capacity c.self.inside.events;
      version = c.self.inside.field.version;
      levels = c.self.inside.levels.value;
    }) c.args.view c.args.at c.self.inside.views c.with-views.result c.push.new.self.items
    (vec_capacity c.push.new.self) c.self.inside.levels.value
    c.histories_grow_by_events.ensures c.levels_follow_the_viewpoints.ensures.moves
    c.self.invariant.0 c.self.invariant.1
    (c.in_ok-push.ensures.items
    ∙ ap (λ e. c.self.inside.events.items ++ e ∷ []) c.placing-event.ensures)
    (subst (λ w. length w.events < MAX_EVENTS) (sym c.self.view_is) c.requires.room)
    (omega (arith, c.self.invariant.0.room, c.push.ensures.capacity)) c.requires.view
    (subst (λ w. ForSome c.args.at (IsInWorld w.settings.depth)) (sym c.self.view_is)
    c.requires.at) c.with-views.ensures
    (kept_map c.self.inside.settings (points_in c.with-views.result) c.self.inside.levels.value
    c.deref.result.now c.in_ok-found.found c.in_default.is c.deref.ensures
    c.in_ok-found.ensures))
    in
    subst (λ (w : WorldState). IsWorldOf (record {
      settings = c.self.inside.settings;
      events = c.push.new.self.items;
      room = vec_capacity c.push.new.self;
      version = c.self.inside.field.version;
      levels = c.self.inside.levels.value;
    }) w.settings (w.events ++ placing c.args.view c.args.at ∷ [])) c.self.view_is after.stands

pub returns-in_default-clause-touched : goal.returns-in_default-clause-touched
returns-in_default-clause-touched c =
    let old : WorldState = record {
      settings = c.self.inside.settings;
      events = c.self.inside.events.items;
      room = vec_capacity c.self.inside.events;
      version = c.self.inside.field.version;
      levels = c.self.inside.levels.value;
    } in
    let bits = c.self.inside.levels.value in
    let before : IsWorldOf old old.settings old.events = c.self.invariant.0.stands in
    let after =
    (after-look old c.args.view c.args.at c.self.inside.views c.with-views.result
    c.push.new.self.items (vec_capacity c.push.new.self) bits
    c.histories_grow_by_events.ensures c.levels_follow_the_viewpoints.ensures.moves
    c.self.invariant.0 c.self.invariant.1
    (c.in_ok-push.ensures.items
    ∙ ap (λ e. c.self.inside.events.items ++ e ∷ []) c.placing-event.ensures)
    (subst (λ w. length w.events < MAX_EVENTS) (sym c.self.view_is) c.requires.room)
    (omega (arith, c.self.invariant.0.room, c.push.ensures.capacity)) c.requires.view
    (subst (λ w. ForSome c.args.at (IsInWorld w.settings.depth)) (sym c.self.view_is)
    c.requires.at) c.with-views.ensures
    (kept_map c.self.inside.settings (points_in c.with-views.result) bits
    c.deref.result.now c.in_ok-found.found c.in_default.is c.deref.ensures
    c.in_ok-found.ensures))
    in
    let none = c.touched_leaves_are_met_or_changed.ensures.none bits.depth (split_at bits) in
    let found = touched-look old c.args.view c.args.at bits bits
    c.touched_leaves_are_met_or_changed.ensures.other before refl before.map_depth after.map in
    subst (λ (w : WorldState). c.new.result.items
    ≡ touched w.settings w.events (placing c.args.view c.args.at))
    c.self.view_is (c.new.ensures.items ∙ sym none ∙ found)

pub returns-in_default-clause-lost : goal.returns-in_default-clause-lost
returns-in_default-clause-lost c =
    let old : WorldState = record {
      settings = c.self.inside.settings;
      events = c.self.inside.events.items;
      room = vec_capacity c.self.inside.events;
      version = c.self.inside.field.version;
      levels = c.self.inside.levels.value;
    } in
    let bits = c.self.inside.levels.value in
    let before : IsWorldOf old old.settings old.events = c.self.invariant.0.stands in
    let after =
    (after-look old c.args.view c.args.at c.self.inside.views c.with-views.result
    c.push.new.self.items (vec_capacity c.push.new.self) bits
    c.histories_grow_by_events.ensures c.levels_follow_the_viewpoints.ensures.moves
    c.self.invariant.0 c.self.invariant.1
    (c.in_ok-push.ensures.items
    ∙ ap (λ e. c.self.inside.events.items ++ e ∷ []) c.placing-event.ensures)
    (subst (λ w. length w.events < MAX_EVENTS) (sym c.self.view_is) c.requires.room)
    (omega (arith, c.self.invariant.0.room, c.push.ensures.capacity)) c.requires.view
    (subst (λ w. ForSome c.args.at (IsInWorld w.settings.depth)) (sym c.self.view_is)
    c.requires.at) c.with-views.ensures
    (kept_map c.self.inside.settings (points_in c.with-views.result) bits
    c.deref.result.now c.in_ok-found.found c.in_default.is c.deref.ensures
    c.in_ok-found.ensures))
    in
    let found = lost-none old c.args.view c.args.at bits before refl before.map_depth after.map in
    subst (λ (w : WorldState). c.new-in_default.result.items
    ≡ lost_by w.settings w.events (placing c.args.view c.args.at))
    c.self.view_is (c.new-in_default.ensures.items ∙ found)

-- ---- where it changes

pub invariant_of-self-2 : goal.invariant_of-self-2
invariant_of-self-2 c =
    let after =
    (after-look (record {
      settings = c.self.inside.settings;
      events = c.self.inside.events.items;
      room = vec_capacity c.self.inside.events;
      version = c.self.inside.field.version;
      levels = c.self.inside.levels.value;
    }) c.args.view c.args.at c.self.inside.views c.with-views.result c.push-2.new.self.items
    (vec_capacity c.push-2.new.self) c.in_ok-levels.levels.value
    c.histories_grow_by_events.ensures c.levels_follow_the_viewpoints.ensures.moves
    c.self.invariant.0 c.self.invariant.1
    (c.in_ok-push-2.ensures.items
    ∙ ap (λ e. c.self.inside.events.items ++ e ∷ []) c.placing-event.ensures)
    (subst (λ w. length w.events < MAX_EVENTS) (sym c.self.view_is) c.requires.room)
    (omega (arith, c.self.invariant.0.room, c.push-2.ensures.capacity)) c.requires.view
    (subst (λ w. ForSome c.args.at (IsInWorld w.settings.depth)) (sym c.self.view_is)
    c.requires.at) c.with-views.ensures
    (subst (IsMapOf c.self.inside.settings (points_in c.with-views.result))
    (sym c.in_ok-levels.ensures.ok)
    (new_map c.self.inside.settings (points_in c.with-views.result) c.in-Some.levels
    c.deref.result.now c.in_ok-found.found c.in-Some.is c.in_ok-found.ensures)))
    in (
      after.sound,
      after.seen,
      in_force-look c.self.inside.events.items c.push-2.new.self.items c.args.view c.args.at
          c.self.inside.field.edits c.fields_follow_the_edits_in_force.ensures.grow
          (c.in_ok-push-2.ensures.items
          ∙ ap (λ e. c.self.inside.events.items ++ e ∷ []) c.placing-event.ensures)
          c.self.invariant.2,
    )

pub returns-clause-stands : goal.returns-clause-stands
returns-clause-stands c =
    let after =
    (after-look (record {
      settings = c.self.inside.settings;
      events = c.self.inside.events.items;
      room = vec_capacity c.self.inside.events;
      version = c.self.inside.field.version;
      levels = c.self.inside.levels.value;
    }) c.args.view c.args.at c.self.inside.views c.with-views.result c.push-2.new.self.items
    (vec_capacity c.push-2.new.self) c.in_ok-levels.levels.value
    c.histories_grow_by_events.ensures c.levels_follow_the_viewpoints.ensures.moves
    c.self.invariant.0 c.self.invariant.1
    (c.in_ok-push-2.ensures.items
    ∙ ap (λ e. c.self.inside.events.items ++ e ∷ []) c.placing-event.ensures)
    (subst (λ w. length w.events < MAX_EVENTS) (sym c.self.view_is) c.requires.room)
    (omega (arith, c.self.invariant.0.room, c.push-2.ensures.capacity)) c.requires.view
    (subst (λ w. ForSome c.args.at (IsInWorld w.settings.depth)) (sym c.self.view_is)
    c.requires.at) c.with-views.ensures
    (subst (IsMapOf c.self.inside.settings (points_in c.with-views.result))
    (sym c.in_ok-levels.ensures.ok)
    (new_map c.self.inside.settings (points_in c.with-views.result) c.in-Some.levels
    c.deref.result.now c.in_ok-found.found c.in-Some.is c.in_ok-found.ensures)))
    in
    subst (λ (w : WorldState). IsWorldOf (record {
      settings = c.self.inside.settings;
      events = c.push-2.new.self.items;
      room = vec_capacity c.push-2.new.self;
      version = c.self.inside.field.version;
      levels = c.in_ok-levels.levels.value;
    }) w.settings (w.events ++ placing c.args.view c.args.at ∷ [])) c.self.view_is after.stands

pub returns-clause-touched : goal.returns-clause-touched
returns-clause-touched c =
    let old : WorldState = record {
      settings = c.self.inside.settings;
      events = c.self.inside.events.items;
      room = vec_capacity c.self.inside.events;
      version = c.self.inside.field.version;
      levels = c.self.inside.levels.value;
    } in
    let before : IsWorldOf old old.settings old.events = c.self.invariant.0.stands in
    let map = new_map c.self.inside.settings (points_in c.with-views.result) c.in-Some.levels
    c.deref.result.now c.in_ok-found.found c.in-Some.is c.in_ok-found.ensures in
    let after =
    (after-look old c.args.view c.args.at c.self.inside.views c.with-views.result
    c.push-2.new.self.items (vec_capacity c.push-2.new.self) c.in-Some.levels
    c.histories_grow_by_events.ensures c.levels_follow_the_viewpoints.ensures.moves
    c.self.invariant.0 c.self.invariant.1
    (c.in_ok-push-2.ensures.items
    ∙ ap (λ e. c.self.inside.events.items ++ e ∷ []) c.placing-event.ensures)
    (subst (λ w. length w.events < MAX_EVENTS) (sym c.self.view_is) c.requires.room)
    (omega (arith, c.self.invariant.0.room, c.push-2.ensures.capacity)) c.requires.view
    (subst (λ w. ForSome c.args.at (IsInWorld w.settings.depth)) (sym c.self.view_is)
    c.requires.at) c.with-views.ensures map)
    in
    let found = touched-look old c.args.view c.args.at c.deref-2.result.now c.in-Some.levels
    c.touched_leaves_are_met_or_changed.ensures.other before c.deref-2.ensures map.depth
    after.map in
    subst (λ (w : WorldState). c.in_ok-change.change.changed.items
    ≡ touched w.settings w.events (placing c.args.view c.args.at)) c.self.view_is
    (c.in_ok-change.ensures.changed ∙ found)

pub returns-clause-lost : goal.returns-clause-lost
returns-clause-lost c =
    let old : WorldState = record {
      settings = c.self.inside.settings;
      events = c.self.inside.events.items;
      room = vec_capacity c.self.inside.events;
      version = c.self.inside.field.version;
      levels = c.self.inside.levels.value;
    } in
    let before : IsWorldOf old old.settings old.events = c.self.invariant.0.stands in
    let map = new_map c.self.inside.settings (points_in c.with-views.result) c.in-Some.levels
    c.deref.result.now c.in_ok-found.found c.in-Some.is c.in_ok-found.ensures in
    let after =
    (after-look old c.args.view c.args.at c.self.inside.views c.with-views.result
    c.push-2.new.self.items (vec_capacity c.push-2.new.self) c.in-Some.levels
    c.histories_grow_by_events.ensures c.levels_follow_the_viewpoints.ensures.moves
    c.self.invariant.0 c.self.invariant.1
    (c.in_ok-push-2.ensures.items
    ∙ ap (λ e. c.self.inside.events.items ++ e ∷ []) c.placing-event.ensures)
    (subst (λ w. length w.events < MAX_EVENTS) (sym c.self.view_is) c.requires.room)
    (omega (arith, c.self.invariant.0.room, c.push-2.ensures.capacity)) c.requires.view
    (subst (λ w. ForSome c.args.at (IsInWorld w.settings.depth)) (sym c.self.view_is)
    c.requires.at) c.with-views.ensures map)
    in
    let found = lost-look old c.args.view c.args.at c.deref-2.result.now c.in-Some.levels before
    c.deref-2.ensures map.depth after.map in
    subst (λ (w : WorldState). c.in_ok-change.change.lost.items
    ≡ lost_by w.settings w.events (placing c.args.view c.args.at)) c.self.view_is
    (c.in_ok-change.ensures.lost ∙ found)
