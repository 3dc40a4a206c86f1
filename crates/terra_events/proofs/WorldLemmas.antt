-- A world after one more event stands for its journal, it returns the leaves that the event touches, and all others
-- keep their bricks: the clauses `stands`, `touched` and `bricks` of `World::apply`. docs/rules.md, "Events and touched
-- leaves", says why.
-- The laws on histories say what one more event makes of the edits in force, and which level map there is then. So
-- after an edit and an undo the field is that of the edits in force then and the map stays (stands-field), after an
-- event that puts a viewpoint somewhere the map is the chosen one and the field stays (stands-look); either way the
-- world is sound again (IsSoundWorld-more), and knows where its viewpoints are (AreViewsOf-same, AreViewsOf-placing;
-- both after a look: after-look), which are the points for which the map is chosen (points-are). The leaves that the
-- code found are those of the definition, by the laws on touched leaves (touched-edit, touched-undo, touched-look), and
-- those that are none any more are lost (lost-same, lost-look, lost-none). And as both worlds have the bricks of their
-- histories, the law on untouched leaves says that these are the same (keeps_bricks).
use Rattle.std.proofs.Common.{◌≡◌, ◌≢◌, ℕ, ◌<◌, ◌≤◌, Bool, true, false, cond, ◌==◌, List, [], ◌∷◌, ◌++◌, length, get_or, Contains, None, Option, Some, inl, inr, refl, sym, ap, ◌∙◌, subst, arith, length-append}
use Rattle.std.specs.Prelude.{All, MatchOption, drop, filter, not, option_to_list}
use Rattle.std.specs.Option.{ForSome}
use Rattle.std.proofs.Math.ListN.{set}
use Rattle.std.proofs.lemmas.Bool.{cases_Bool, cases_eq, cases_lt, cond-false, cond-true, eq-eqb, eqb-true, false_from_ne_true}
use Rattle.std.proofs.lemmas.List.{get_or-set_other, get_or-set_same, get_or_past, length-set}
use Rattle.std.proofs.lemmas.List.Elements.{All-push}
use Rattle.std.proofs.lemmas.Option.{none-some}
use Rattle.field_pages.specs.Pages.{sample_at}
use Rattle.lattice.specs.declared.node.Node.{Node}
use Rattle.lattice.specs.declared.point.Point.{Point}
use Rattle.lattice.specs.declared.region.Region.{Region}
use Rattle.lattice.specs.declared.settings.Settings.{Settings}
use Rattle.lattice.specs.Node.{IsNode, nodes}
use Rattle.lattice.specs.Point.{IsInWorld}
use Rattle.lattice.specs.Settings.{IsSettings}
use Rattle.lattice.proofs.JoinedLemmas.{joined-same}
use Rattle.octree.specs.declared.viewpoints.Viewpoints.{Viewpoints}
use Rattle.octree.specs.Choice.{IsMapOf}
use Rattle.octree.specs.SplitBits.{SplitBits, split_at}
use Rattle.octree.specs.Viewpoints.{place_of, points_in}
use Rattle.terrain.specs.declared.brush.Brush.{Brush}
use Rattle.terrain.specs.declared.event.Event.{Event}
use Rattle.terrain.specs.declared.event.Event.TheVariants.{Edit, Undo}
use Rattle.terrain.specs.Blocks.{brick, edits, meets_newest, touched}
use Rattle.terrain.specs.Brushes.{region}
use Rattle.terrain.specs.History.{IsLawfulEvent, field_of, in_force, in_force_by, sample}
use Rattle.terrain.specs.Levels.{IsBalanced, IsLeaf, is_leaf, leaves, levels, split, viewpoint, viewpoint_by, viewpoints}
use Rattle.event_laws.specs.Changes.{brick_after}
use Rattle.event_laws.specs.Laws.{EditsTouchWhatTheyMeet, EventsMoveViewpoints, OthersTouchWhatTheyChange, UndosTouchWhatTheUndoneMeets, WorldsGiveBricks}
use Rattle.field_laws.specs.Laws.{EditsInForceGrow, HistoriesGrow}
use Rattle.event_laws.specs.ChangedLeaves.{changed_leaves}
use Rattle.terrain.specs.declared.event.TheConstants.{MAX_EVENTS, MAX_VIEWS}
use Rattle.terra_events.specs.KeptEdits.{EditedState, HoldsEdits}
use Rattle.terra_events.specs.Met.{met_leaves}
use Rattle.terra_events.specs.World.{AreViewsOf, IsSoundWorld, IsWorldOf, KeepsBricksBut, WorldState, brick_in, lost_by, placing}

-- ---- the level map as a whole

-- the map of a world that stands for a history is the history's
pub map-is : {world : WorldState} {settings : Settings} {events : List Event}
    → IsWorldOf world settings events → split_at world.levels ≡ levels settings events
map-is stands = λ i n. stands.map n i

-- ---- one more event

-- the world after an event that leaves the level map, and after which the field is that of these edits
pub stands-field : (old : WorldState) (event : Event) (events : List Event) (room : ℕ)
    (field : EditedState) → EditsInForceGrow
    → levels old.settings (old.events ++ event ∷ []) ≡ levels old.settings old.events
    → IsWorldOf old old.settings old.events
    → events ≡ old.events ++ event ∷ [] → HoldsEdits field
    → field.version.depth ≡ old.settings.depth
    → field.edits ≡ in_force_by event (in_force old.events)
    → IsWorldOf (record old { events = events; room = room; version = field.version }) old.settings
    (old.events ++ event ∷ [])
stands-field old event events room field grow keep stands journal holds depth edits =
    let now = edits ∙ sym (grow old.events event) in
    record {
      settings = refl;
      journal = journal;
      field_depth = depth;
      field = λ p inside. holds.field p inside ∙ (λ i. field_of (depth i) (now i) p);
      map_depth = stands.map_depth;
      map = λ n. stands.map n ∙ sym (λ i. keep i n);
    }

-- the event that puts a viewpoint somewhere is no edit
placing-keeps : (view : ℕ) (at : Option Point) (brushes : List Brush)
    → in_force_by (placing view at) brushes ≡ brushes
placing-keeps view None brushes = refl
placing-keeps view (Some p) brushes = refl

-- so it edits no node
pub placing-edits : (depth : ℕ) (brushes : List Brush) (view : ℕ) (at : Option Point) (n : Node)
    → edits depth brushes (placing view at) n ≡ false
placing-edits depth brushes view None n = refl
placing-edits depth brushes view (Some p) n = refl

-- it is lawful where the point is in the world
pub placing-lawful : (depth view : ℕ) (at : Option Point) → view < MAX_VIEWS
    → ForSome at (IsInWorld depth) → IsLawfulEvent depth (placing view at)
placing-lawful depth view None number inside = number
placing-lawful depth view (Some p) number inside = (number, inside p refl)

-- and it moves that viewpoint alone
placing-moves : (view other : ℕ) (at was : Option Point)
    → viewpoint_by other (placing view at) was ≡ cond (view == other) at was
placing-moves view other None was = refl
placing-moves view other (Some p) was = refl

-- the world after a viewpoint was put somewhere
pub stands-look : (old : WorldState) (view : ℕ) (at : Option Point) (events : List Event)
    (room : ℕ) (bits : SplitBits) → HistoriesGrow → IsWorldOf old old.settings old.events
    → events ≡ old.events ++ placing view at ∷ [] → bits.depth ≡ old.settings.depth
    → ((n : Node) → split_at bits n ≡ levels old.settings (old.events ++ placing view at ∷ []) n)
    → IsWorldOf (record old { events = events; room = room; levels = bits }) old.settings
    (old.events ++ placing view at ∷ [])
stands-look old view at events room bits grow stands journal depth chosen = record {
  settings = refl;
  journal = journal;
  field_depth = stands.field_depth;
  field = λ p inside. stands.field p inside
      ∙ sym (grow old.settings old.events (placing view at) p
      ∙ ap (λ brushes. field_of old.settings.depth brushes p)
      (placing-keeps view at (in_force old.events)));
  map_depth = depth;
  map = chosen;
}

-- a world that stands for one more event than a sound one did is sound
pub IsSoundWorld-more : (old new : WorldState) (event : Event) → IsSoundWorld old
    → IsLawfulEvent old.settings.depth event → new.settings ≡ old.settings
    → IsWorldOf new old.settings (old.events ++ event ∷ [])
    → IsBalanced old.settings.depth (split_at new.levels) → length old.events < MAX_EVENTS
    → MAX_EVENTS ≤ new.room → IsSoundWorld new
IsSoundWorld-more old new event sound fits same stands balanced fewer room = record {
  allowed = subst (λ s. IsSettings s) (sym same) sound.allowed;
  lawful = subst (λ s. All (IsLawfulEvent s.depth) new.events) (sym same)
      (subst (All (IsLawfulEvent old.settings.depth)) (sym stands.journal)
      (All-push (IsLawfulEvent old.settings.depth) old.events event sound.lawful fits));
  stands = record {
    settings = refl;
    journal = refl;
    field_depth = stands.field_depth ∙ ap (λ s. s.depth) (sym same);
    field = λ p inside. stands.field p inside ∙ sym (λ i. sample (same i) (stands.journal i) p);
    map_depth = stands.map_depth ∙ ap (λ s. s.depth) (sym same);
    map = λ n. stands.map n ∙ sym (λ i. levels (same i) (stands.journal i) n);
  };
  balanced = subst (λ s. IsBalanced s.depth (split_at new.levels)) (sym same) balanced;
  few = omega (arith, ap length stands.journal, length-append old.events (event ∷ []));
  room = room;
}

-- ---- the viewpoints

-- where no viewpoint is put anywhere, each is nowhere
nowhere : (views : Viewpoints) → length views.places ≡ MAX_VIEWS
    → ((view : ℕ) → view < MAX_VIEWS → place_of views view ≡ None) → (view : ℕ)
    → place_of views view ≡ None
nowhere views count none view =
    elim (cases_lt view MAX_VIEWS) [
      | inl below ↦ none view below
      | inr past ↦ get_or_past views.places view None (omega (arith, count, past))
    ]

-- before any event they are those of the world
pub AreViewsOf-none : (settings : Settings) (events : List Event) (views : Viewpoints)
    → events ≡ [] → length views.places ≡ MAX_VIEWS
    → ((view : ℕ) → view < MAX_VIEWS → place_of views view ≡ None)
    → AreViewsOf settings events views
AreViewsOf-none settings events views empty count none = record {
  count = count;
  each = λ view number. none view number ∙ sym (ap (λ es. viewpoint es view) empty);
  inside = λ view.
      subst (λ place. ForSome place (IsInWorld settings.depth))
      (sym (nowhere views count none view)) (λ p is. absurd (none-some p is));
}

-- an event that names none leaves the viewpoints of a world
pub AreViewsOf-same : (settings : Settings) (before after : List Event) (event : Event)
    (views : Viewpoints) → EventsMoveViewpoints
    → ((view : ℕ) (at : Option Point) → viewpoint_by view event at ≡ at)
    → after ≡ before ++ event ∷ []
    → AreViewsOf settings before views → AreViewsOf settings after views
AreViewsOf-same settings before after event views moves none more were = record {
  count = were.count;
  each = λ view number. were.each view number
      ∙ sym (ap (λ es. viewpoint es view) more ∙ moves before event view
      ∙ none view (viewpoint before view));
  inside = were.inside;
}

-- what is read once a place is written
read-placed : (places : List (Option Point)) (view other : ℕ) (at : Option Point)
    → view < length places
    → get_or (set places view at) other None ≡ cond (view == other) at (get_or places other None)
read-placed places view other at within =
    elim (cases_eq view other) [
      | inl same ↦
          ap (λ v. get_or (set places view at) v None) (sym same)
          ∙ get_or-set_same places view at None within
          ∙ sym (cond-true (view == other) at (get_or places other None) (eq-eqb view other same))
      | inr apart ↦
          get_or-set_other places view other at None (λ same. apart (sym same))
          ∙ sym (cond-false (view == other) at (get_or places other None)
          (false_from_ne_true (view == other) (λ same. apart (eqb-true view other same))))
    ]

-- a choice of two places in the world is one
either-inside : (depth : ℕ) (b : Bool) (one other : Option Point) → ForSome one (IsInWorld depth)
    → ForSome other (IsInWorld depth) → ForSome (cond b one other) (IsInWorld depth)
either-inside depth true one other first second = first
either-inside depth false one other first second = second

-- once one of them was put somewhere, they are those of the world after that event
pub AreViewsOf-placing : (settings : Settings) (before after : List Event) (view : ℕ)
    (at : Option Point) (views next : Viewpoints) → EventsMoveViewpoints
    → after ≡ before ++ placing view at ∷ [] → next.places ≡ set views.places view at
    → view < MAX_VIEWS → ForSome at (IsInWorld settings.depth)
    → AreViewsOf settings before views → AreViewsOf settings after next
AreViewsOf-placing settings before after view at views next moves more is number within were =
    let read : (other : ℕ) → place_of next other ≡ cond (view == other) at (place_of views other) =
    λ other. ap (λ places. get_or places other None) is
    ∙ read-placed views.places view other at (omega (arith, were.count)) in
    record {
      count = ap length is ∙ length-set views.places view at ∙ were.count;
      each = λ other below. read other
          ∙ ap (λ was. cond (view == other) at was) (were.each other below)
          ∙ sym (placing-moves view other at (viewpoint before other))
          ∙ sym (ap (λ es. viewpoint es other) more ∙ moves before (placing view at) other);
      inside = λ other.
          subst (λ place. ForSome place (IsInWorld settings.depth)) (sym (read other))
          (either-inside settings.depth (view == other) at (place_of views other) within
          (were.inside other));
    }

-- the points at which they are are those of the history's viewpoints
pub points-are : (settings : Settings) (events : List Event) (views : Viewpoints)
    → AreViewsOf settings events views → points_in views ≡ viewpoints events
unfolding viewpoints
points-are settings events views are =
    joined-same MAX_VIEWS (λ view. option_to_list (place_of views view))
    (λ view. option_to_list (viewpoint events view))
    (λ view number. ap option_to_list (are.each view number))

-- the level map of a world is that of its viewpoints
pub map-of : (world : WorldState) (views : Viewpoints) (bits : SplitBits) → IsSoundWorld world
    → AreViewsOf world.settings world.events views → bits ≡ world.levels
    → IsMapOf world.settings (points_in views) bits
map-of world views bits sound are same =
    subst (IsMapOf world.settings (points_in views)) (sym same) (record {
      depth = sound.stands.map_depth;
      each = λ n. sound.stands.map n
          ∙ ap (λ points. split world.settings points n)
          (sym (points-are world.settings world.events views are));
      balanced = sound.balanced;
    })

-- the edits in force stay when a viewpoint is put somewhere
pub in_force-look : (before after : List Event) (view : ℕ) (at : Option Point) (edits : List Brush)
    → EditsInForceGrow → after ≡ before ++ placing view at ∷ [] → edits ≡ in_force before
    → edits ≡ in_force after
in_force-look before after view at edits grow journal was =
    was ∙ sym (placing-keeps view at (in_force before)) ∙ sym (grow before (placing view at))
    ∙ ap in_force (sym journal)

-- a world after a viewpoint was put somewhere stands for its journal, and is sound with these viewpoints
pub record AfterLook (old : WorldState) (view : ℕ) (at : Option Point) (views : Viewpoints)
    (new : WorldState) : Type 0 where
  pub stands : IsWorldOf new old.settings (old.events ++ placing view at ∷ [])
  pub sound : IsSoundWorld new
  pub seen : AreViewsOf old.settings new.events views
  pub map : (n : Node)
      → split_at new.levels n ≡ levels old.settings (old.events ++ placing view at ∷ []) n

-- so it is after each such event
pub after-look : (old : WorldState) (view : ℕ) (at : Option Point) (before views : Viewpoints)
    (events : List Event) (room : ℕ) (bits : SplitBits) → HistoriesGrow → EventsMoveViewpoints
    → IsSoundWorld old → AreViewsOf old.settings old.events before
    → events ≡ old.events ++ placing view at ∷ [] → length old.events < MAX_EVENTS
    → MAX_EVENTS ≤ room → view < MAX_VIEWS → ForSome at (IsInWorld old.settings.depth)
    → views.places ≡ set before.places view at → IsMapOf old.settings (points_in views) bits
    → AfterLook old view at views (record old { events = events; room = room; levels = bits })
after-look old view at before views events room bits grow moves sound were journal fewer enough
    number within is map =
    let new : WorldState = record old { events = events; room = room; levels = bits } in
    let more = old.events ++ placing view at ∷ [] in
    let seen : AreViewsOf old.settings events views =
    AreViewsOf-placing old.settings old.events events view at before views moves journal is number
    within were in
    let chosen : (n : Node) → split_at bits n ≡ levels old.settings more n =
    λ n. map.each n
    ∙ ap (λ points. split old.settings points n)
    (points-are old.settings events views seen ∙ ap viewpoints journal) in
    let stands : IsWorldOf new old.settings more =
    stands-look old view at events room bits grow sound.stands journal map.depth chosen in
    record {
      stands = stands;
      sound = IsSoundWorld-more old new (placing view at) sound
          (placing-lawful old.settings.depth view at number within) refl stands map.balanced
          fewer enough;
      seen = seen;
      map = chosen;
    }

-- a world after an event that leaves its level map stands for its journal, and is sound with the same viewpoints and
-- the edits in force then
pub record AfterEdits (old : WorldState) (event : Event) (views : Viewpoints) (edits : List Brush)
    (new : WorldState) : Type 0 where
  pub stands : IsWorldOf new old.settings (old.events ++ event ∷ [])
  pub sound : IsSoundWorld new
  pub seen : AreViewsOf old.settings new.events views
  pub in_force : edits ≡ in_force new.events

-- so it is after each edit and each undo
pub after-edits : (old : WorldState) (event : Event) (views : Viewpoints) (events : List Event)
    (room : ℕ) (field : EditedState) → EditsInForceGrow → EventsMoveViewpoints
    → levels old.settings (old.events ++ event ∷ []) ≡ levels old.settings old.events
    → ((view : ℕ) (at : Option Point) → viewpoint_by view event at ≡ at)
    → IsSoundWorld old → AreViewsOf old.settings old.events views
    → IsLawfulEvent old.settings.depth event → events ≡ old.events ++ event ∷ []
    → length old.events < MAX_EVENTS → MAX_EVENTS ≤ room → HoldsEdits field
    → field.version.depth ≡ old.settings.depth
    → field.edits ≡ in_force_by event (in_force old.events)
    → AfterEdits old event views field.edits
    (record old { events = events; room = room; version = field.version })
after-edits old event views events room field grow moves keep none sound were fits journal fewer
    enough holds depth edits =
    let new : WorldState =
    record old { events = events; room = room; version = field.version } in
    let stands : IsWorldOf new old.settings (old.events ++ event ∷ []) =
    stands-field old event events room field grow keep sound.stands journal holds depth edits in
    record {
      stands = stands;
      sound = IsSoundWorld-more old new event sound fits refl stands sound.balanced fewer enough;
      seen = AreViewsOf-same old.settings old.events events event views moves none journal were;
      in_force = edits ∙ sym (grow old.events event) ∙ ap in_force (sym journal);
    }

-- where no map is found for viewpoints, the one that is there is theirs
pub kept_map : (settings : Settings) (points : List Point) (levels seen : SplitBits)
    (found : Option SplitBits) → found ≡ None → seen ≡ levels
    → MatchOption found (IsMapOf settings points seen)
    (λ next. IsMapOf settings points next × (next ≢ seen))
    → IsMapOf settings points levels
kept_map settings points levels seen found none same h =
    subst (IsMapOf settings points) same (
    subst (λ o. MatchOption o (IsMapOf settings points seen)
    (λ next. IsMapOf settings points next × (next ≢ seen))) none h)

-- where one is found, that one is
pub new_map : (settings : Settings) (points : List Point) (next seen : SplitBits)
    (found : Option SplitBits) → found ≡ Some next
    → MatchOption found (IsMapOf settings points seen)
    (λ next. IsMapOf settings points next × (next ≢ seen))
    → IsMapOf settings points next
new_map settings points next seen found some h =
    (subst (λ o. MatchOption o (IsMapOf settings points seen)
    (λ next. IsMapOf settings points next × (next ≢ seen))) some h).0

-- ---- what is touched

-- the leaves that meet the region are those that an edit touches
pub touched-edit : (old : WorldState) (brush : Brush) (bits : SplitBits) (box : Region)
    → EditsTouchWhatTheyMeet
    → IsWorldOf old old.settings old.events → bits ≡ old.levels
    → box ≡ region old.settings.depth brush
    → met_leaves bits.depth (split_at bits) box ≡ touched old.settings old.events (Edit brush)
touched-edit old brush bits box law stands same is_region =
    (λ i. met_leaves (same i).depth (split_at (same i)) (is_region i))
    ∙ (λ i. met_leaves (stands.map_depth i) (map-is stands i) (region old.settings.depth brush))
    ∙ sym (law old.settings old.events brush)

-- the leaves that meet the region of the last edit in force are those that an undo touches
pub touched-undo : (old : WorldState) (brush : Brush) (bits : SplitBits) (box : Region)
    → UndosTouchWhatTheUndoneMeets
    → IsWorldOf old old.settings old.events → bits ≡ old.levels
    → in_force old.events ≡ brush ∷ drop 1 (in_force old.events)
    → box ≡ region old.settings.depth brush
    → met_leaves bits.depth (split_at bits) box ≡ touched old.settings old.events Undo
touched-undo old brush bits box law stands same newest is_region =
    (λ i. met_leaves (same i).depth (split_at (same i)) (is_region i))
    ∙ (λ i. met_leaves (stands.map_depth i) (map-is stands i) (region old.settings.depth brush))
    ∙ sym (law old.settings old.events
    ∙ ap (λ edits. filter (meets_newest old.settings.depth edits)
    (leaves old.settings.depth (levels old.settings old.events))) newest)

-- so are leaves that a list has which an edit meets, in a world as contracts see it
pub edited_are : (inside world : WorldState) (brush : Brush) (bits : SplitBits) (box : Region)
    (list : List Node)
    → EditsTouchWhatTheyMeet
    → IsSoundWorld inside → inside ≡ world → bits ≡ inside.levels
    → box ≡ region inside.settings.depth brush → list ≡ met_leaves bits.depth (split_at bits) box
    → list ≡ touched world.settings world.events (Edit brush)
edited_are inside world brush bits box list law sound seen same is_region is =
    subst (λ w. list ≡ touched w.settings w.events (Edit brush)) seen
    (is ∙ touched-edit inside brush bits box law sound.stands same is_region)

-- the leaves that changed are those that an event touches which puts a viewpoint somewhere
pub touched-look : (old : WorldState) (view : ℕ) (at : Option Point) (before after : SplitBits)
    → OthersTouchWhatTheyChange → IsWorldOf old old.settings old.events → before ≡ old.levels
    → after.depth ≡ old.settings.depth
    → ((n : Node) → split_at after n ≡ levels old.settings (old.events ++ placing view at ∷ []) n)
    → changed_leaves after.depth (split_at before) (split_at after)
    ≡ touched old.settings old.events (placing view at)
touched-look old view at before after law stands same depth chosen =
    (λ i. changed_leaves (depth i) (split_at (same i)) (λ n. chosen n i))
    ∙ (λ i. changed_leaves old.settings.depth (map-is stands i)
    (levels old.settings (old.events ++ placing view at ∷ [])))
    ∙ sym (law old.settings old.events (placing view at)
    (placing-edits old.settings.depth (in_force old.events) view at))

-- ---- what is lost

-- of the items that pass a test none fails it
none-fails : (m : Node → Bool) (xs : List Node) → filter (λ n. not (m n)) (filter m xs) ≡ []
none-fails m [] = refl
none-fails m (x ∷ xs) =
    let rest = none-fails m xs in
    elim (cases_Bool (m x)) [
      | inl on ↦ rw (on, on) rest
      | inr off ↦ rw off rest
    ]

-- an event that leaves the level map makes no leaf another node
pub lost-same : (settings : Settings) (events : List Event) (event : Event)
    → levels settings (events ++ event ∷ []) ≡ levels settings events
    → [] ≡ lost_by settings events event
lost-same settings events event keeps =
    sym (ap (λ m. filter (λ n. not (is_leaf settings.depth m n))
    (leaves settings.depth (levels settings events))) keeps
    ∙ none-fails (is_leaf settings.depth (levels settings events)) (nodes settings.depth))

-- the leaves that are none after a change of levels are those that an event makes none which puts a viewpoint
-- somewhere
pub lost-look : (old : WorldState) (view : ℕ) (at : Option Point) (before after : SplitBits)
    → IsWorldOf old old.settings old.events → before ≡ old.levels
    → after.depth ≡ old.settings.depth
    → ((n : Node) → split_at after n ≡ levels old.settings (old.events ++ placing view at ∷ []) n)
    → filter (λ n. not (is_leaf after.depth (split_at after) n))
    (leaves before.depth (split_at before))
    ≡ lost_by old.settings old.events (placing view at)
lost-look old view at before after stands same depth chosen =
    (λ i. filter (λ n. not (is_leaf (depth i) (λ m. chosen m i) n))
    (leaves (same i).depth (split_at (same i))))
    ∙ (λ i. filter (λ n. not (is_leaf old.settings.depth
    (levels old.settings (old.events ++ placing view at ∷ [])) n))
    (leaves (stands.map_depth i) (map-is stands i)))

-- where the level map stays, none is
pub lost-none : (old : WorldState) (view : ℕ) (at : Option Point) (bits : SplitBits)
    → IsWorldOf old old.settings old.events → bits ≡ old.levels
    → bits.depth ≡ old.settings.depth
    → ((n : Node) → split_at bits n ≡ levels old.settings (old.events ++ placing view at ∷ []) n)
    → [] ≡ lost_by old.settings old.events (placing view at)
lost-none old view at bits stands same depth chosen =
    sym (none-fails (is_leaf bits.depth (split_at bits)) (nodes bits.depth))
    ∙ lost-look old view at bits bits stands same depth chosen

-- ---- what isn't touched

-- a world that stands for a history has the history's bricks
brick_in-history : (world : WorldState) (settings : Settings) (events : List Event)
    → WorldsGiveBricks → IsWorldOf world settings events → (n : Node) → IsNode settings.depth n
    → brick_in world n ≡ brick_after settings events n
brick_in-history world settings events give stands n node =
    (λ i. brick (stands.settings i).depth (sample_at world.version) (map-is stands i) n)
    ∙ give settings events (sample_at world.version) n node
    (λ p inside. stands.field p (subst (λ d. IsInWorld d p) (sym stands.field_depth) inside))

-- two worlds that stand for a history and one more event have the same bricks but for what the event touches
pub keeps_bricks : (old new : WorldState) (event : Event) (touched_by : List Node)
    → WorldsGiveBricks
    → ((n : Node) → IsLeaf old.settings.depth (levels old.settings (old.events ++ event ∷ [])) n
    → (Contains (touched old.settings old.events event) n → ⊥)
    → IsLeaf old.settings.depth (levels old.settings old.events) n)
    → ((n : Node) → IsLeaf old.settings.depth (levels old.settings (old.events ++ event ∷ [])) n
    → (Contains (touched old.settings old.events event) n → ⊥)
    → brick_after old.settings old.events n ≡ brick_after old.settings (old.events ++ event ∷ []) n)
    → IsWorldOf old old.settings old.events
    → IsWorldOf new old.settings (old.events ++ event ∷ [])
    → touched_by ≡ touched old.settings old.events event → KeepsBricksBut touched_by old new
keeps_bricks old new event touched_by give was kept before after is_touched =
    let depth = old.settings.depth in
    let more = old.events ++ event ∷ [] in
    let leaf_of : (n : Node) → IsLeaf new.settings.depth (split_at new.levels) n
    → IsLeaf depth (levels old.settings more) n =
    λ n leaf.
    subst (λ m. IsLeaf depth m n) (map-is after)
    (subst (λ s. IsLeaf s.depth (split_at new.levels) n) after.settings leaf) in
    let off : (n : Node) → (Contains touched_by n → ⊥)
    → Contains (touched old.settings old.events event) n → ⊥ =
    λ n untouched listed. untouched (subst (λ l. Contains l n) (sym is_touched) listed) in
    record {
      leaf = λ n leaf untouched.
          subst (λ m. IsLeaf depth m n) (sym (map-is before))
          (was n (leaf_of n leaf) (off n untouched));
      same = λ n leaf untouched.
          let there = leaf_of n leaf in
          brick_in-history new old.settings more give after n there.node
          ∙ sym (kept n there (off n untouched))
          ∙ sym (brick_in-history old old.settings old.events give before n there.node);
    }
