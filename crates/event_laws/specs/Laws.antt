-- The laws of what events change as statements with names, for the law's own clause and for the proofs that rest on it.
-- Source: this project's rule.
use Rattle.std.specs.Prelude.{◌≡◌, ℕ, ◌<◌, ◌↔◌, ◌||◌, false, List, [], ◌∷◌, ◌++◌, All, Contains, IsTrue, Some, filter}
use Rattle.lattice.specs.declared.node.Node.{Node}
use Rattle.lattice.specs.declared.point.Point.{Point}
use Rattle.lattice.specs.declared.settings.Settings.{Settings}
use Rattle.lattice.specs.Node.{IsNode, is_among, root}
use Rattle.lattice.specs.Point.{IsInWorld}
use Rattle.terrain.specs.declared.brush.Brush.{Brush}
use Rattle.terrain.specs.declared.event.Event.{Event}
use Rattle.terrain.specs.declared.event.Event.TheVariants.{Edit, Undo}
use Rattle.terrain.specs.declared.event.TheConstants.{MAX_VIEWS}
use Rattle.terrain.specs.Blocks.{brick, edits, meets, meets_newest, touched}
use Rattle.terrain.specs.Brushes.{region}
use Rattle.terrain.specs.History.{IsLawfulEvent, in_force, sample}
use Rattle.terrain.specs.Levels.{IsLeaf, is_wanted, is_wanted_from, leaves, levels, rim, viewpoint, viewpoint_by, viewpoints}
use Rattle.terrain.specs.Samples.{Field}
use Rattle.event_laws.specs.ChangedLeaves.{changed_leaves}
use Rattle.event_laws.specs.Changes.{brick_after, is_touched}

-- ---- the level map

-- a node is wanted split from a viewpoint of a history, which is at a point
pub record IsWantedByOne (settings : Settings) (events : List Event) (n : Node) : Type 0 where
  pub view : ℕ
  pub number : view < MAX_VIEWS
  pub at : Point
  pub is : viewpoint events view ≡ Some at
  pub near : IsTrue (is_wanted_from settings at n)

-- a node is wanted split from the viewpoints of a history where it is from one of them
abbrev pub WantedFromViewpoints : Type 0
WantedFromViewpoints = (settings : Settings) (events : List Event) (n : Node)
    → IsTrue (is_wanted settings (viewpoints events) n) ↔ IsWantedByOne settings events n

-- an edit leaves the level map as it is
abbrev pub EditsKeepLevels : Type 0
EditsKeepLevels = (settings : Settings) (events : List Event) (brush : Brush)
    → levels settings (events ++ Edit brush ∷ []) ≡ levels settings events

-- and so does an undo
abbrev pub UndosKeepLevels : Type 0
UndosKeepLevels = (settings : Settings) (events : List Event)
    → levels settings (events ++ Undo ∷ []) ≡ levels settings events

-- an event moves the viewpoint that it names, and no other
abbrev pub EventsMoveViewpoints : Type 0
EventsMoveViewpoints = (events : List Event) (event : Event) (view : ℕ)
    → viewpoint (events ++ event ∷ []) view ≡ viewpoint_by view event (viewpoint events view)

-- before any event there is no viewpoint
abbrev pub NobodyLooks : Type 0
NobodyLooks = viewpoints [] ≡ []

-- before any event no node is split
abbrev pub NoneIsSplit : Type 0
NoneIsSplit = (settings : Settings) (n : Node) → levels settings [] n ≡ false

-- so that the root is the one leaf
abbrev pub RootIsTheLeaf : Type 0
RootIsTheLeaf = (settings : Settings) (n : Node)
    → IsLeaf settings.depth (levels settings []) n ↔ (n ≡ root settings.depth)

-- a node of level 0 has no finer neighbour
abbrev pub LowestHaveNoRim : Type 0
LowestHaveNoRim = (settings : Settings) (events : List Event) (n : Node) → n.level ≡ 0
    → rim settings.depth (levels settings events) n ≡ 0

-- ---- bricks

-- a field that agrees with a history's at each point of the world gives each node the brick of the history
abbrev pub WorldsGiveBricks : Type 0
WorldsGiveBricks = (settings : Settings) (events : List Event) (s : Field) (n : Node)
    → IsNode settings.depth n
    → ((p : Point) → IsInWorld settings.depth p → s p ≡ sample settings events p)
    → brick settings.depth s (levels settings events) n ≡ brick_after settings events n

-- ---- what one event touches

-- an edit touches the leaves whose closed cubes meet its region
abbrev pub EditsTouchWhatTheyMeet : Type 0
EditsTouchWhatTheyMeet = (settings : Settings) (events : List Event) (brush : Brush)
    → (let depth = settings.depth in touched settings events (Edit brush)
    ≡ filter (meets (region depth brush)) (leaves depth (levels settings events)))

-- an undo touches the leaves whose closed cubes meet the region of the last edit in force
abbrev pub UndosTouchWhatTheUndoneMeets : Type 0
UndosTouchWhatTheUndoneMeets = (settings : Settings) (events : List Event)
    → (let depth = settings.depth in touched settings events Undo
    ≡ filter (meets_newest depth (in_force events)) (leaves depth (levels settings events)))

-- an event that edits no node touches those that are new or have another rim
abbrev pub OthersTouchWhatTheyChange : Type 0
OthersTouchWhatTheyChange = (settings : Settings) (events : List Event) (event : Event)
    → ((n : Node) → edits settings.depth (in_force events) event n ≡ false)
    → touched settings events event ≡ changed_leaves settings.depth (levels settings events)
    (levels settings (events ++ event ∷ []))

-- a leaf that an event doesn't touch was a leaf before it
abbrev pub UntouchedWereLeaves : Type 0
UntouchedWereLeaves = (settings : Settings) (events : List Event) (event : Event) (n : Node)
    → IsLeaf settings.depth (levels settings (events ++ event ∷ [])) n
    → (Contains (touched settings events event) n → ⊥)
    → IsLeaf settings.depth (levels settings events) n

-- and has the brick that it had, where all events are lawful
abbrev pub UntouchedKeepBricks : Type 0
UntouchedKeepBricks = (settings : Settings) (events : List Event) (event : Event) (n : Node)
    → All (IsLawfulEvent settings.depth) (events ++ event ∷ [])
    → IsLeaf settings.depth (levels settings (events ++ event ∷ [])) n
    → (Contains (touched settings events event) n → ⊥)
    → brick_after settings events n ≡ brick_after settings (events ++ event ∷ []) n

-- ---- what a list of events touches

-- no events touch no node
abbrev pub NoneTouchNone : Type 0
NoneTouchNone = (settings : Settings) (history : List Event) (n : Node)
    → is_touched settings history [] n ≡ false

-- one event more touches the nodes of the others and its own
abbrev pub TouchedAddUp : Type 0
TouchedAddUp = (settings : Settings) (history events : List Event) (event : Event) (n : Node)
    → is_touched settings history (events ++ event ∷ []) n
    ≡ (is_touched settings history events n
    || is_among (touched settings (history ++ events) event) n)

-- a leaf after some events which none of them touches was a leaf before them
abbrev pub LeavesStay : Type 0
LeavesStay = (settings : Settings) (history events : List Event) (n : Node)
    → IsLeaf settings.depth (levels settings (history ++ events)) n
    → is_touched settings history events n ≡ false
    → IsLeaf settings.depth (levels settings history) n

-- and has the brick that it had, where all events are lawful
abbrev pub BricksStay : Type 0
BricksStay = (settings : Settings) (history events : List Event) (n : Node)
    → All (IsLawfulEvent settings.depth) (history ++ events)
    → IsLeaf settings.depth (levels settings (history ++ events)) n
    → is_touched settings history events n ≡ false
    → brick_after settings history n ≡ brick_after settings (history ++ events) n
