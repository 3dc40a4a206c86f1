-- A world, the history that it stands for, and what an event leaves of it.
-- Source: this project's rule.
use Rattle.std.specs.Prelude.{◌≡◌, ℕ, ◌<◌, ◌≤◌, not, List, [], ◌∷◌, ◌++◌, Option, Some, None, All, length, filter, Contains}
use Rattle.field_pages.specs.Pages.{HoldsField, Pages, sample_at}
use Rattle.lattice.specs.declared.node.Node.{Node}
use Rattle.lattice.specs.declared.point.Point.{Point}
use Rattle.lattice.specs.declared.settings.Settings.{Settings}
use Rattle.lattice.specs.Settings.{IsSettings}
use Rattle.octree.specs.declared.viewpoints.Viewpoints.{Viewpoints}
use Rattle.octree.specs.SplitBits.{SplitBits, split_at}
use Rattle.octree.specs.Viewpoints.{AreInWorld, place_of}
use Rattle.terrain.specs.declared.event.Event.{Event}
use Rattle.terrain.specs.declared.event.Event.TheVariants.{Edit, Camera, Away, Undo}
use Rattle.terrain.specs.Blocks.{Brick, brick}
use Rattle.terrain.specs.History.{IsLawfulEvent, sample}
use Rattle.terrain.specs.Levels.{IsBalanced, IsLeaf, is_leaf, leaves, levels, viewpoint}
use Rattle.terrain.specs.declared.event.TheConstants.{MAX_EVENTS, MAX_VIEWS}

-- a world: its settings, its journal, for how many events there is room, its field and its level map
pub record WorldState : Type 0 where
  pub settings : Settings
  pub events : List Event
  pub room : ℕ
  pub version : Pages
  pub levels : SplitBits

-- a world stands for a history: its journal is the history's events, its field has the history's sample at each point
-- of the world, and its level map is the history's
pub record IsWorldOf (world : WorldState) (rules : Settings) (history : List Event) : Type 0 where
  pub settings : world.settings ≡ rules
  pub journal : world.events ≡ history
  pub field_depth : world.version.depth ≡ rules.depth
  pub field : HoldsField world.version (sample rules history)
  pub map_depth : world.levels.depth ≡ rules.depth
  pub map : (n : Node) → split_at world.levels n ≡ levels rules history n

-- what every world keeps: its settings are allowed, its events are lawful, it stands for its journal, its level map is
-- balanced, and the journal has no more events than it may, with room for all of these
pub record IsSoundWorld (world : WorldState) : Type 0 where
  pub allowed : IsSettings world.settings
  pub lawful : All (IsLawfulEvent world.settings.depth) world.events
  pub stands : IsWorldOf world world.settings world.events
  pub balanced : IsBalanced world.settings.depth (split_at world.levels)
  pub few : length world.events ≤ MAX_EVENTS
  pub room : MAX_EVENTS ≤ world.room

-- viewpoints are where the events of a journal left them, each at a point of the world or nowhere
pub record AreViewsOf (settings : Settings) (events : List Event) (views : Viewpoints) : Type 0
  where
    pub count : length views.places ≡ MAX_VIEWS
    pub each : (view : ℕ) → view < MAX_VIEWS → place_of views view ≡ viewpoint events view
    pub inside : AreInWorld settings.depth views

-- the event that puts a viewpoint at a point, or nowhere
abbrev pub placing : ℕ → Option Point → Event
placing view (Some p) = Camera view p
placing view None = Away view

-- the leaves after a history that an event makes none, in the order of nodes
abbrev pub lost_by : Settings → List Event → Event → List Node
lost_by settings events event =
    let after = levels settings (events ++ event ∷ []) in
    filter (λ n. not (is_leaf settings.depth after n))
    (leaves settings.depth (levels settings events))

-- an edit and an undo keep the level map, and every other event the field
abbrev pub KeepsTheOther : Event → WorldState → WorldState → Type 0
KeepsTheOther (Edit brush) old new = new.levels ≡ old.levels
KeepsTheOther (Camera view at) old new = new.version ≡ old.version
KeepsTheOther (Away view) old new = new.version ≡ old.version
KeepsTheOther Undo old new = new.levels ≡ old.levels

-- the brick of a leaf of a world
abbrev pub brick_in : WorldState → Node → Brick
brick_in world n =
    brick world.settings.depth (sample_at world.version) (split_at world.levels) n

-- each leaf of the new world that isn't among these leaves was one of the old world, and has the brick that it had
pub record KeepsBricksBut (leaves : List Node) (old new : WorldState) : Type 0 where
  pub leaf : (n : Node) → IsLeaf new.settings.depth (split_at new.levels) n
      → (Contains leaves n → ⊥) → IsLeaf old.settings.depth (split_at old.levels) n
  pub same : (n : Node) → IsLeaf new.settings.depth (split_at new.levels) n
      → (Contains leaves n → ⊥) → brick_in new n ≡ brick_in old n
