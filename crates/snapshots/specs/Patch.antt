-- Patches, which lead from one frame to a later one.
-- Source: this project's rule.
use Rattle.std.specs.Prelude.{◌≡◌, ◌++◌, All, length, map}
use Rattle.field_pages.specs.Pages.{HoldsField}
use Rattle.lattice.specs.declared.node.Node.{Node}
use Rattle.octree.specs.SplitBits.{split_at}
use Rattle.terrain.specs.History.{IsLawfulEvent, sample}
use Rattle.terrain.specs.Levels.{IsBalanced, levels}
use Rattle.event_laws.specs.Changes.{Change, brick_after, change}
use Rattle.snapshots.specs.Frame.{FrameState}
use Rattle.snapshots.specs.declared.patch.Patch.{Patch}

-- what a patch changes: the leaves whose blocks it puts, and those that it names as gone
abbrev pub changes_of : Patch → Change
changes_of patch = record {
  put = map (λ done. done.value.brick.node) patch.put.items;
  gone = patch.gone.items;
}

-- a patch fits a frame: its base is the number of the frame's events, all events are lawful, its field and its level
-- map are those after the frame's events and its own, it has just the leaves then that one of its events touched, in
-- the order of nodes, each with its present brick, and it names just the frame's leaves that are leaves no more, in
-- that order
pub record Fits (patch : Patch) (frame : FrameState) : Type 0 where
  pub base : patch.base ≡ length frame.events
  pub lawful : All (IsLawfulEvent frame.settings.depth) (frame.events ++ patch.events.items)
  pub field_depth : patch.version.value.depth ≡ frame.settings.depth
  pub field : HoldsField patch.version.value
      (sample frame.settings (frame.events ++ patch.events.items))
  pub levels_depth : patch.levels.value.depth ≡ frame.settings.depth
  pub split : (n : Node) → split_at patch.levels.value n
      ≡ levels frame.settings (frame.events ++ patch.events.items) n
  pub balanced : IsBalanced frame.settings.depth (split_at patch.levels.value)
  pub put : map (λ done. done.value.brick) patch.put.items
      ≡ map (brick_after frame.settings (frame.events ++ patch.events.items))
      (change frame.settings frame.events patch.events.items).put
  pub gone : patch.gone.items ≡ (change frame.settings frame.events patch.events.items).gone
