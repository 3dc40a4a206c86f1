-- The brick of the opening frame's leaf, and the frame's level map.
use Rattle.std.proofs.Common.{◌≡◌, List, [], sym, ap, ◌∙◌, subst}
use Rattle.field_pages.specs.Pages.{HoldsField, Pages, sample_at}
use Rattle.lattice.specs.declared.node.Node.{Node}
use Rattle.lattice.specs.declared.point.Point.{Point}
use Rattle.lattice.specs.declared.settings.Settings.{Settings}
use Rattle.lattice.specs.Point.{IsInWorld}
use Rattle.octree.specs.SplitBits.{SplitBits, split_at}
use Rattle.terrain.specs.declared.event.Event.{Event}
use Rattle.terrain.specs.Blocks.{brick}
use Rattle.terrain.specs.History.{sample}
use Rattle.terrain.specs.Levels.{levels, split}
use Rattle.terrain.specs.Samples.{Field}
use Rattle.event_laws.specs.Changes.{brick_after}
use Rattle.event_laws.specs.Laws.{NobodyLooks}

-- a version and bits that hold a history have the history's bricks
pub brick_held : (settings : Settings) (history : List Event) (version : Pages) (bits : SplitBits)
    (n : Node)
    → ((s : Field) → ((p : Point) → IsInWorld settings.depth p → s p ≡ sample settings history p)
    → brick settings.depth s (levels settings history) n ≡ brick_after settings history n)
    → version.depth ≡ settings.depth → HoldsField version (sample settings history)
    → bits.depth ≡ settings.depth → ((k : Node) → split_at bits k ≡ levels settings history k)
    → brick bits.depth (sample_at version) (split_at bits) n ≡ brick_after settings history n
brick_held settings history version bits n give depth field bits_depth map_is =
    (λ i. brick (bits_depth i) (sample_at version) (λ k. map_is k i) n)
    ∙ give (sample_at version)
    (λ p inside. field p (subst (λ d. IsInWorld d p) (sym depth) inside))

-- the map that is chosen for no viewpoint is that of the empty journal
pub opening_map : NobodyLooks → (settings : Settings) (bits : SplitBits)
    → ((n : Node) → split_at bits n ≡ split settings [] n)
    → (n : Node) → split_at bits n ≡ levels settings [] n
opening_map nobody settings bits chosen n =
    chosen n ∙ ap (λ points. split settings points n) (sym nobody)
