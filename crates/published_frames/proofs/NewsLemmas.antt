-- The leaves that news name are those of the patch's blocks.
use Rattle.std.proofs.Common.{◌≡◌, List, ◌++◌, map, ◌∙◌}
use Rattle.lattice.specs.declared.node.Node.{Node}
use Rattle.event_laws.specs.Changes.{Change, change}
use Rattle.snapshots.specs.Frame.{FrameState}
use Rattle.snapshots.specs.Patch.{Fits}
use Rattle.published_frames.specs.News.{leaf_of}
use Rattle.snapshots.specs.declared.patch.Patch.{Patch}
use Rattle.snapshots.proofs.ChangesLemmas.{nodes_of_blocks}

-- the leaves of the blocks of a patch that fits are those that its events put
put_nodes : (patch : Patch) (frame : FrameState) → Fits patch frame
    → map (λ done. leaf_of done.value) patch.put.items
    ≡ (change frame.settings frame.events patch.events.items).put
put_nodes patch frame fits =
    nodes_of_blocks (λ done. done.value) frame.settings (frame.events ++ patch.events.items)
    patch.put.items (change frame.settings frame.events patch.events.items).put fits.put

-- these leaves were put and these are gone
abbrev pub changes : List Node → List Node → Change
changes put gone = record { put = put; gone = gone }

-- the leaves of the blocks of a patch that fits, and those that it names as gone, are what its events change
pub changes_are : (patch : Patch) (frame : FrameState) (put gone : List Node) → Fits patch frame
    → put ≡ map (λ done. leaf_of done.value) patch.put.items → gone ≡ patch.gone.items
    → changes put gone ≡ change frame.settings frame.events patch.events.items
changes_are patch frame put gone fits are lost = λ i. record {
  put = (are ∙ put_nodes patch frame fits) i;
  gone = (lost ∙ fits.gone) i;
}
