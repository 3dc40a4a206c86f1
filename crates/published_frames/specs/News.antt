-- The news of a publication.
-- Source: this project's rule.
use Rattle.lattice.specs.declared.node.Node.{Node}
use Rattle.event_laws.specs.Changes.{Change}
use Rattle.block_mesh.specs.Done.{DoneState}
use Rattle.snapshots.specs.Frame.{FrameState}

-- the news of a publication: the published frame, and what changed since the publication before
pub record News : Type 0 where
  pub frame : FrameState
  pub changes : Change

-- the leaf of a block
abbrev pub leaf_of : DoneState → Node
leaf_of done = done.brick.node
