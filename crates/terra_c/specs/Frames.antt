-- What is told of a frame.
-- Source: this project's rule.
use Rattle.std.specs.Prelude.{◌≡◌, ◌⊎◌, ℕ, List}
use Rattle.audits.specs.Audit.{audit_of}
use Rattle.snapshots.specs.Frame.{FrameState}
use Rattle.terrain.specs.Blocks.{scratch}
use Rattle.terrain.specs.Levels.{leaves, levels}
use Rattle.terra_c.specs.declared.shapes.TerraAudit.{TerraAudit}
use Rattle.terra_c.specs.declared.shapes.TerraNode.{TerraNode}
use Rattle.terra_c.specs.declared.status.TheConstants.{DONE, NO_MEMORY}
use Rattle.terra_c.specs.Blocks.{CopiesNodes}
use Rattle.terra_c.specs.Shapes.{c_audit}

-- a frame is audited: it has no crack; where memory runs out nothing is told
pub record Audits (frame : FrameState) (audit audit' : TerraAudit) (status : ℕ) : Type 0 where
  pub answers : (status ≡ DONE) ⊎ (status ≡ NO_MEMORY)
  pub done : status ≡ DONE
      → audit' ≡ c_audit (audit_of frame.settings.depth (scratch frame.settings frame.events))
  pub cracks : status ≡ DONE → audit'.cracks ≡ 0
  pub others : (status ≡ DONE → ⊥) → audit' ≡ audit

-- the leaves of a frame are counted and copied into room, in the order of nodes; where memory runs out count and room
-- are as they were
pub record Lists (frame : FrameState) (room room' : List TerraNode) (count count' status : ℕ)
    : Type 0 where
  pub told : (status ≡ NO_MEMORY → ⊥) → CopiesNodes
      (leaves frame.settings.depth (levels frame.settings frame.events)) room room' count' status
  pub others : status ≡ NO_MEMORY → (room' ≡ room) × (count' ≡ count)
