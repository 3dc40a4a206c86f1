-- Meshes without cracks: those of a history from scratch, and those that a frame has.
-- Source: that blocks meet without cracks is after Lengyel (2010); counting directed edges is this project's rule.
use Rattle.std.specs.Prelude.{◌≡◌, List, All, map}
use Rattle.lattice.specs.declared.key.Key.{Key}
use Rattle.lattice.specs.declared.point.Pos.{Pos}
use Rattle.lattice.specs.declared.settings.Settings.{Settings}
use Rattle.terrain.specs.declared.event.Event.{Event}
use Rattle.terrain.specs.Blocks.{Mesh, LieOnBorder, border, frame_edges, net, scratch, times}
use Rattle.terrain.specs.History.{sample}
use Rattle.terrain.specs.Levels.{levels}
use Rattle.snapshots.specs.Frame.{FrameState}
use Rattle.snapshots.specs.Meshes.{meshes_of}

-- some meshes are seamless as the mesh of a history: each of their directed edges off the border of the world occurs
-- as often as its reverse, what their triangles leave open on the border is the history's curves there, and each key
-- has one position, in whichever of them it is
pub record AreSeamless (rules : Settings) (history : List Event) (meshes : List Mesh)
    : Type 0 where
  pub closed : (a b : Key) → (LieOnBorder rules.depth a b → ⊥)
      → times a b (frame_edges meshes) ≡ times b a (frame_edges meshes)
  pub on_border : (a b : Key) → net (frame_edges meshes) a b
      ≡ border rules.depth (sample rules history) (levels rules history) a b
  pub position : Key → Pos
  pub placed : All (λ (block : Mesh). block.positions ≡ map position block.keys) meshes

-- the mesh of a history from scratch is seamless
abbrev pub IsSeamless : Settings → List Event → Type 0
IsSeamless rules history = AreSeamless rules history (scratch rules history)

-- a frame has no crack: the meshes in its own slots are seamless, as the mesh of its journal
abbrev pub HasNoCrack : FrameState → Type 0
HasNoCrack frame = AreSeamless frame.settings frame.events (meshes_of frame)
