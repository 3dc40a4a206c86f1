-- Values that have a spelling: each of their numbers fits the bytes that it has on the wire.
-- Source: this project's rule.
use Rattle.std.specs.Prelude.{◌≡◌, ℕ, ◌^◌, ◌<◌, ◌++◌, List, All, length}
use Rattle.lattice.specs.declared.key.Key.{Key}
use Rattle.lattice.specs.declared.node.Node.{Node}
use Rattle.lattice.specs.declared.point.Point.{Point}
use Rattle.lattice.specs.declared.point.Pos.{Pos}
use Rattle.lattice.specs.declared.settings.Settings.{Settings}
use Rattle.terrain.specs.declared.brush.Brush.TheVariants.{Cuboid, Ball, Ground, Smooth}
use Rattle.terrain.specs.declared.event.Event.{Event}
use Rattle.terrain.specs.declared.event.Event.TheVariants.{Edit, Camera, Away, Undo}
use Rattle.replicas.specs.Grammar.{WireBlock, WirePatch}

-- settings in a byte each
pub record FitsSettings (settings : Settings) : Type 0 where
  pub depth : settings.depth < 2 ^ 8
  pub reach : settings.reach < 2 ^ 8

-- the coordinates of a point in two bytes each
pub record FitsPoint (p : Point) : Type 0 where
  pub x : p.x < 2 ^ 16
  pub y : p.y < 2 ^ 16
  pub z : p.z < 2 ^ 16

-- a node's level in a byte, and i, j and k in two each
pub record FitsNode (n : Node) : Type 0 where
  pub level : n.level < 2 ^ 8
  pub i : n.i < 2 ^ 16
  pub j : n.j < 2 ^ 16
  pub k : n.k < 2 ^ 16

-- an event's points, radius or height in two bytes each number, and its viewpoint in one
abbrev pub FitsEvent : Event → Type 0
FitsEvent (Edit (Cuboid mode lo hi)) = FitsPoint lo × FitsPoint hi
FitsEvent (Edit (Ball mode at r)) = FitsPoint at × (r < 2 ^ 16)
FitsEvent (Edit (Ground mode h)) = h < 2 ^ 16
FitsEvent (Edit (Smooth lo hi)) = FitsPoint lo × FitsPoint hi
FitsEvent (Camera view at) = (view < 2 ^ 8) × FitsPoint at
FitsEvent (Away view) = view < 2 ^ 8
FitsEvent Undo = Unit {0}

-- a key's level in a byte, and its point
pub record FitsKey (key : Key) : Type 0 where
  pub level : key.level < 2 ^ 8
  pub at : FitsPoint key.at

-- the coordinates of a position in four bytes each
pub record FitsPosition (at : Pos) : Type 0 where
  pub x : at.x < 2 ^ 32
  pub y : at.y < 2 ^ 32
  pub z : at.z < 2 ^ 32

-- a triangle's three places in four bytes each
pub record FitsTriangle (places : List ℕ) : Type 0 where
  pub three : length places ≡ 3
  pub each : All (λ place. place < 2 ^ 32) places

-- a block's parts, each key with a position, and the counts of its keys and triangles in four bytes
pub record FitsBlock (block : WireBlock) : Type 0 where
  pub node : FitsNode block.node
  pub keys : All FitsKey block.mesh.keys
  pub positions : All FitsPosition block.mesh.positions
  pub triangles : All FitsTriangle block.mesh.triangles
  pub paired : length block.mesh.positions ≡ length block.mesh.keys
  pub key_count : length block.mesh.keys < 2 ^ 32
  pub triangle_count : length block.mesh.triangles < 2 ^ 32

-- a patch's parts, and its base and the counts of its events, nodes and blocks in four bytes
pub record FitsPatch (patch : WirePatch) : Type 0 where
  pub base : patch.base < 2 ^ 32
  pub events : All FitsEvent patch.events
  pub gone : All FitsNode patch.gone
  pub blocks : All FitsBlock patch.blocks
  pub event_count : length patch.events < 2 ^ 32
  pub gone_count : length patch.gone < 2 ^ 32
  pub block_count : length patch.blocks < 2 ^ 32

-- ---- spellings apart

-- no spelling begins another: of values that have a spelling, what is behind the one is behind the other, and they are
-- the same
abbrev pub NoneBeginsAnother : {A : Type 0} → (A → Type 0) → (A → List ℕ) → Type 0
NoneBeginsAnother {A} Fits spelling =
    (a b : A) (x y : List ℕ) → Fits a → Fits b → spelling a ++ x ≡ spelling b ++ y
    → (a ≡ b) × (x ≡ y)
