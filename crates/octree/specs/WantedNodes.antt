-- The nodes of a level that are wanted split: for each camera a box of indices.
-- Source: this project's rule.
use Rattle.std.specs.Prelude.{◌≡◌, ℕ, ◌+◌, ◌*◌, ◌<◌, ◌≤◌, ◌↔◌, IsTrue, List, Option, option_to_list}
use Rattle.lattice.specs.declared.point.Point.{Point}
use Rattle.lattice.specs.declared.node.Node.{Node}
use Rattle.lattice.specs.declared.settings.Settings.{Settings}
use Rattle.lattice.specs.Node.{IsNode, node_side, nodes_across}
use Rattle.terrain.specs.World.{gap}
use Rattle.terrain.specs.Levels.{is_wanted, is_wanted_from}
use Rattle.octree.specs.declared.indices.Indices.{Indices}
use Rattle.octree.specs.declared.indices.NodeBox.{NodeBox}

-- on an axis, a node with this index is near enough to a camera to be wanted split
abbrev pub IsNear : Settings → ℕ → ℕ → ℕ → Type 0
IsNear settings level c index =
    2 * gap (index * node_side level) ((index + 1) * node_side level) c
    < settings.reach * node_side level

-- an index is one of those from a low one to just below an end
abbrev pub IsAmong : Indices → ℕ → Type 0
IsAmong indices index = (indices.low ≤ index) × (index < indices.end)

-- a node is of a level, and its indices are among those of a row, of a plane and of a box
pub record IsInRow (level k j : ℕ) (is : Indices) (n : Node) : Type 0 where
  pub at : n.level ≡ level
  pub same_k : n.k ≡ k
  pub same_j : n.j ≡ j
  pub in_i : IsAmong is n.i

pub record IsInPlane (level k : ℕ) (js is : Indices) (n : Node) : Type 0 where
  pub at : n.level ≡ level
  pub same_k : n.k ≡ k
  pub in_j : IsAmong js n.j
  pub in_i : IsAmong is n.i

-- a node of the world of a level is wanted split for a camera
pub record IsWantedAt (settings : Settings) (level : ℕ) (camera : Point) (n : Node) : Type 0 where
  pub node : IsNode settings.depth n
  pub at : n.level ≡ level
  pub near : IsTrue (is_wanted_from settings camera n)

-- a node of the world of a level is wanted split for one of these cameras
pub record IsWantedOf (settings : Settings) (level : ℕ) (cameras : List Point) (n : Node)
    : Type 0 where
  pub node : IsNode settings.depth n
  pub at : n.level ≡ level
  pub near : IsTrue (is_wanted settings cameras n)

-- the indices of a node are among those of a box
abbrev pub IsInside : NodeBox → Node → Type 0
IsInside box n = IsAmong box.ks n.k × IsAmong box.js n.j × IsAmong box.is n.i

-- a box has just the nodes of a level that are wanted split for a camera, or for none
pub record IsWantedBox (settings : Settings) (level : ℕ) (camera : Option Point) (box : NodeBox)
    : Type 0 where
  pub k_end : box.ks.end ≤ nodes_across settings.depth level
  pub j_end : box.js.end ≤ nodes_across settings.depth level
  pub i_end : box.is.end ≤ nodes_across settings.depth level
  pub each : (n : Node) → IsNode settings.depth n → n.level ≡ level
      → IsInside box n ↔ IsTrue (is_wanted settings (option_to_list camera) n)

-- cameras want the same nodes of the world split as others
abbrev pub WantSame : Settings → List Point → List Point → Type 0
WantSame settings a b =
    (n : Node) → IsNode settings.depth n → is_wanted settings a n ≡ is_wanted settings b n
