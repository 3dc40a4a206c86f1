-- Edges of a leaf's cells, before their keys are made. This project's rule.
use Rattle.std.specs.Prelude.{◌≡◌, ℕ, ◌+◌, ◌-◌, ◌*◌, ◌<◌, ◌≤◌, ◌⊎◌, ℤ, unsigned_abs}
use Rattle.lattice.specs.declared.key.Key.{Key}
use Rattle.lattice.specs.declared.node.Node.{Node}
use Rattle.lattice.specs.declared.node.TheConstants.{CELLS}
use Rattle.lattice.specs.declared.point.Axis.{Axis}
use Rattle.lattice.specs.declared.point.Point.{Point}
use Rattle.lattice.specs.Key.{far_end}
use Rattle.lattice.specs.Node.{low_corner}
use Rattle.lattice.specs.Point.{moved, point_from}
use Rattle.terrain.specs.Samples.{Field, IsSample}
use Rattle.vertex_places.specs.declared.leaf_edge.LeafEdge.{LeafEdge}
use Rattle.lattice.specs.Steps.{AreAtMost}

-- the edge of a level that begins so many of its cells from the leaf's low corner
abbrev pub edge_at : ℕ → Point → Axis → ℤ → ℤ → LeafEdge
edge_at level at axis near far = record {
  z = at.z;
  y = at.y;
  x = at.x;
  axis = axis;
  level = level;
  near = near;
  far = far;
}

-- how many cells of its level an edge begins from the leaf's low corner
abbrev pub low_end : LeafEdge → Point
low_end e = record { z = e.z; y = e.y; x = e.x }

-- the key of an edge, where the leaf has this low corner
abbrev pub key_from : Point → LeafEdge → Key
key_from low e =
    record { level = e.level; at = point_from low e.level (low_end e); axis = e.axis }

-- the key of an edge of a leaf
abbrev pub key_of : Node → LeafEdge → Key
key_of n e = key_from (low_corner n) e

-- an edge is one of a leaf's cells
pub record IsCoarse (n : Node) (e : LeafEdge) : Type 0 where
  pub level : e.level ≡ n.level
  pub end : AreAtMost CELLS (moved e.axis 1 (low_end e))

-- an edge is one of the level below, and lies in the leaf
pub record IsFine (n : Node) (e : LeafEdge) : Type 0 where
  pub some : 1 ≤ n.level
  pub level : e.level ≡ n.level - 1
  pub end : AreAtMost (2 * CELLS) (moved e.axis 1 (low_end e))

-- an edge is one of a leaf, with samples that aren't both 0
pub record IsLeafEdge (n : Node) (e : LeafEdge) : Type 0 where
  pub lies : IsCoarse n e ⊎ IsFine n e
  pub near : IsSample e.near
  pub far : IsSample e.far
  pub some : 0 < unsigned_abs e.near + unsigned_abs e.far

-- the samples at both ends of a key
pub record AreEndSamples (s : Field) (key : Key) (near far : ℤ) : Type 0 where
  pub near_is : near ≡ s key.at
  pub far_is : far ≡ s (far_end key)
