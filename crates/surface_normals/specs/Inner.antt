-- Keys in a leaf, whose normals are made from the samples that the leaf's brick has. This project's rule.
use Rattle.std.specs.Prelude.{◌≡◌, ℕ, ◌+◌, ◌-◌, ◌<◌, ◌≤◌, ℤ, pos, ◌+ℤ◌, ◌-ℤ◌, ◌*ℤ◌, List, slice_index_or, unsigned_abs}
use Rattle.bricks.specs.Slots.{point_slot}
use Rattle.bricks.specs.declared.brick.TheConstants.{LEAF_SAMPLES}
use Rattle.lattice.specs.declared.key.Key.{Key}
use Rattle.lattice.specs.declared.node.Node.{Node}
use Rattle.lattice.specs.declared.node.TheConstants.{CELLS}
use Rattle.lattice.specs.declared.point.Axis.{Axis}
use Rattle.lattice.specs.declared.point.Point.{Point}
use Rattle.lattice.specs.Node.{IsNode}
use Rattle.lattice.specs.Point.{coordinate, moved}
use Rattle.lattice.specs.Steps.{AreAtMost, point_at}
use Rattle.terrain.specs.Blocks.{Brick, leaf_samples}
use Rattle.terrain.specs.Samples.{Field}
use Rattle.surface_normals.specs.declared.inner.Slots.{Slots}

-- a brick is of a node of a world and has a field's samples of it
pub record HasLeafSamples (depth : ℕ) (s : Field) (b : Brick) : Type 0 where
  pub node : IsNode depth b.node
  pub samples : b.samples ≡ leaf_samples s b.node

-- so many steps from a leaf's low corner lead to neither side of it
pub record IsInner (steps : ℕ) : Type 0 where
  pub some : 1 ≤ steps
  pub few : steps < CELLS

-- a key lies in a leaf: it has the leaf's level and begins so many steps from the leaf's low corner, its far end is a
-- point of the leaf too, and the slots are those of its ends
pub record IsInLeaf (n : Node) (key : Key) (slots : Slots) : Type 0 where
  pub level : key.level ≡ n.level
  pub at : key.at ≡ point_at n.level n slots.steps
  pub most : AreAtMost CELLS (moved key.axis 1 slots.steps)
  pub near : slots.near ≡ point_slot slots.steps
  pub far : slots.far ≡ point_slot (moved key.axis 1 slots.steps)
  pub along : slots.along ≡ coordinate key.axis slots.steps

-- a point is a leaf's, by its slot and by how many steps on an axis it is behind the leaf's low corner
pub record IsLeafPoint (n : Node) (axis : Axis) (p : Point) (index count : ℕ) : Type 0 where
  pub steps : Point
  pub most : AreAtMost CELLS steps
  pub at : p ≡ point_at n.level n steps
  pub slot : index ≡ point_slot steps
  pub on : count ≡ coordinate axis steps

-- the slots at a step on either side of those of a key's ends are a leaf's
pub record FitsAcross (step : ℕ) (slots : Slots) : Type 0 where
  pub before : step ≤ slots.near
  pub order : slots.near ≤ slots.far
  pub further : slots.far + step < LEAF_SAMPLES

-- how steep a leaf's samples are at a slot, along an axis whose neighbours are so many slots apart
abbrev pub slope_at_slot : List ℤ → ℕ → ℕ → ℤ
slope_at_slot samples slot step =
    slice_index_or samples (slot + step) (pos 0) -ℤ slice_index_or samples (slot - step) (pos 0)

-- the normal on such an axis by the slots of a key's ends: the slopes at both, each as often as the other end's sample
-- says without its sign
abbrev pub normal_on_slots : List ℤ → Slots → ℕ → ℤ
normal_on_slots samples slots step =
    (pos (unsigned_abs (slice_index_or samples slots.far (pos 0)))
    *ℤ slope_at_slot samples slots.near step)
    +ℤ (pos (unsigned_abs (slice_index_or samples slots.near (pos 0)))
    *ℤ slope_at_slot samples slots.far step)
