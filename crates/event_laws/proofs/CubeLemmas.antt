-- The points at which a brick has samples are in its leaf's closed cube, and the points of a cube in the world.
-- Each coordinate of such a point is so many cells, or half cells, from the low corner of the leaf, and no more than a
-- side (IsBetween and the lemmas named between). A point is in the cube where this holds on each axis (within), which
-- gives the corners of cells (cell_corner-within) and, face by face, the finer points (fine_corner-within).
use Rattle.std.proofs.Common.{◌≡◌, ℕ, suc, ◌+◌, ◌-◌, ◌*◌, ◌^◌, ◌<◌, ◌≤◌, ap, ◌∙◌, arith}
use Rattle.std.proofs.Math.Nat.{pow-suc}
use Rattle.lattice.specs.declared.node.Node.{Node}
use Rattle.lattice.specs.declared.node.TheConstants.{CELLS}
use Rattle.lattice.specs.declared.point.Point.{Point}
use Rattle.lattice.specs.declared.point.Face.{Face}
use Rattle.lattice.specs.declared.point.Face.TheVariants.{XLow, XHigh, YLow, YHigh, ZLow, ZHigh}
use Rattle.lattice.specs.Face.{axis_along, higher, lower}
use Rattle.lattice.specs.Node.{cube, high_corner}
use Rattle.lattice.specs.Point.{IsInWorld, moved}
use Rattle.lattice.specs.Region.{IsWithin}
use Rattle.terrain.specs.Blocks.{cell_corner, square_corner}

-- a coordinate lies between the k-th and the next multiple of a node's side, whose cells have the side w
abbrev IsBetween : ℕ → ℕ → ℕ → Type 0
IsBetween w k c = (k * (CELLS * w) ≤ c) × (c ≤ (k + 1) * (CELLS * w))

-- so many cells as there are along a node end at most at its high end
cell_end : (w k z : ℕ) → z ≤ CELLS → k * (CELLS * w) + w * z ≤ (k + 1) * (CELLS * w)
cell_end w k z h = grind arith

-- so do twice as many half cells
half_end : (w half k v : ℕ) → w ≡ 2 * half → v ≤ 2 * CELLS
    → k * (CELLS * w) + w * 0 + half * v ≤ (k + 1) * (CELLS * w)
half_end w half k v twice h = grind arith

-- a coordinate that is so many cells from the low end lies in the node's range
between-cell : (w k z : ℕ) → z < CELLS + 1 → IsBetween w k (k * (CELLS * w) + w * z)
between-cell w k z h = (omega arith, cell_end w k z (omega arith))

-- so do the points half a cell apart
between-half : (w half k v : ℕ) → w ≡ 2 * half → v < 2 * CELLS + 1
    → IsBetween w k (k * (CELLS * w) + w * 0 + half * v)
between-half w half k v twice h = (omega arith, half_end w half k v twice (omega arith))

-- the low end does
between-low : (w k : ℕ) → IsBetween w k (k * (CELLS * w) + 0)
between-low w k = (omega arith, grind arith)

-- and the high end
between-high : (w k : ℕ) → IsBetween w k (k * (CELLS * w) + CELLS * w)
between-high w k = (omega arith, grind arith)

-- a point is in the cube where its coordinates lie in the three ranges
within : (n : Node) (p : Point) → IsBetween (2 ^ n.level) n.k p.z → IsBetween (2 ^ n.level) n.j p.y
    → IsBetween (2 ^ n.level) n.i p.x → IsWithin (cube n) p
within n p z y x =
    record { z = z.0; z_end = z.1; y = y.0; y_end = y.1; x = x.0; x_end = x.1 }

-- the corners of a leaf's cells
pub cell_corner-within : (n : Node) (z y x : ℕ) → z < CELLS + 1 → y < CELLS + 1 → x < CELLS + 1
    → IsWithin (cube n) (cell_corner n z y x)
cell_corner-within n z y x hz hy hx =
    let w = 2 ^ n.level in
    within n (cell_corner n z y x) (between-cell w n.k z hz) (between-cell w n.j y hy)
    (between-cell w n.i x hx)

-- the fine point that is the v-th on the higher axis of a leaf's face and the u-th on the lower one
abbrev pub fine_corner : Node → Face → ℕ → ℕ → Point
fine_corner n face v u =
    let half = 2 ^ (n.level - 1) in
    moved (axis_along face lower) (half * u)
    (moved (axis_along face higher) (half * v) (square_corner n face 0 0))

module _ (n : Node) (some : 1 ≤ n.level) (v u : ℕ) (hv : v < 2 * CELLS + 1)
    (hu : u < 2 * CELLS + 1) where
  -- a cell is two half cells, above level 0
  twice : 2 ^ n.level ≡ 2 * 2 ^ (n.level - 1)
  twice = (let up : n.level ≡ suc (n.level - 1) = omega arith in ap (λ k. 2 ^ k) up)
      ∙ omega (arith, pow-suc 2 (n.level - 1))

  -- a finer point lies in the range of the higher axis
  along_v : (k : ℕ) → IsBetween (2 ^ n.level) k
      (k * (CELLS * 2 ^ n.level) + 2 ^ n.level * 0 + 2 ^ (n.level - 1) * v)
  along_v k = between-half (2 ^ n.level) (2 ^ (n.level - 1)) k v twice hv

  -- and in that of the lower one
  along_u : (k : ℕ) → IsBetween (2 ^ n.level) k
      (k * (CELLS * 2 ^ n.level) + 2 ^ n.level * 0 + 2 ^ (n.level - 1) * u)
  along_u k = between-half (2 ^ n.level) (2 ^ (n.level - 1)) k u twice hu

  -- the low face lies in the range of the axis across it
  low : (k : ℕ) → IsBetween (2 ^ n.level) k (k * (CELLS * 2 ^ n.level) + 0)
  low k = between-low (2 ^ n.level) k

  -- so does the high face
  high : (k : ℕ) → IsBetween (2 ^ n.level) k (k * (CELLS * 2 ^ n.level) + CELLS * 2 ^ n.level)
  high k = between-high (2 ^ n.level) k

  -- the fine points of a leaf's face
  pub fine_corner-within : (face : Face) → IsWithin (cube n) (fine_corner n face v u)
  fine_corner-within XLow = within n (fine_corner n XLow v u) (along_v n.k) (along_u n.j) (low n.i)
  fine_corner-within XHigh =
      within n (fine_corner n XHigh v u) (along_v n.k) (along_u n.j) (high n.i)
  fine_corner-within YLow = within n (fine_corner n YLow v u) (along_v n.k) (low n.j) (along_u n.i)
  fine_corner-within YHigh =
      within n (fine_corner n YHigh v u) (along_v n.k) (high n.j) (along_u n.i)
  fine_corner-within ZLow = within n (fine_corner n ZLow v u) (low n.k) (along_v n.j) (along_u n.i)
  fine_corner-within ZHigh =
      within n (fine_corner n ZHigh v u) (high n.k) (along_v n.j) (along_u n.i)

-- a point of a node's cube is in the world
pub IsInWorld-cube : (depth : ℕ) (n : Node) (p : Point) → IsInWorld depth (high_corner n)
    → IsWithin (cube n) p → IsInWorld depth p
IsInWorld-cube depth n p corner on = record {
  z = omega (arith, corner.z, on.z_end);
  y = omega (arith, corner.y, on.y_end);
  x = omega (arith, corner.x, on.x_end);
}
