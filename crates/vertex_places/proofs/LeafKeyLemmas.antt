-- The keys of a leaf's cells are keys of the world, end in the leaf's cube, and some of them don't move.
--
-- For `LeafEdgeLemmas`, and in `block_mesh` for the builder. A leaf has two kinds of key: those of its own level, 16
-- cells to a side (`coarse_key`), and on its transitional faces those of the level below, 32 to a side (`fine_key`).
-- The ends of the first move as the leaf's points do (`coarse_ends`), and not at all where these are still
-- (`coarse_still`); those of the second never move, by the law `fine_points_stay` (`fine_ends`).
use Rattle.std.proofs.Common.{◌≡◌, ℕ, ◌+◌, ◌-◌, ◌*◌, ◌%◌, ◌^◌, ◌≤◌, refl, sym, ap, ◌∙◌, subst, arith, pos}
use Rattle.std.proofs.Math.Nat.{mul-mod_right}
use Rattle.std.proofs.lemmas.Nat.{mul-le}
use Rattle.lattice.proofs.SizeLemmas.{end_inside}
use Rattle.lattice.specs.declared.key.Key.{Key}
use Rattle.lattice.specs.declared.node.Node.{Node}
use Rattle.lattice.specs.declared.point.Axis.{Axis}
use Rattle.lattice.specs.declared.point.Axis.TheVariants.{X, Y, Z}
use Rattle.lattice.specs.declared.point.Point.{Point}
use Rattle.lattice.specs.declared.region.Region.{Region}
use Rattle.lattice.specs.Key.{IsKey, far_end}
use Rattle.lattice.specs.Node.{IsNode, cube, low_corner, node_side}
use Rattle.lattice.specs.Point.{IsInWorld, moved}
use Rattle.lattice.specs.Region.{IsWithin}
use Rattle.terrain.specs.Levels.{IsBalanced, IsLeaf, LevelMap}
use Rattle.lattice.specs.Steps.{AreAtMost, key_at, point_at}
use Rattle.terrain.specs.Blocks.{shift}
use Rattle.terrain.specs.Samples.{Field}
use Rattle.vertex_places.specs.declared.moves.Move.{Move}
use Rattle.vertex_places.specs.declared.places.End.{End}
use Rattle.vertex_places.specs.declared.leaf_rim.LeafRim.{LeafRim}
use Rattle.vertex_places.specs.Moves.{FinePointsStay, IsLeafOf, IsShift, IsWayIn, leaf_move, still_points}
use Rattle.vertex_places.proofs.Shifts.{leaf_move-still, leaf_shift}
use Rattle.vertex_places.specs.Places.{AreStill, IsEnd, IsStill}
use Rattle.vertex_places.proofs.Octants.{side_more}

-- a key ends a step further
pub far_end-key_at : (level : ℕ) (n : Node) (at : Point) (axis : Axis)
    → far_end (key_at level n at axis) ≡ point_at level n (moved axis 1 at)
far_end-key_at level n at X =
    let further : (low_corner n).x + 2 ^ level * at.x + 2 ^ level ≡ (low_corner n).x + 2 ^ level *
    (at.x + 1) = grind arith in
    ap (λ x. record (point_at level n at) { x = x }) further
far_end-key_at level n at Y =
    let further : (low_corner n).y + 2 ^ level * at.y + 2 ^ level ≡ (low_corner n).y + 2 ^ level *
    (at.y + 1) = grind arith in
    ap (λ y. record (point_at level n at) { y = y }) further
far_end-key_at level n at Z =
    let further : (low_corner n).z + 2 ^ level * at.z + 2 ^ level ≡ (low_corner n).z + 2 ^ level *
    (at.z + 1) = grind arith in
    ap (λ z. record (point_at level n at) { z = z }) further

-- steps before the last one
pub AreAtMost-before : (most : ℕ) (axis : Axis) (at : Point) → AreAtMost most (moved axis 1 at)
    → AreAtMost most at
AreAtMost-before most X at h = record { z = h.z; y = h.y; x = omega (arith, h.x) }
AreAtMost-before most Y at h = record { z = h.z; y = omega (arith, h.y); x = h.x }
AreAtMost-before most Z at h = record { z = omega (arith, h.z); y = h.y; x = h.x }

-- ---- on an axis, where a node's side is so many cells

-- steps within a side end within it
within-axis : (index side count cell c : ℕ) → side ≡ count * cell → c ≤ count
    → index * side + cell * c ≤ (index + 1) * side
within-axis index side count cell c long h =
    let part = mul-le cell c cell count (omega arith) h in
    let turned : cell * count ≡ side = grind arith in
    let next : (index + 1) * side ≡ index * side + side = grind arith in
    omega (arith, part, turned, next)

-- and at a multiple of the cell
multiple-axis : (index side count cell c : ℕ) → side ≡ count * cell
    → (index * side + cell * c) % cell ≡ 0
multiple-axis index side count cell c long =
    let same : index * side + cell * c ≡ cell * (index * count + c) = grind arith in
    ap (λ n. n % cell) same ∙ mul-mod_right cell (index * count + c)

module _ (n : Node) (level count : ℕ) (long : node_side n.level ≡ count * 2 ^ level) where
  -- the lattice points of a node lie in its cube
  pub point_at-within : (at : Point) → AreAtMost count at
      → IsWithin (cube n) (point_at level n at)
  point_at-within at h = record {
    z = omega arith;
    z_end = within-axis n.k (node_side n.level) count (2 ^ level) at.z long h.z;
    y = omega arith;
    y_end = within-axis n.j (node_side n.level) count (2 ^ level) at.y long h.y;
    x = omega arith;
    x_end = within-axis n.i (node_side n.level) count (2 ^ level) at.x long h.x;
  }

  -- and so in the world
  pub point_at-inside : (depth : ℕ) (at : Point) → IsNode depth n → AreAtMost count at
      → IsInWorld depth (point_at level n at)
  point_at-inside depth at node h =
      let box = point_at-within at h in
      record {
        z = omega (arith, box.z_end, end_inside depth n.level n.k node.level node.k);
        y = omega (arith, box.y_end, end_inside depth n.level n.j node.level node.j);
        x = omega (arith, box.x_end, end_inside depth n.level n.i node.level node.i);
      }

  -- the keys between them are keys of the world
  pub key_at-is : (depth : ℕ) (at : Point) (axis : Axis) → IsNode depth n → level ≤ depth
      → AreAtMost count (moved axis 1 at) → IsKey depth (key_at level n at axis)
  key_at-is depth at axis node low h = record {
    level = low;
    z = multiple-axis n.k (node_side n.level) count (2 ^ level) at.z long;
    y = multiple-axis n.j (node_side n.level) count (2 ^ level) at.y long;
    x = multiple-axis n.i (node_side n.level) count (2 ^ level) at.x long;
    end = subst (IsInWorld depth) (sym (far_end-key_at level n at axis))
        (point_at-inside depth (moved axis 1 at) node h);
  }

-- ---- the two kinds of key of a leaf

-- a leaf has twice as many cells of the level below in a row
pub fine_side : (n : Node) → 1 ≤ n.level → node_side n.level ≡ 32 * 2 ^ (n.level - 1)
fine_side n some =
    let up : n.level - 1 + 1 ≡ n.level = omega arith in
    ap node_side (sym up) ∙ side_more (n.level - 1) ∙ omega arith

-- the key of an edge of a leaf's cells is a key of the world
pub coarse_key : (depth : ℕ) (n : Node) (at : Point) (axis : Axis) → IsNode depth n
    → AreAtMost 16 (moved axis 1 at) → IsKey depth (key_at n.level n at axis)
coarse_key depth n at axis node h = key_at-is n n.level 16 refl depth at axis node node.level h

-- so is the key of an edge half as long, on the level below
pub fine_key : (depth : ℕ) (n : Node) (at : Point) (axis : Axis) → IsNode depth n → 1 ≤ n.level
    → AreAtMost 32 (moved axis 1 at) → IsKey depth (key_at (n.level - 1) n at axis)
fine_key depth n at axis node some h =
    key_at-is n (n.level - 1) 32 (fine_side n some) depth at axis node (omega (arith, node.level)) h

-- by the law `fine_points_stay` the ends of a leaf's keys of the level below don't move
fine_point_still : FinePointsStay → (depth : ℕ) (m : LevelMap) (n : Node) (at : Point)
    → IsBalanced depth m → IsLeaf depth m n → 1 ≤ n.level → AreAtMost 32 at
    → IsStill depth m (n.level - 1) (point_at (n.level - 1) n at)
fine_point_still stay depth m n at balanced leaf some h = record {
  on = λ axis.
      stay depth m n (point_at (n.level - 1) n at) axis balanced leaf some
      (point_at-within n (n.level - 1) 32 (fine_side n some) at h);
}

-- nor does the far end of such a key
fine_end_still : FinePointsStay → (depth : ℕ) (m : LevelMap) (n : Node) (at : Point) (axis : Axis)
    → IsBalanced depth m → IsLeaf depth m n → 1 ≤ n.level → AreAtMost 32 (moved axis 1 at)
    → IsStill depth m (n.level - 1) (far_end (key_at (n.level - 1) n at axis))
fine_end_still stay depth m n at axis balanced leaf some h =
    subst (IsStill depth m (n.level - 1)) (sym (far_end-key_at (n.level - 1) n at axis))
    (fine_point_still stay depth m n (moved axis 1 at) balanced leaf some h)

-- ---- the ends of a key of a leaf's level

-- both ends of a key, as they are in a field and a level map
pub record AreEnds (depth : ℕ) (s : Field) (m : LevelMap) (key : Key) (near far : End)
    : Type 0 where
  pub begins : IsEnd depth s m key.level key.at near
  pub ends : IsEnd depth s m key.level (far_end key) far

-- the moves at a leaf's lattice points and the samples there are a key's ends
pub coarse_ends : (depth : ℕ) (s : Field) (m : LevelMap) (key : Key) (n : Node) (at : Point)
    (near far : End) → key ≡ key_at n.level n at key.axis
    → IsShift depth m n.level (point_at n.level n at) near.by
    → IsShift depth m n.level (point_at n.level n (moved key.axis 1 at)) far.by
    → near.sample ≡ s key.at → far.sample ≡ s (far_end key) → AreEnds depth s m key near far
coarse_ends depth s m key n at near far is from to here there =
    let level : key.level ≡ n.level = ap (λ (k : Key). k.level) is in
    let begin : key.at ≡ point_at n.level n at = ap (λ (k : Key). k.at) is in
    let end : far_end key ≡ point_at n.level n (moved key.axis 1 at) =
    ap far_end is ∙ far_end-key_at n.level n at key.axis in
    let shifted : (p : Point) (by : Move) → IsShift depth m n.level p by
    → IsShift depth m key.level p by =
    λ p by h. subst (λ l. IsShift depth m l p by) (sym level) h in
    record {
      begins = record {
        by = subst (λ p. IsShift depth m key.level p near.by) (sym begin) (shifted _ near.by from);
        sample = here;
      };
      ends = record {
        by = subst (λ p. IsShift depth m key.level p far.by) (sym end) (shifted _ far.by to);
        sample = there;
      };
    }

-- a point whose move is none is still
pub still-none : (depth : ℕ) (m : LevelMap) (level : ℕ) (p : Point) (by : Move)
    → by ≡ record { x = pos 0; y = pos 0; z = pos 0 } → IsShift depth m level p by
    → IsStill depth m level p
still-none depth m level p by none h = record { on = on }
  where
    on : (axis : Axis) → shift depth m level p axis ≡ pos 0
    on X = sym h.x ∙ ap (λ (b : Move). b.x) none
    on Y = sym h.y ∙ ap (λ (b : Move). b.y) none
    on Z = sym h.z ∙ ap (λ (b : Move). b.z) none

-- a key of the level below that lies in a leaf's cube is still at both ends
pub fine_ends : FinePointsStay → (depth : ℕ) (m : LevelMap) (key : Key) (n : Node) (at : Point)
    → key ≡ key_at (n.level - 1) n at key.axis → IsBalanced depth m → IsLeaf depth m n
    → 1 ≤ n.level → AreAtMost 32 (moved key.axis 1 at) → AreStill depth m key
fine_ends stay depth m key n at is balanced leaf some h =
    let still : AreStill depth m (key_at (n.level - 1) n at key.axis) = record {
      begins =
          fine_point_still stay depth m n at balanced leaf some
          (AreAtMost-before 32 key.axis at h);
      ends = fine_end_still stay depth m n at key.axis balanced leaf some h;
    } in
    subst (AreStill depth m) (sym is) still

-- ---- where no point of a leaf moves

-- a lattice point whose move is none is still
pub still-at : (m : LevelMap) (leaf : LeafRim) (at : Point) → IsLeafOf m leaf → AreAtMost 16 at
    → leaf_move leaf at.z at.y at.x ≡ record { x = pos 0; y = pos 0; z = pos 0 }
    → IsStill leaf.depth m leaf.node.level (point_at leaf.node.level leaf.node at)
still-at m leaf at is h none =
    still-none leaf.depth m leaf.node.level (point_at leaf.node.level leaf.node at)
    (leaf_move leaf at.z at.y at.x) none (leaf_shift leaf m at.z at.y at.x is h.z h.y h.x)

-- so are the lattice points on no face across which the place is finer
pub still-within : (m : LevelMap) (leaf : LeafRim) (at : Point) → IsLeafOf m leaf
    → IsWithin (still_points leaf) at
    → IsStill leaf.depth m leaf.node.level (point_at leaf.node.level leaf.node at)
still-within m leaf at is h =
    still-at m leaf at is
    (record {
      z = omega (arith, h.z_end);
      y = omega (arith, h.y_end);
      x = omega (arith, h.x_end);
    }) (leaf_move-still leaf at h)

-- a way along an axis is in a box where both of its ends are
pub way-begins : (box : Region) (axis : Axis) (at : Point) → IsWayIn box at (moved axis 1 at)
    → IsWithin box at
way-begins box X at h = record {
  z = h.z;
  z_end = h.z_end;
  y = h.y;
  y_end = h.y_end;
  x = h.x;
  x_end = omega (arith, h.x_end);
}
way-begins box Y at h = record {
  z = h.z;
  z_end = h.z_end;
  y = h.y;
  y_end = omega (arith, h.y_end);
  x = h.x;
  x_end = h.x_end;
}
way-begins box Z at h = record {
  z = h.z;
  z_end = omega (arith, h.z_end);
  y = h.y;
  y_end = h.y_end;
  x = h.x;
  x_end = h.x_end;
}

-- the same of the end
pub way-ends : (box : Region) (axis : Axis) (at : Point) → IsWayIn box at (moved axis 1 at)
    → IsWithin box (moved axis 1 at)
way-ends box X at h = record {
  z = h.z;
  z_end = h.z_end;
  y = h.y;
  y_end = h.y_end;
  x = omega (arith, h.x);
  x_end = h.x_end;
}
way-ends box Y at h = record {
  z = h.z;
  z_end = h.z_end;
  y = omega (arith, h.y);
  y_end = h.y_end;
  x = h.x;
  x_end = h.x_end;
}
way-ends box Z at h = record {
  z = omega (arith, h.z);
  z_end = h.z_end;
  y = h.y;
  y_end = h.y_end;
  x = h.x;
  x_end = h.x_end;
}

-- both ends of a key that begins and ends where nothing moves
pub coarse_still : (depth : ℕ) (m : LevelMap) (key : Key) (n : Node) (at : Point)
    → key ≡ key_at n.level n at key.axis
    → IsStill depth m n.level (point_at n.level n at)
    → IsStill depth m n.level (point_at n.level n (moved key.axis 1 at)) → AreStill depth m key
coarse_still depth m key n at is begins ends =
    let still : AreStill depth m (key_at n.level n at key.axis) = record {
      begins = begins;
      ends = subst (IsStill depth m n.level) (sym (far_end-key_at n.level n at key.axis)) ends;
    } in
    subst (AreStill depth m) (sym is) still
