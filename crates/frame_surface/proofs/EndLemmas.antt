-- The keys of a leaf's edges have their vertices in the leaf's closed cube.
--
-- A lattice point of the leaf moves into the leaf, by a quarter of a cell, or not at all (`moved-within`,
-- `coarse_end`); a point of the level below doesn't move (`still_end`). So both ends of an edge stay in the cube, and
-- the vertex lies between them (`coarse-lies`, `fine-lies`).
use Rattle.std.proofs.Common.{◌≡◌, ℕ, ◌+◌, ◌-◌, ◌*◌, ◌^◌, ◌≤◌, Bool, true, false, ℤ, pos, neg_ℤ, ◌+ℤ◌, inl, inr, refl, sym, ap, ◌∙◌, subst, arith}
use Rattle.std.specs.Prelude.{if◌then◌else◌}
use Rattle.std.proofs.Math.Nat.{mul-le-mul_left}
use Rattle.std.proofs.lemmas.Bool.{cases_eq}
use Rattle.std.proofs.lemmas.Int.{ints}
use Rattle.lattice.specs.declared.key.Key.{Key}
use Rattle.lattice.specs.declared.node.Node.{Node}
use Rattle.lattice.specs.declared.point.Axis.{Axis}
use Rattle.lattice.specs.declared.point.Axis.TheVariants.{X, Y, Z}
use Rattle.lattice.specs.declared.point.Point.{Point}
use Rattle.lattice.specs.declared.point.TheConstants.{UNITS}
use Rattle.lattice.specs.Key.{far_end}
use Rattle.lattice.specs.Node.{cube, high_corner, low_corner}
use Rattle.lattice.specs.Point.{coordinate, moved}
use Rattle.lattice.specs.Region.{IsWithin}
use Rattle.lattice.specs.Steps.{AreAtMost, key_at, point_at}
use Rattle.terrain.specs.Blocks.{place, shifted}
use Rattle.terrain.specs.Levels.{IsBalanced, IsLeaf, LevelMap, rim}
use Rattle.terrain.specs.Samples.{Field}
use Rattle.vertex_places.proofs.LeafKeyLemmas.{AreAtMost-before, far_end-key_at, fine_ends, fine_side, point_at-within}
use Rattle.vertex_places.proofs.Octants.{border_at-inside}
use Rattle.vertex_places.proofs.Shifts.{leaf_shift}
use Rattle.vertex_places.specs.declared.leaf_rim.LeafRim.{LeafRim}
use Rattle.vertex_places.specs.Directions.{border_at, border_of, inwards}
use Rattle.vertex_places.specs.Moves.{FinePointsStay, IsLeafOf, moves_inwards}
use Rattle.vertex_places.specs.Places.{IsStill}
use Rattle.frame_surface.proofs.BetweenLemmas.{HasInRange, IsInRange, place_on-within}
use Rattle.frame_surface.specs.Surface.{LiesIn}

-- a coordinate less a move
less : (x y : ℕ) → y ≤ x → pos x +ℤ neg_ℤ (pos y) ≡ pos (x - y)
less x y within = omega (arith, ints)

-- a lattice point of a leaf, so many cells from its low corner, on an axis: it moves inwards or not at all
moved-within : (index cell c : ℕ) (moves : Bool) → c ≤ 16
    → HasInRange (256 * (index * (16 * cell))) (256 * ((index + 1) * (16 * cell)))
    (pos (256 * (index * (16 * cell) + cell * c))
    +ℤ (if moves then inwards (border_at c) (pos (64 * cell)) else pos 0))
moved-within index cell c false most =
    let inside : cell * c ≤ cell * 16 = mul-le-mul_left cell most in
    let at : ℕ = 256 * (index * (16 * cell) + cell * c) in
    let none : at + 0 ≡ at = omega arith in
    record {
      number = at;
      is = ap pos none;
      range = record { from = omega arith; to = omega (arith, inside) };
    }
moved-within index cell c true most = elim (cases_eq c 0) [
  | inl low ↦
      let at : ℕ = 256 * (index * (16 * cell) + cell * c) in
      let step : border_at c ≡ 0 = ap border_at low in
      record {
        number = at + 64 * cell;
        is = ap (λ k. pos at +ℤ inwards k (pos (64 * cell))) step;
        range = record {
          from = omega arith;
          to = omega (arith, ap (λ k. cell * k) low);
        };
      }
  | inr not_low ↦
      elim (cases_eq c 16) [
        | inl high ↦
            let at : ℕ = 256 * (index * (16 * cell) + cell * c) in
            let step : border_at c ≡ 2 = ap border_at high in
            let far = ap (λ k. cell * k) high in
            record {
              number = at - 64 * cell;
              is =
                  ap (λ k. pos at +ℤ inwards k (pos (64 * cell))) step
                  ∙ less at (64 * cell) (omega (arith, far));
              range = record { from = omega (arith, far); to = omega (arith, far) };
            }
        | inr not_high ↦
            let at : ℕ = 256 * (index * (16 * cell) + cell * c) in
            let step : border_at c ≡ 1 = border_at-inside c (omega (arith, not_low))
            (omega (arith, not_high)) in
            let inside : cell * c ≤ cell * 16 = mul-le-mul_left cell most in
            let none : at + 0 ≡ at = omega arith in
            record {
              number = at;
              is = ap (λ k. pos at +ℤ inwards k (pos (64 * cell))) step ∙ ap pos none;
              range = record { from = omega arith; to = omega (arith, inside) };
            }
      ]
]

-- the range of a node on an axis
abbrev pub IsInNode : Node → Axis → ℤ → Type 0
IsInNode n axis z =
    HasInRange (UNITS * coordinate axis (low_corner n)) (UNITS * coordinate axis (high_corner n)) z

-- a lattice point of a leaf after its move
coarse_end : (m : LevelMap) (leaf : LeafRim) (at : Point) → IsLeafOf m leaf → AreAtMost 16 at
    → (axis : Axis) → IsInNode leaf.node axis
    (shifted leaf.depth m leaf.node.level (point_at leaf.node.level leaf.node at) axis)
coarse_end m leaf at is most X =
    let p = point_at leaf.node.level leaf.node at in
    let by = (leaf_shift leaf m at.z at.y at.x is most.z most.y most.x).x in
    subst (λ z. IsInNode leaf.node X (pos (UNITS * p.x) +ℤ z)) by
    (moved-within leaf.node.i (2 ^ leaf.node.level) at.x
    (moves_inwards leaf (border_of at.z at.y at.x) X) most.x)
coarse_end m leaf at is most Y =
    let p = point_at leaf.node.level leaf.node at in
    let by = (leaf_shift leaf m at.z at.y at.x is most.z most.y most.x).y in
    subst (λ z. IsInNode leaf.node Y (pos (UNITS * p.y) +ℤ z)) by
    (moved-within leaf.node.j (2 ^ leaf.node.level) at.y
    (moves_inwards leaf (border_of at.z at.y at.x) Y) most.y)
coarse_end m leaf at is most Z =
    let p = point_at leaf.node.level leaf.node at in
    let by = (leaf_shift leaf m at.z at.y at.x is most.z most.y most.x).z in
    subst (λ z. IsInNode leaf.node Z (pos (UNITS * p.z) +ℤ z)) by
    (moved-within leaf.node.k (2 ^ leaf.node.level) at.z
    (moves_inwards leaf (border_of at.z at.y at.x) Z) most.z)

-- a point of a node's cube that doesn't move
still_end : (depth : ℕ) (m : LevelMap) (level : ℕ) (n : Node) (p : Point) → IsWithin (cube n) p
    → IsStill depth m level p → (axis : Axis) → IsInNode n axis (shifted depth m level p axis)
still_end depth m level n p within still axis =
    let none : UNITS * coordinate axis p + 0 ≡ UNITS * coordinate axis p = omega arith in
    record {
      number = UNITS * coordinate axis p;
      is = ap (λ z. pos (UNITS * coordinate axis p) +ℤ z) (still.on axis) ∙ ap pos none;
      range = scaled axis;
    }
  where
    scaled : (axis : Axis) → IsInRange (UNITS * coordinate axis (low_corner n))
        (UNITS * coordinate axis (high_corner n)) (UNITS * coordinate axis p)
    scaled X = record { from = omega (arith, within.x); to = omega (arith, within.x_end) }
    scaled Y = record { from = omega (arith, within.y); to = omega (arith, within.y_end) }
    scaled Z = record { from = omega (arith, within.z); to = omega (arith, within.z_end) }

-- a key both of whose ends are in a node has its vertex there
lies : (depth : ℕ) (s : Field) (m : LevelMap) (n : Node) (key : Key)
    → ((axis : Axis) → IsInNode n axis (shifted depth m key.level key.at axis))
    → ((axis : Axis) → IsInNode n axis (shifted depth m key.level (far_end key) axis))
    → LiesIn n (place depth s m key)
lies depth s m n key near far =
    let on : (axis : Axis) → IsInRange (UNITS * coordinate axis (low_corner n))
    (UNITS * coordinate axis (high_corner n)) _ =
    λ axis. place_on-within depth s m key axis (UNITS * coordinate axis (low_corner n))
    (UNITS * coordinate axis (high_corner n)) (near axis) (far axis) in
    record {
      x = (on X).from;
      x_end = (on X).to;
      y = (on Y).from;
      y_end = (on Y).to;
      z = (on Z).from;
      z_end = (on Z).to;
    }

-- the key of an edge of a leaf's cells
pub coarse-lies : (depth : ℕ) (s : Field) (m : LevelMap) (n : Node) (at : Point) (axis : Axis)
    → IsLeaf depth m n → AreAtMost 16 (moved axis 1 at)
    → LiesIn n (place depth s m (key_at n.level n at axis))
coarse-lies depth s m n at axis is most =
    let leaf : LeafRim = record { depth = depth; node = n; rim = rim depth m n } in
    let of : IsLeafOf m leaf = record { node = is; bits = refl } in
    let key = key_at n.level n at axis in
    lies depth s m n key
    (coarse_end m leaf at of (AreAtMost-before 16 axis at most))
    (λ along. subst (λ p. IsInNode n along (shifted depth m n.level p along))
    (sym (far_end-key_at n.level n at axis)) (coarse_end m leaf (moved axis 1 at) of most along))

-- the key of an edge of the level below
pub fine-lies : FinePointsStay → (depth : ℕ) (s : Field) (m : LevelMap) (n : Node) (at : Point)
    (axis : Axis) → IsBalanced depth m → IsLeaf depth m n → 1 ≤ n.level
    → AreAtMost 32 (moved axis 1 at)
    → LiesIn n (place depth s m (key_at (n.level - 1) n at axis))
fine-lies stay depth s m n at axis balanced is some most =
    let key = key_at (n.level - 1) n at axis in
    let still = fine_ends stay depth m key n at refl balanced is some most in
    let long = fine_side n some in
    let begins = point_at-within n (n.level - 1) 32 long at (AreAtMost-before 32 axis at most) in
    let ends = point_at-within n (n.level - 1) 32 long (moved axis 1 at) most in
    lies depth s m n key (still_end depth m (n.level - 1) n key.at begins still.begins)
    (still_end depth m (n.level - 1) n (far_end key)
    (subst (IsWithin (cube n)) (sym (far_end-key_at (n.level - 1) n at axis)) ends) still.ends)
