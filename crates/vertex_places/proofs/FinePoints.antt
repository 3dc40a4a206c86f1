-- No point of a leaf of a balanced map moves at the level below the leaf's, for the law `fine_points_stay`
-- (docs/rules.md, "Bricks and moves").
--
-- By balance no node of the level below is split that shares a face or an edge with the leaf (`beside_leaf`). So an
-- octant of that level is whole wherever it lies in the leaf's range on some axis (`whole_node`, `is_whole`). On each
-- axis and side one of two things holds: there is such an octant on the side that the point would leave, and it stays
-- for that; or none of the octants on that side is finer (`stays`). So it moves to neither side, and its shift is 0.
use Rattle.std.proofs.Common.{◌≡◌, ℕ, ◌+◌, ◌-◌, ◌*◌, ◌/◌, ◌<◌, ◌≤◌, Bool, true, false, ◌⊎◌, inl, inr, refl, sym, ap, ◌∙◌, arith}
use Rattle.std.specs.Prelude.{◌&&◌, not, nat_lt, pos}
use Rattle.std.proofs.Math.Nat.{div-mul-le_self, lt-div-mul-add}
use Rattle.std.proofs.lemmas.Bool.{and_left, and_right, cases_Bool, cases_lt, false≢true, lt-ltb, ltb-true}
use Rattle.lattice.proofs.SizeLemmas.{end_inside}
use Rattle.lattice.specs.declared.node.Node.{Node}
use Rattle.lattice.specs.declared.point.Axis.{Axis}
use Rattle.lattice.specs.declared.point.Axis.TheVariants.{X, Y, Z}
use Rattle.lattice.specs.declared.point.Point.{Point}
use Rattle.lattice.specs.Node.{cube, high_corner, low_corner, node_side}
use Rattle.lattice.specs.Region.{IsWithin}
use Rattle.lattice.specs.Settings.{world_side}
use Rattle.terrain.specs.Blocks.{is_finer_octant, is_whole_octant, moves_towards, shift}
use Rattle.level_laws.specs.Laws.{SplitBesideSplit}
use Rattle.terrain.specs.Levels.{IsBalanced, IsLeaf, LevelMap, Overlap, ShareSegment, Touch}
use Rattle.terrain.specs.World.{Octant, has_octant, octant_node}
use Rattle.vertex_places.proofs.Octants.{octant_fits, octant_index, side_some}
use Rattle.vertex_places.specs.Moves.{quarter}
use Rattle.vertex_places.proofs.Shifts.{moved_by, shift-moved}
use Rattle.vertex_places.proofs.MovesTowardsLemmas.{towards-none, towards-whole}

-- ---- nodes beside a leaf

-- no node of the level below a leaf is split that shares a segment with the leaf
beside_leaf : SplitBesideSplit → (depth : ℕ) (m : LevelMap) → IsBalanced depth m → (n low : Node)
    → IsLeaf depth m n → low.level + 1 ≡ n.level → ShareSegment n low → m low ≡ false
beside_leaf splits depth m balanced n low leaf under shares =
    elim (cases_Bool (m low)) [
      | inl is_split ↦
          absurd (false≢true (sym leaf.whole
          ∙ splits depth m balanced n low leaf.node (sym under) is_split shares))
      | inr whole ↦ whole
    ]

-- ---- an octant on one axis, at a coordinate of a range

-- the node of an octant touches the range
touch-index : (low high s c : ℕ) (side : Bool) → 0 < s → low ≤ c → c ≤ high
    → Touch low high (octant_index s c side * s) ((octant_index s c side + 1) * s)
touch-index low high s c true some from to =
    let before : c / s * s ≤ c = div-mul-le_self c s in
    let after : c < c / s * s + s = lt-div-mul-add some in
    (omega arith, omega arith)
touch-index low high s c false some from to =
    let before : (c - 1) / s * s ≤ c - 1 = div-mul-le_self (c - 1) s in
    let after : c - 1 < (c - 1) / s * s + s = lt-div-mul-add some in
    (omega arith, omega arith)

-- the side of an octant that lies in the range
abbrev pub inner : ℕ → ℕ → Bool
inner high c = nat_lt c high

-- the node of an octant on the leaf's own side overlaps the range
overlap-index : (low high s c : ℕ) (side : Bool) → 0 < s → low ≤ c → c ≤ high → low < high
    → inner high c ≡ side
    → Overlap low high (octant_index s c side * s) ((octant_index s c side + 1) * s)
overlap-index low high s c true some from to long is =
    let below : c < high = ltb-true c high is in
    let before : c / s * s ≤ c = div-mul-le_self c s in
    let after : c < c / s * s + s = lt-div-mul-add some in
    (omega arith, omega arith)
overlap-index low high s c false some from to long is =
    let end : high ≤ c = elim (cases_lt c high)
    [ inl below ↦ absurd (false≢true (sym is ∙ lt-ltb c high below)) | inr past ↦ past ] in
    let before : (c - 1) / s * s ≤ c - 1 = div-mul-le_self (c - 1) s in
    let after : c - 1 < (c - 1) / s * s + s = lt-div-mul-add some in
    (omega arith, omega arith)

-- such an octant is in the world
inner_fits : (low high end c : ℕ) (side : Bool) → c ≤ high → low < high → high ≤ end
    → inner high c ≡ side → octant_fits end c side ≡ true
inner_fits low high end c true to long within is =
    let below : c < high = ltb-true c high is in
    lt-ltb c end (omega arith)
inner_fits low high end c false to long within is =
    let past : high ≤ c = elim (cases_lt c high)
    [ inl below ↦ absurd (false≢true (sym is ∙ lt-ltb c high below)) | inr past ↦ past ] in
    lt-ltb 0 c (omega arith)

-- ---- the octants at a point of a leaf

module _ (splits : SplitBesideSplit) (depth : ℕ) (m : LevelMap) (n : Node) (p : Point)
    (balanced : IsBalanced depth m) (leaf : IsLeaf depth m n) (some : 1 ≤ n.level)
    (within : IsWithin (cube n) p) where
  -- the level below
  abbrev below : ℕ
  below = n.level - 1

  -- the octants at the point that are finer, on that level
  abbrev finer : Octant → Bool
  finer o = is_finer_octant depth m below p o

  -- and those that are whole
  abbrev whole : Octant → Bool
  whole o = is_whole_octant depth m below p o

  -- a node has a side
  long : (index : ℕ) → index * node_side n.level < (index + 1) * node_side n.level
  long index = let more = side_some n.level in omega (arith, more)

  -- an octant that lies in the leaf's range on some axis
  IsInner : Octant → Type 0
  IsInner o =
      (inner (high_corner n).z p.z ≡ o.z)
      ⊎ ((inner (high_corner n).y p.y ≡ o.y) ⊎ (inner (high_corner n).x p.x ≡ o.x))

  -- its node shares a segment with the leaf, so it isn't split
  whole_node : (o : Octant) → IsInner o → m (octant_node below p o) ≡ false
  unfolding IsInner
  whole_node o is =
      let s = node_side below in
      let lo = low_corner n in
      let hi = high_corner n in
      let small = side_some below in
      let shares : ShareSegment n (octant_node below p o) = record {
        z = touch-index lo.z hi.z s p.z o.z small within.z within.z_end;
        y = touch-index lo.y hi.y s p.y o.y small within.y within.y_end;
        x = touch-index lo.x hi.x s p.x o.x small within.x within.x_end;
        length =
            elim is [
              | inl e ↦
                  inl (overlap-index lo.z hi.z s p.z o.z small within.z within.z_end (long n.k) e)
              | inr r ↦
                  elim r [
                    | inl e ↦
                        inr (inl
                        (overlap-index lo.y hi.y s p.y o.y small within.y within.y_end (long n.j)
                        e))
                    | inr e ↦
                        inr (inr
                        (overlap-index lo.x hi.x s p.x o.x small within.x within.x_end (long n.i)
                        e))
                  ]
            ];
      } in
      beside_leaf splits depth m balanced n (octant_node below p o) leaf (omega arith) shares

  -- the leaf's own side on an axis is in the world
  fits_z : octant_fits (world_side depth) p.z (inner (high_corner n).z p.z) ≡ true
  fits_z =
      inner_fits (low_corner n).z (high_corner n).z (world_side depth) p.z _ within.z_end
      (long n.k) (end_inside depth n.level n.k leaf.node.level leaf.node.k) refl

  -- the same along y
  fits_y : octant_fits (world_side depth) p.y (inner (high_corner n).y p.y) ≡ true
  fits_y =
      inner_fits (low_corner n).y (high_corner n).y (world_side depth) p.y _ within.y_end
      (long n.j) (end_inside depth n.level n.j leaf.node.level leaf.node.j) refl

  -- and along x
  fits_x : octant_fits (world_side depth) p.x (inner (high_corner n).x p.x) ≡ true
  fits_x =
      inner_fits (low_corner n).x (high_corner n).x (world_side depth) p.x _ within.x_end
      (long n.i) (end_inside depth n.level n.i leaf.node.level leaf.node.i) refl

  -- an octant beside the leaf's own one is whole, or there is none on its side of the axis
  is_whole : (o : Octant) → IsInner o → has_octant depth p o ≡ true → whole o ≡ true
  is_whole o is there = let w = whole_node o is in λ t. there t && not (w t)

  -- the point moves to neither side of an axis
  stays : (axis : Axis) (side : Bool) → moves_towards depth m below p axis side ≡ false
  unfolding IsInner
  stays X side =
      let z = inner (high_corner n).z p.z in
      let y = inner (high_corner n).y p.y in
      elim (cases_Bool (octant_fits (world_side depth) p.x (not side))) [
        | inl there ↦
            towards-whole finer whole X side z y (not side) refl
            (is_whole (record { z = z; y = y; x = not side }) (inl refl)
            (λ t. fits_z t && fits_y t && there t))
        | inr none ↦
            towards-none finer whole X side (λ o e.
            and_left _ _ (and_right _ _ (ap (octant_fits (world_side depth) p.x) e ∙ none)))
      ]
  stays Y side =
      let z = inner (high_corner n).z p.z in
      let x = inner (high_corner n).x p.x in
      elim (cases_Bool (octant_fits (world_side depth) p.y (not side))) [
        | inl there ↦
            towards-whole finer whole Y side z (not side) x refl
            (is_whole (record { z = z; y = not side; x = x }) (inl refl)
            (λ t. fits_z t && there t && fits_x t))
        | inr none ↦
            towards-none finer whole Y side (λ o e.
            and_left _ _ (and_left _ _ (and_right _ _ (ap (octant_fits (world_side depth) p.y) e
            ∙ none))))
      ]
  stays Z side =
      let y = inner (high_corner n).y p.y in
      let x = inner (high_corner n).x p.x in
      elim (cases_Bool (octant_fits (world_side depth) p.z (not side))) [
        | inl there ↦
            towards-whole finer whole Z side (not side) y x refl
            (is_whole (record { z = not side; y = y; x = x }) (inr (inl refl))
            (λ t. there t && fits_y t && fits_x t))
        | inr none ↦
            towards-none finer whole Z side (λ o e.
            and_left _ _ (and_left _ _ (and_left _ _ (ap (octant_fits (world_side depth) p.z) e
            ∙ none))))
      ]

-- where a point moves to neither side, its shift is 0
shift-none : (depth : ℕ) (m : LevelMap) (level : ℕ) (p : Point) (axis : Axis)
    → moves_towards depth m level p axis true ≡ false
    → moves_towards depth m level p axis false ≡ false → shift depth m level p axis ≡ pos 0
shift-none depth m level p axis up down =
    shift-moved depth m level p axis ∙ (λ t. moved_by (quarter level) (up t) (down t))

-- no point of a leaf of a balanced map moves at the level below the leaf's
pub fine_point_stays : SplitBesideSplit → (depth : ℕ) (m : LevelMap) (n : Node) (p : Point)
    (axis : Axis) → IsBalanced depth m → IsLeaf depth m n → 1 ≤ n.level
    → IsWithin (cube n) p
    → shift depth m (n.level - 1) p axis ≡ pos 0
fine_point_stays splits depth m n p axis balanced leaf some within =
    shift-none depth m (n.level - 1) p axis
    (stays splits depth m n p balanced leaf some within axis true)
    (stays splits depth m n p balanced leaf some within axis false)
