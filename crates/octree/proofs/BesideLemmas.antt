-- The nodes beside a node: those that the list of near nodes has, told by steps on three axes of which one is 0.
--
-- For `BalanceLemmas`, `AboveLemmas` and `OutwardLemmas`. A step is told as 0, 1 or 2, with 1 for none. `near_nodes` is
-- a list that is filtered and mapped from all 27 directions; `IsIn-near` puts a node that is beside into it, and
-- `near_tells` takes a node of it apart again (each near direction is in line on some axis: `is_near`, tried for all).
-- What is beside shares a segment, along the axis on which it is in line.
use Rattle.std.proofs.Common.{◌≡◌, ℕ, zero, suc, ◌+◌, ◌<◌, ◌≤◌, Bool, true, false, List, [], ◌∷◌, map, ◌⊎◌, refl, inl, inr, sym, ap, subst, arith}
use Rattle.std.specs.Prelude.{nat_lt, nat_le, ◌==◌, ◌&&◌, ◌||◌, flat_map}
use Rattle.std.proofs.lemmas.Bool.{and_parts, and_from, or_cases, ltb-true, leb-true, eqb-true, lt-ltb, le-leb}
use Rattle.lattice.proofs.FamilyLemmas.{same_node}
use Rattle.lattice.specs.declared.node.Node.{Node}
use Rattle.lattice.specs.Node.{node_side, nodes_across, IsNode}
use Rattle.lattice.specs.Offset.{Direction, all_directions, axes_left, near_directions, has_neighbour, neighbour, near_nodes}
use Rattle.terrain.specs.Levels.{ShareSegment}
use Rattle.level_laws.proofs.RangeLemmas.{side_some}
use Rattle.octree.proofs.ListLemmas.{IsIn, IsIn-map, IsIn-flat_map, IsIn-filter, IsIn-kept, IsIn-image, every_at}
use Rattle.octree.proofs.ShareSegmentLemmas.{beside, itself}

-- a node of the same level, by the steps to it; on some axis it is in line
pub record IsBeside (c q : Node) : Type 0 where
  pub level : q.level ≡ c.level
  pub step : Direction
  pub z_short : step.z ≤ 2
  pub y_short : step.y ≤ 2
  pub x_short : step.x ≤ 2
  pub k : c.k + step.z ≡ q.k + 1
  pub j : c.j + step.y ≡ q.j + 1
  pub i : c.i + step.x ≡ q.i + 1
  pub in_line : (step.z ≡ 1) ⊎ ((step.y ≡ 1) ⊎ (step.x ≡ 1))

-- the three steps on an axis: back, none, and forth
abbrev pub steps : List ℕ
steps = 0 ∷ 1 ∷ 2 ∷ []

-- a step of at most 2 is one of them
IsIn-steps : (n : ℕ) → n ≤ 2 → IsIn n steps
IsIn-steps zero h = inl refl
IsIn-steps (suc zero) h = inr (inl refl)
IsIn-steps (suc (suc zero)) h = inr (inr (inl refl))
IsIn-steps (suc (suc (suc n))) h = absurd (omega arith)

-- a direction of such steps is one of all 27
IsIn-all : (d : Direction) → d.z ≤ 2 → d.y ≤ 2 → d.x ≤ 2 → IsIn d all_directions
IsIn-all d hz hy hx =
    let row : ℕ → ℕ → List Direction = λ z y. map (λ x. record { z = z; y = y; x = x }) steps in
    IsIn-flat_map (λ z. flat_map (row z) steps) d.z d steps (IsIn-steps d.z hz) (
    IsIn-flat_map (row d.z) d.y d steps (IsIn-steps d.y hy) (
    IsIn-map (λ x. record { z = d.z; y = d.y; x = x }) d.x steps (IsIn-steps d.x hx)))

-- 1 for a step that isn't none
abbrev away : ℕ → ℕ
away step = elim (step == 1) [ true ↦ 0 | false ↦ 1 ]

-- it is at most 1
away_most : (b : Bool) → (elim b as (λ _. ℕ) [ true ↦ 0 | false ↦ 1 ]) ≤ 1
away_most true = omega arith
away_most false = omega arith

-- it is 0 for none
away-one : (step : ℕ) → step ≡ 1 → away step ≡ 0
away-one step h = ap away h

-- a direction that is in line on some axis leaves at most two
few_axes : (d : Direction) → (d.z ≡ 1) ⊎ ((d.y ≡ 1) ⊎ (d.x ≡ 1)) → axes_left d < 3
few_axes d h =
    let z : away d.z ≤ 1 = away_most (d.z == 1) in
    let y : away d.y ≤ 1 = away_most (d.y == 1) in
    let x : away d.x ≤ 1 = away_most (d.x == 1) in
    elim h [
      | inl e ↦ omega (arith, away-one d.z e)
      | inr h ↦ elim h [
        | inl e ↦ omega (arith, away-one d.y e)
        | inr e ↦ omega (
          arith,
          away-one d.x e,
        )
      ]
    ]

-- a direction that is in line on some axis is near
pub IsIn-near_directions : (d : Direction) → d.z ≤ 2 → d.y ≤ 2 → d.x ≤ 2
    → (d.z ≡ 1) ⊎ ((d.y ≡ 1) ⊎ (d.x ≡ 1)) → IsIn d near_directions
IsIn-near_directions d hz hy hx h =
    IsIn-filter (λ d. nat_lt (axes_left d) 3) d all_directions (IsIn-all d hz hy hx)
    (lt-ltb (axes_left d) 3 (few_axes d h))

-- a step that leads to an index of the row fits
pub fits : (index step across other : ℕ) → index + step ≡ other + 1 → other < across
    → (nat_lt 0 (index + step) && nat_le (index + step) across) ≡ true
fits index step across other next within =
    and_from _ _ (lt-ltb 0 (index + step) (omega arith))
    (le-leb (index + step) across (omega arith))

-- a node of the world beside another is near it
pub IsIn-near : (depth : ℕ) (c q : Node) → IsNode depth q → IsBeside c q
    → IsIn q (near_nodes depth c)
IsIn-near depth c q q_in h =
    let d = h.step in
    let P : ℕ → Type 0 = λ l. (q.k < nodes_across depth l) × (q.j < nodes_across depth l)
    × (q.i < nodes_across depth l) in
    let within : P c.level = subst P h.level (q_in.k, q_in.j, q_in.i) in
    let a = nodes_across depth c.level in
    let there : has_neighbour depth d c ≡ true =
    and_from _ _ (and_from _ _ (fits c.k d.z a q.k h.k within.0) (fits c.j d.y a q.j h.j within.1))
    (fits c.i d.x a q.i h.i within.2) in
    let is : neighbour d c ≡ q = same_node _ _ (sym h.level) (omega (arith, h.k))
    (omega (arith, h.j)) (omega (arith, h.i)) in
    subst (λ m. IsIn m (near_nodes depth c)) is (
    IsIn-map (λ d. neighbour d c) d _ (
    IsIn-filter (λ d. has_neighbour depth d c) d near_directions
    (IsIn-near_directions d h.z_short h.y_short h.x_short h.in_line) there))

-- each of the near directions has steps up to 2, and one of them is 1
abbrev is_near : Direction → Bool
is_near d = (nat_lt d.z 3 && (nat_lt d.y 3 && nat_lt d.x 3)) && (d.z == 1 || (d.y == 1 || d.x == 1))

-- a step that fits leads to an index of the row
fits_tells : (index step across : ℕ) → (nat_lt 0 (index + step) && nat_le (index + step) across)
    ≡ true → (0 < index + step) × (index + step ≤ across)
fits_tells index step across h =
    let parts = and_parts (nat_lt 0 (index + step)) (nat_le (index + step) across) h in
    (ltb-true 0 (index + step) parts.0, leb-true (index + step) across parts.1)

-- a near node is in the world and beside
pub record IsNearNode (depth : ℕ) (c q : Node) : Type 0 where
  pub node : IsNode depth q
  pub beside : IsBeside c q

-- a near direction, and a place of the world in it, make a near node
near_at : (depth : ℕ) (c : Node) (d : Direction) → IsNode depth c → IsIn d near_directions
    → has_neighbour depth d c ≡ true → IsNearNode depth c (neighbour d c)
near_at depth c d c_in listed there =
    let test = every_at is_near d near_directions refl listed in
    let parts = and_parts (nat_lt d.z 3 && (nat_lt d.y 3 && nat_lt d.x 3))
    (d.z == 1 || (d.y == 1 || d.x == 1)) test in
    let z = and_parts (nat_lt d.z 3) (nat_lt d.y 3 && nat_lt d.x 3) parts.0 in
    let yx = and_parts (nat_lt d.y 3) (nat_lt d.x 3) z.1 in
    let a = nodes_across depth c.level in
    let kj = and_parts _ _ there in
    let k = and_parts _ _ kj.0 in
    let hk = fits_tells c.k d.z a k.0 in
    let hj = fits_tells c.j d.y a k.1 in
    let hi = fits_tells c.i d.x a kj.1 in
    let hz : d.z < 3 = ltb-true d.z 3 z.0 in
    let hy : d.y < 3 = ltb-true d.y 3 yx.0 in
    let hx : d.x < 3 = ltb-true d.x 3 yx.1 in
    record {
      node = record {
        level = c_in.level;
        k = omega (arith, hk);
        j = omega (arith, hj);
        i = omega (arith, hi);
      };
      beside = record {
        level = refl;
        step = d;
        z_short = omega arith;
        y_short = omega arith;
        x_short = omega arith;
        k = omega (arith, hk);
        j = omega (arith, hj);
        i = omega (arith, hi);
        in_line = elim (or_cases _ _ parts.1) [
          | inl e ↦ inl (eqb-true d.z 1 e)
          | inr h ↦ elim (or_cases _ _ h) [
            | inl e ↦ inr (inl (eqb-true d.y 1 e))
            | inr e ↦ inr
                (inr (eqb-true d.x 1 e))
          ]
        ];
      };
    }

-- a node near another is one of the world beside it
pub near_tells : (depth : ℕ) (c q : Node) → IsNode depth c → IsIn q (near_nodes depth c)
    → IsNearNode depth c q
near_tells depth c q c_in h =
    let image = IsIn-image (λ d. neighbour d c) q _ h in
    let kept = IsIn-kept (λ d. has_neighbour depth d c) image.item near_directions image.listed in
    let there = near_at depth c image.item c_in kept.listed kept.pass in
    subst (IsNearNode depth c) (sym image.image) there

-- what is beside a node shares a segment with it
pub ShareSegment-beside : (c q : Node) → IsBeside c q → ShareSegment c q
ShareSegment-beside c q h =
    let s = node_side c.level in
    let some = side_some c.level in
    let P : ℕ → Type 0 = λ side. ShareSegment c (record {
      level = c.level;
      k = q.k;
      j = q.j;
      i = q.i;
    }) in
    let is : record { level = c.level; k = q.k; j = q.j; i = q.i } ≡ q =
    same_node _ q (sym h.level) refl refl refl in
    subst (ShareSegment c) is (record {
      z = beside c.k q.k h.step.z s h.z_short h.k;
      y = beside c.j q.j h.step.y s h.y_short h.j;
      x = beside c.i q.i h.step.x s h.x_short h.i;
      length = elim h.in_line [
        | inl e ↦ inl (itself c.k q.k s some (omega (arith, h.k)))
        | inr o ↦ elim o [
          | inl e ↦ inr (inl (itself c.j q.j s some (omega (arith, h.j))))
          | inr e ↦ inr (inr (itself c.i q.i s some (omega (arith, h.i))))
        ]
      ];
    })
