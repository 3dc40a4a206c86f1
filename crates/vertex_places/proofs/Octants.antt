-- The octants at a lattice point of a leaf lie in the leaf or in one of its 26 neighbours.
--
-- For `Shifts` and `FinePoints` (docs/rules.md, "Bricks and moves"): the definitions speak of octants, the code of
-- neighbours. First one axis at a time (`beside`): of a point on the low border, on the high one, or between them, an
-- octant's index is the leaf's index and a step; each of the three cases is a quotient by the nodes' side. Then the
-- three axes together (`octant_lies`): the octant is in the world where that neighbour is, and its node is the
-- neighbour.
use Rattle.std.proofs.Common.{◌≡◌, ℕ, zero, suc, ◌+◌, ◌-◌, ◌*◌, ◌/◌, ◌^◌, ◌<◌, ◌≤◌, min, max, Bool, true, false, inl, inr, refl, sym, ap, ◌∙◌, subst, add-one, add-zero, arith}
use Rattle.std.specs.Prelude.{◌&&◌, nat_lt, nat_le}
use Rattle.std.proofs.Math.Nat.{div-eq_of_lt-le, lt_of_mul-lt-mul_right, pow-suc}
use Rattle.std.proofs.lemmas.Bool.Decides.{nat_tests}
use Rattle.std.proofs.lemmas.Bool.{cases_lt}
use Rattle.std.proofs.lemmas.Nat.{mul-le, pow_pos}
use Rattle.lattice.proofs.SizeLemmas.{across_side}
use Rattle.lattice.specs.declared.node.Node.{Node}
use Rattle.lattice.specs.declared.point.Point.{Point}
use Rattle.lattice.specs.Node.{IsNode, node_side, nodes_across}
use Rattle.lattice.specs.Offset.{Direction, has_neighbour, neighbour}
use Rattle.lattice.specs.Settings.{world_side}
use Rattle.terrain.specs.Blocks.{cell_corner}
use Rattle.terrain.specs.World.{Octant, has_octant, octant_node}
use Rattle.vertex_places.specs.Directions.{border_at, border_of}

-- ---- rows of nodes

-- a node has a side
pub side_some : (level : ℕ) → 0 < node_side level
side_some level = omega (arith, pow_pos level)

-- which is twice that of a node of the level below
pub side_more : (level : ℕ) → node_side (level + 1) ≡ 2 * node_side level
side_more level = rw (add-one, pow-suc) (omega arith)

-- ---- an octant on one axis

-- where an octant on a side lies, of a point on this border of a leaf
abbrev pub side_step : ℕ → Bool → ℕ
side_step step true = max step 1
side_step step false = min step 1

-- whether the octant is in the world, whether the step from an index is, and the index of the octant's node
abbrev pub octant_fits : ℕ → ℕ → Bool → Bool
octant_fits end c high = elim high [ true ↦ nat_lt c end | false ↦ nat_lt 0 c ]

abbrev pub step_fits : ℕ → ℕ → ℕ → Bool
step_fits index step across = nat_lt 0 (index + step) && nat_le (index + step) across

abbrev pub octant_index : ℕ → ℕ → Bool → ℕ
octant_index side c high = elim high [ true ↦ c / side | false ↦ (c - 1) / side ]

-- a point between the borders of a leaf
pub border_at-inside : (c : ℕ) → 0 < c → c < 16 → border_at c ≡ 1
border_at-inside c low high = grind (arith, nat_tests)

-- on an axis, an octant of a point on a border lies where its step from the leaf's index leads
pub record IsBeside (k step a s c : ℕ) (high : Bool) : Type 0 where
  pub there : octant_fits (a * s) c high ≡ step_fits k (side_step step high) a
  pub index : octant_index s c high ≡ k + side_step step high - 1

-- steps that lead to an index of the row
fits-low : (k a : ℕ) → k < a → step_fits k 0 a ≡ nat_lt 0 k
fits-low k a h = grind (arith, nat_tests)

-- the step that stays leads to an index of the row
pub fits-stay : (k a : ℕ) → k < a → step_fits k 1 a ≡ true
fits-stay k a h = grind (arith, nat_tests)

-- the step up leads to an index of the row where there is a next one
fits-high : (k a : ℕ) → k < a → step_fits k 2 a ≡ nat_lt (k + 1) a
fits-high k a h = grind (arith, nat_tests)

-- two comparisons that follow from each other are one test
lt-same : (a b c d : ℕ) → (a < b → c < d) → (c < d → a < b) → nat_lt a b ≡ nat_lt c d
lt-same a b c d to from = grind (arith, nat_tests)

-- a comparison that holds, as a test
lt-true : (a b : ℕ) → a < b → nat_lt a b ≡ true
lt-true a b h = grind (arith, nat_tests)

-- the index of the range in which a number lies
div-index : (q s k index : ℕ) → k * s ≤ q → q < k * s + s → index ≡ k → q / s ≡ index
div-index q s k index low high same =
    let in_range : q / s ≡ k = div-eq_of_lt-le s low (omega arith) in
    in_range ∙ sym same

-- the number below the one at which a range begins
index-below : (k s : ℕ) → 0 < s → (k * s - 1) / s ≡ k - 1
index-below zero s some =
    let none : 0 * s ≡ 0 = omega arith in
    div-index (0 * s - 1) s 0 0 (omega (arith, none)) (omega (arith, none)) refl
index-below (suc k) s some =
    let more : suc k * s ≡ k * s + s = grind arith in
    div-index (suc k * s - 1) s k (suc k - 1) (omega (arith, more)) (omega (arith, more))
    (omega arith)

-- a product of two numbers above 0 is above 0
some-product : (k s : ℕ) → 0 < s → 0 < k → 0 < k * s
some-product k s some h = omega (arith, mul-le 1 s k s h (omega arith))

-- and so is its first factor where the product is
some-factor : (k s : ℕ) → 0 < k * s → 0 < k
some-factor zero s h = let none : 0 * s ≡ 0 = omega arith in omega (arith, none)
some-factor (suc k) s h = omega arith

-- of the points on a row of nodes of side s, those on the low border, on the high border and inside
module _ (k a s : ℕ) (some : 0 < s) (in_row : k < a) where
  -- the node at an index ends where the row does, or before
  row_end : k * s + s ≤ a * s
  row_end = let m = mul-le (k + 1) s a s (omega arith) (omega arith) in omega (arith, m)

  -- a point on the low border
  beside_low : (high : Bool) → IsBeside k 0 a s (k * s) high
  beside_low true = record {
    there =
        lt-true (k * s) (a * s) (omega (arith, row_end)) ∙ sym (fits-stay k a in_row);
    index = div-index (k * s) s k (k + 1 - 1) (omega arith) (omega arith) (omega arith);
  }
  beside_low false = record {
    there =
        lt-same 0 (k * s) 0 k (some-factor k s) (some-product k s some) ∙ sym (fits-low k a in_row);
    index = index-below k s some ∙ ap (λ n. n - 1) (sym (add-zero k));
  }

  -- a point on the high border
  beside_high : (high : Bool) → IsBeside k 2 a s (k * s + s) high
  beside_high true =
      let next : (k + 1) * s ≡ k * s + s = grind arith in
      let up : k * s + s < a * s → k + 1 < a =
      λ h. lt_of_mul-lt-mul_right s (omega (arith, next)) in
      let back : k + 1 < a → k * s + s < a * s =
      λ h. (let m = mul-le (k + 2) s a s (omega arith) (omega arith) in
      let far : (k + 2) * s ≡ k * s + s + s = grind arith in
      omega (arith, m, far)) in
      record {
        there = lt-same (k * s + s) (a * s) (k + 1) a up back ∙ sym (fits-high k a in_row);
        index =
            div-index (k * s + s) s (k + 1) (k + 2 - 1) (omega (arith, next)) (omega (arith, next))
            (omega arith);
      }
  beside_high false = record {
    there = lt-true 0 (k * s + s) (omega arith) ∙ sym (fits-stay k a in_row);
    index =
        div-index (k * s + s - 1) s k (k + 1 - 1) (omega arith) (omega arith) (omega arith);
  }

  -- a point between the two
  beside_inside : (c : ℕ) → k * s < c → c < k * s + s → (high : Bool) → IsBeside k 1 a s c high
  beside_inside c low below true = record {
    there = lt-true c (a * s) (omega (arith, row_end)) ∙ sym (fits-stay k a in_row);
    index = div-index c s k (k + 1 - 1) (omega arith) (omega arith) (omega arith);
  }
  beside_inside c low below false = record {
    there = lt-true 0 c (omega arith) ∙ sym (fits-stay k a in_row);
    index = div-index (c - 1) s k (k + 1 - 1) (omega arith) (omega arith) (omega arith);
  }

-- the coordinate of a lattice point on an axis
pub beside : (k a p c : ℕ) → 0 < p → k < a → c ≤ 16 → (high : Bool)
    → IsBeside k (border_at c) a (16 * p) (k * (16 * p) + p * c) high
beside k a p c some in_row within high =
    let s = 16 * p in
    let P : ℕ → ℕ → Type 0 = λ step q. IsBeside k step a s q high in
    let long : 0 < s = omega arith in
    elim (cases_lt 0 c) [
      | inr none ↦
          let low : c ≡ 0 = omega arith in
          let at : k * s ≡ k * s + p * c = rw low (omega arith) in
          let border : 0 ≡ border_at c = sym (ap border_at low) in
          subst (λ step. P step (k * s + p * c)) border
          (subst (P 0) at (beside_low k a s long in_row high))
      | inl more ↦
          elim (cases_lt c 16) [
            | inr end ↦
                let last : c ≡ 16 = omega arith in
                let at : k * s + s ≡ k * s + p * c = rw last (omega arith) in
                let border : 2 ≡ border_at c = sym (ap border_at last) in
                subst (λ step. P step (k * s + p * c)) border
                (subst (P 2) at (beside_high k a s long in_row high))
            | inl less ↦
                let low = mul-le 1 p c p more (omega arith) in
                let below = mul-le (c + 1) p 16 p (omega arith) (omega arith) in
                let turned : c * p ≡ p * c = grind arith in
                subst (λ step. P step (k * s + p * c)) (sym (border_at-inside c more less)) (
                beside_inside k a s long in_row (k * s + p * c) (omega (arith, low, turned))
                (omega (arith, below, turned)) high)
          ]
    ]

-- ---- octants at a lattice point

-- the direction in which an octant of a point on a border of a leaf lies
abbrev pub octant_place : Direction → Octant → Direction
octant_place d o = record { z = side_step d.z o.z; y = side_step d.y o.y; x = side_step d.x o.x }

-- an octant at a point lies in the place next to a node in a direction
pub record LiesBeside (depth : ℕ) (n : Node) (p : Point) (d : Direction) (o : Octant) : Type 0 where
  pub there : has_octant depth p o ≡ has_neighbour depth d n
  pub node : octant_node n.level p o ≡ neighbour d n

-- an octant at a lattice point of a leaf lies in the leaf or in a place next to it
pub octant_lies : (depth : ℕ) (n : Node) (z y x : ℕ) (o : Octant)
    → IsNode depth n → z ≤ 16 → y ≤ 16 → x ≤ 16
    → LiesBeside depth n (cell_corner n z y x) (octant_place (border_of z y x) o) o
octant_lies depth n z y x o in_world hz hy hx =
    let p = cell_corner n z y x in
    let a = nodes_across depth n.level in
    let s = node_side n.level in
    let some = pow_pos n.level in
    let k = beside n.k a (2 ^ n.level) z some in_world.k hz o.z in
    let j = beside n.j a (2 ^ n.level) y some in_world.j hy o.y in
    let i = beside n.i a (2 ^ n.level) x some in_world.i hx o.x in
    let row : world_side depth ≡ a * s = sym (across_side depth n.level in_world.level) in
    let there_z : octant_fits (world_side depth) p.z o.z ≡ octant_fits (a * s) p.z o.z =
    ap (λ end. octant_fits end p.z o.z) row in
    let there_y : octant_fits (world_side depth) p.y o.y ≡ octant_fits (a * s) p.y o.y =
    ap (λ end. octant_fits end p.y o.y) row in
    let there_x : octant_fits (world_side depth) p.x o.x ≡ octant_fits (a * s) p.x o.x =
    ap (λ end. octant_fits end p.x o.x) row in
    let fits_z = there_z ∙ k.there in
    let fits_y = there_y ∙ j.there in
    let fits_x = there_x ∙ i.there in
    record {
      there = λ t. fits_z t && fits_y t && fits_x t;
      node = λ t. record { level = n.level; k = k.index t; j = j.index t; i = i.index t };
    }

-- the steps of octants from the borders
pub border_at-most : (c : ℕ) → border_at c ≤ 2
border_at-most c = grind (arith, nat_tests)

-- an octant's step from a border is one of the three
pub side_step-most : (step : ℕ) (high : Bool) → step ≤ 2 → side_step step high ≤ 2
side_step-most step true h = omega arith
side_step-most step false h = omega arith
