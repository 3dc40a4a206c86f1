-- A node's parent and children by their cubes, and its neighbours by their offsets.
--
-- For `Node::parent`, `Node::children` and `Node::neighbour`. On each axis the range of an index lies within that of
-- half the index and twice the side (`within_half`); so a parent's cube holds the node's, and with the converse
-- (`half_within`) a node's children are just the nodes of the level below that its cube holds (`children_held`). A step
-- of -1, 0 or 1 that fits leads to the index that is so much further (`fitted_tells`, `fitted_at`).
use Rattle.std.proofs.Common.{◌≡◌, ◌≢◌, ◌⊎◌, inl, inr, ℕ, zero, suc, ◌+◌, ◌-◌, ◌*◌, ◌/◌, ◌%◌, ◌^◌, ◌<◌, ◌≤◌, get_or, Contains, ◌↔◌, refl, sym, ap, ◌∙◌, subst, arith, add-one, Some, ℤ, pos, negsuc, ◌+ℤ◌, ◌≤ℤ◌}
use Rattle.std.specs.Prelude.{nat_lt, nat_le, ◌&&◌, unsigned_abs}
use Rattle.std.proofs.Math.Nat.{pow-suc, mul-le-mul_right, le_of_mul-le-mul_right}
use Rattle.std.proofs.lemmas.Nat.{pow_pos}
use Rattle.std.proofs.lemmas.Int.{ints}
use Rattle.std.proofs.lemmas.Bool.{and_parts, and_from, cases_eq, ltb-true, leb-true, lt-ltb, le-leb, cond-true}
use Rattle.std.proofs.lemmas.Option.{cond_some}
use Rattle.lattice.specs.declared.node.Node.{Node}
use Rattle.lattice.specs.Node.{Holds, node_side, nodes_across, IsNode, parent, children}
use Rattle.lattice.proofs.NodeLemmas.{fitted}

-- nodes with equal parts are equal
pub same_node : (a b : Node) → a.level ≡ b.level → a.k ≡ b.k → a.j ≡ b.j → a.i ≡ b.i → a ≡ b
same_node a b l k j i = λ t. record { level = l t; k = k t; j = j t; i = i t }

-- two nodes are the same or not
pub cases_Node : (a b : Node) → (a ≡ b) ⊎ (a ≢ b)
cases_Node a b =
    elim (cases_eq a.level b.level) [
      | inr apart ↦ inr (λ same. apart (ap (λ (n : Node). n.level) same))
      | inl l ↦
          elim (cases_eq a.k b.k) [
            | inr apart ↦ inr (λ same. apart (ap (λ (n : Node). n.k) same))
            | inl k ↦
                elim (cases_eq a.j b.j) [
                  | inr apart ↦ inr (λ same. apart (ap (λ (n : Node). n.j) same))
                  | inl j ↦
                      elim (cases_eq a.i b.i) [
                        | inr apart ↦ inr (λ same. apart (ap (λ (n : Node). n.i) same))
                        | inl i ↦ inl (same_node a b l k j i)
                      ]
                ]
          ]
    ]

-- a node's side is twice that of the level below
side_more : (l : ℕ) → node_side (l + 1) ≡ 2 * node_side l
side_more l = rw (add-one, pow-suc) (omega arith)

-- ---- the parent

-- the range of an index is within that of half the index and twice the side
within_half : (index s S : ℕ) → S ≡ 2 * s → (index / 2 * S ≤ index * s)
    × ((index + 1) * s ≤ (index / 2 + 1) * S)
within_half index s S twice =
    let q = index / 2 in
    let r = index % 2 in
    let whole : index ≡ 2 * q + r = omega arith in
    let low : r ≤ 1 = omega arith in
    let rs : r * s ≤ 1 * s = mul-le-mul_right s low in
    let is : index * s ≡ (2 * q + r) * s = ap (λ n. n * s) whole in
    let qS : q * S ≡ q * (2 * s) = ap (λ n. q * n) twice in
    let qS' : (q + 1) * S ≡ (q + 1) * (2 * s) = ap (λ n. (q + 1) * n) twice in
    (omega (arith, is, qS, rs), omega (arith, is, qS', rs))

-- a parent's cube holds the node's
pub Holds-parent : (n : Node) → Holds (parent n) n
Holds-parent n =
    let half : (index : ℕ) → (index / 2 * node_side (n.level + 1) ≤ index * node_side n.level)
    × ((index + 1) * node_side n.level ≤ (index / 2 + 1) * node_side (n.level + 1)) =
    λ index. within_half index (node_side n.level) (node_side (n.level + 1)) (side_more n.level) in
    let z = half n.k in
    let y = half n.j in
    let x = half n.i in
    record { z_low = z.0; z_high = z.1; y_low = y.0; y_high = y.1; x_low = x.0; x_high = x.1 }

-- a row has twice the nodes in the level below
across_more : (depth l : ℕ) → l < depth → nodes_across depth l ≡ 2 * nodes_across depth (l + 1)
across_more depth l below =
    let more : depth - l ≡ suc (depth - (l + 1)) = omega arith in
    ap (λ k. 2 ^ k) more ∙ pow-suc 2 (depth - (l + 1)) ∙ omega arith

-- the parent of a node below the highest level is in the world
pub IsNode-parent : (depth : ℕ) (n : Node) → IsNode depth n → n.level < depth
    → IsNode depth (parent n)
IsNode-parent depth n h below =
    let more = across_more depth n.level below in
    record {
      level = omega arith;
      k = omega (arith, h.k, more);
      j = omega (arith, h.j, more);
      i = omega (arith, h.i, more);
    }

-- ---- the children

-- the child in the halves z, y and x
abbrev child : Node → ℕ → ℕ → ℕ → Node
child n z y x = record { level = n.level - 1; k = 2 * n.k + z; j = 2 * n.j + y; i = 2 * n.i + x }

-- a node's cube holds that child's
holds_child : (n : Node) (z y x : ℕ) → 1 ≤ n.level → z ≤ 1 → y ≤ 1 → x ≤ 1 → Holds n (child n z y x)
holds_child n z y x some hz hy hx =
    subst (λ p. Holds p (child n z y x)) (same_node (parent (child n z y x)) n (omega arith)
    (omega arith) (omega arith) (omega arith)) (Holds-parent (child n z y x))

-- the children stand by z, then y, then x
child_at : (n : Node) (z y x : ℕ) (d : Node) → z ≤ 1 → y ≤ 1 → x ≤ 1
    → get_or (children n) (4 * z + 2 * y + x) d ≡ child n z y x
child_at n zero zero zero d hz hy hx = refl
child_at n zero zero (suc zero) d hz hy hx = refl
child_at n zero (suc zero) zero d hz hy hx = refl
child_at n zero (suc zero) (suc zero) d hz hy hx = refl
child_at n (suc zero) zero zero d hz hy hx = refl
child_at n (suc zero) zero (suc zero) d hz hy hx = refl
child_at n (suc zero) (suc zero) zero d hz hy hx = refl
child_at n (suc zero) (suc zero) (suc zero) d hz hy hx = refl
child_at n (suc (suc z)) y x d hz hy hx = absurd (omega arith)
child_at n z (suc (suc y)) x d hz hy hx = absurd (omega arith)
child_at n z y (suc (suc x)) d hz hy hx = absurd (omega arith)

-- a range of half the side within a range is one of its halves
half_within : (index other s S : ℕ) → S ≡ 2 * s → 0 < s
    → (index * S ≤ other * s) × ((other + 1) * s ≤ (index + 1) * S)
    → (2 * index ≤ other) × (other ≤ 2 * index + 1)
half_within index other s S twice some h =
    let iS : index * S ≡ (2 * index) * s = ap (λ n. index * n) twice ∙ omega arith in
    let iS' : (index + 1) * S ≡ (2 * index + 2) * s = ap (λ n. (index + 1) * n) twice
    ∙ omega arith in
    let low : (2 * index) * s ≤ other * s = omega (arith, iS, h.0) in
    let high : (other + 1) * s ≤ (2 * index + 2) * s = omega (arith, iS', h.1) in
    let above : other + 1 ≤ 2 * index + 2 = le_of_mul-le-mul_right high some in
    (le_of_mul-le-mul_right low some, omega arith)

-- a child, at its place
record ChildAt (n c : Node) : Type 0 where
  z : ℕ
  y : ℕ
  x : ℕ
  z_low : z ≤ 1
  y_low : y ≤ 1
  x_low : x ≤ 1
  is : c ≡ child n z y x

-- a node of the level below that a cube holds is a child
held_child : (n c : Node) → 1 ≤ n.level → c.level + 1 ≡ n.level → Holds n c → ChildAt n c
held_child n c some below h =
    let s = node_side c.level in
    let side : node_side n.level ≡ 2 * s = ap node_side (sym below) ∙ side_more c.level in
    let s_some : 0 < s = omega (arith, pow_pos c.level) in
    let k = half_within n.k c.k s (node_side n.level) side s_some (h.z_low, h.z_high) in
    let j = half_within n.j c.j s (node_side n.level) side s_some (h.y_low, h.y_high) in
    let i = half_within n.i c.i s (node_side n.level) side s_some (h.x_low, h.x_high) in
    record {
      z = c.k - 2 * n.k;
      y = c.j - 2 * n.j;
      x = c.i - 2 * n.i;
      z_low = omega (arith, k);
      y_low = omega (arith, j);
      x_low = omega (arith, i);
      is = same_node _ _ (omega arith) (omega (arith, k)) (omega (arith, j)) (omega (arith, i));
    }

-- an item of the list of children is such a node
place_holds : (n c : Node) (k : ℕ) → 1 ≤ n.level → k < 8 → get_or (children n) k c ≡ c
    → (c.level + 1 ≡ n.level) × Holds n c
place_holds n c k some k_in is =
    let z = k / 4 in
    let y = k / 2 % 2 in
    let x = k % 2 in
    let place : k ≡ 4 * z + 2 * y + x = omega arith in
    let there : child n z y x ≡ c =
    sym (child_at n z y x c (omega arith) (omega arith) (omega arith))
    ∙ ap (λ p. get_or (children n) p c) (sym place) ∙ is in
    let level : n.level - 1 ≡ c.level = ap (λ (a : Node). a.level) there in (
      omega arith,
      subst (Holds n) there (holds_child n z y x some (omega arith) (omega arith) (omega arith)),
    )

-- a node's children are the nodes of the level below that its cube holds
pub children_held : (n c : Node) → 1 ≤ n.level
    → Contains (children n) c ↔ ((c.level + 1 ≡ n.level) × Holds n c)
children_held n c some = (
  (λ h. place_holds n c h.0 some h.1 h.2),
  (λ h.
      let at = held_child n c some h.0 h.1 in
      let place : ℕ = 4 * at.z + 2 * at.y + at.x in
      let in_list : place < 8 = omega (arith, at.z_low, at.y_low, at.x_low) in
      (place, in_list, child_at n at.z at.y at.x c at.z_low at.y_low at.x_low ∙ sym at.is)),
)

-- ---- neighbours

-- what a step that fits leads to
pub fitted_tells : (index other across : ℕ) (step : ℤ) → (negsuc 0 ≤ℤ step) × (step ≤ℤ pos 1)
    → fitted index (unsigned_abs (step +ℤ pos 1)) across ≡ Some other
    → (pos other ≡ pos index +ℤ step) × (other < across)
fitted_tells index other across (pos zero) h e =
    let b = cond_some (nat_lt 0 (index + 1) && nat_le (index + 1) across) (index + 1 - 1) other e in
    let p = and_parts (nat_lt 0 (index + 1)) (nat_le (index + 1) across) b.0 in
    let low : 0 < index + 1 = ltb-true 0 (index + 1) p.0 in
    let high : index + 1 ≤ across = leb-true (index + 1) across p.1 in
    let is : index + 1 - 1 ≡ other = b.1 in
    (omega (arith, ints), omega arith)
fitted_tells index other across (pos (suc zero)) h e =
    let b = cond_some (nat_lt 0 (index + 2) && nat_le (index + 2) across) (index + 2 - 1) other e in
    let p = and_parts (nat_lt 0 (index + 2)) (nat_le (index + 2) across) b.0 in
    let low : 0 < index + 2 = ltb-true 0 (index + 2) p.0 in
    let high : index + 2 ≤ across = leb-true (index + 2) across p.1 in
    let is : index + 2 - 1 ≡ other = b.1 in
    (omega (arith, ints), omega arith)
fitted_tells index other across (negsuc zero) h e =
    let b = cond_some (nat_lt 0 (index + 0) && nat_le (index + 0) across) (index + 0 - 1) other e in
    let p = and_parts (nat_lt 0 (index + 0)) (nat_le (index + 0) across) b.0 in
    let low : 0 < index + 0 = ltb-true 0 (index + 0) p.0 in
    let high : index + 0 ≤ across = leb-true (index + 0) across p.1 in
    let is : index + 0 - 1 ≡ other = b.1 in
    (omega (arith, ints), omega arith)
fitted_tells index other across (pos (suc (suc n))) h e = absurd (omega (arith, ints, h.1))
fitted_tells index other across (negsuc (suc n)) h e = absurd (omega (arith, ints, h.0))

-- a place in the row is one that a step leads to
pub fitted_at : (index other across : ℕ) (step : ℤ) → (negsuc 0 ≤ℤ step) × (step ≤ℤ pos 1)
    → pos other ≡ pos index +ℤ step → other < across
    → fitted index (unsigned_abs (step +ℤ pos 1)) across ≡ Some other
fitted_at index other across (pos zero) h e below =
    let same : index + 1 - 1 ≡ other = omega (arith, ints) in
    cond-true _ _ _ (and_from _ _ (lt-ltb 0 (index + 1) (omega (
      arith,
      ints,
    ))) (le-leb (index + 1) across (omega (arith, ints)))) ∙ ap Some same
fitted_at index other across (pos (suc zero)) h e below =
    let same : index + 2 - 1 ≡ other = omega (arith, ints) in
    cond-true _ _ _ (and_from _ _ (lt-ltb 0 (index + 2) (omega (
      arith,
      ints,
    ))) (le-leb (index + 2) across (omega (arith, ints)))) ∙ ap Some same
fitted_at index other across (negsuc zero) h e below =
    let same : index + 0 - 1 ≡ other = omega (arith, ints) in
    cond-true _ _ _ (and_from _ _ (lt-ltb 0 (index + 0) (omega (
      arith,
      ints,
    ))) (le-leb (index + 0) across (omega (arith, ints)))) ∙ ap Some same
fitted_at index other across (pos (suc (suc n))) h e below = absurd (omega (arith, ints, h.1))
fitted_at index other across (negsuc (suc n)) h e below = absurd (omega (arith, ints, h.0))
