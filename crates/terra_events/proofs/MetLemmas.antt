-- The leaves that meet a box are listed level by level, as the ranges of the indices of their nodes say: this serves
-- the loops of `met_leaves`.
-- On each axis the nodes of a level that meet the box have their indices in one range, whose ends are quotients by the
-- node's side (met_range, met_order), and no index before it or from its end on meets the box (before_them,
-- beyond_them, among_them). A list that is joined from parts passes a test only where a part does, so planes, rows and
-- nodes off the ranges add nothing (filtered-begin, filtered-end; none_at_z, none_at_y, none_at_x), and a node within
-- all three is appended where it is a leaf (appended, passed_over).
use Rattle.std.proofs.Common.{◌≡◌, ℕ, zero, suc, ◌+◌, ◌-◌, ◌*◌, ◌/◌, ◌<◌, ◌≤◌, min, Bool, true, false, List, [], ◌∷◌, ◌++◌, filter, cond, ◌↔◌, refl, sym, ap, ◌∙◌, arith, inl, inr}
use Rattle.std.specs.Prelude.{◌&&◌, nat_le}
use Rattle.std.proofs.Math.Bool.{and-true}
use Rattle.std.proofs.Math.Nat.{le-div_iff_mul-le, mul-le-mul_right}
use Rattle.std.proofs.lemmas.Bool.{and_from, and_parts, and_right, cases_lt, le-leb, leb-true, false_from_ne_true}
use Rattle.std.proofs.lemmas.List.{append-nil}
use Rattle.std.proofs.lemmas.List.Elements.{filter-append}
use Rattle.lattice.specs.declared.node.Node.{Node}
use Rattle.lattice.specs.declared.region.Region.{Region}
use Rattle.lattice.specs.Lists.{joined}
use Rattle.lattice.specs.Node.{node_side, nodes, nodes_across}
use Rattle.terrain.specs.Blocks.{meets}
use Rattle.terrain.specs.Levels.{LevelMap, is_leaf}
use Rattle.octree.specs.declared.indices.Indices.{Indices}
use Rattle.terra_events.specs.Met.{AreMet, IsMet, is_met, met_leaves, plane_nodes, row_nodes}

-- ---- the indices that meet a range, as quotients

-- the indices of the multiples of a side that meet a range
pub met_range : (low high s n index : ℕ) → 0 < s → index < n
    → (((low - 1) / s ≤ index) × (index < min (high / s + 1) n))
    ↔ ((index * s ≤ high) × (low ≤ (index + 1) * s))
met_range low high s n index some within =
    let first = le-div_iff_mul-le {k = s} {x = index + 1} {y = low - 1} some in
    let last = le-div_iff_mul-le {k = s} {x = index} {y = high} some in (
      (λ among. (
        last.0 (omega arith),
        elim (cases_lt (low - 1) ((index + 1) * s)) [
          | inl below ↦ omega arith
          | inr above ↦ absurd (omega (arith, first.1 above))
        ],
      )),
      (λ met. (
        elim (cases_lt index ((low - 1) / s)) [
          | inl before ↦
              let much : (index + 1) * s ≤ low - 1 = first.0 (omega arith) in
              let side_in : 1 * s ≤ (index + 1) * s = mul-le-mul_right s (omega arith) in
              absurd (omega (arith, much, met.1, side_in))
          | inr there ↦ there
        ],
        omega (arith, last.1 met.0),
      )),
    )

-- the first of them is at most the end
pub met_order : (low high s n : ℕ) → 0 < s → low ≤ high → high ≤ n * s
    → (low - 1) / s ≤ min (high / s + 1) n
met_order low high s n some order world =
    let x = (low - 1) / s in
    let times : x * s ≤ low - 1 = (le-div_iff_mul-le {k = s} {x = x} {y = low - 1} some).0
    (omega arith)
    in
    let below : x ≤ high / s = (le-div_iff_mul-le {k = s} {x = x} {y = high} some).1 (omega arith)
    in
    let few : x ≤ n =
    elim (cases_lt n x) [
      | inl more ↦
          let large : (n + 1) * s ≤ x * s = mul-le-mul_right s (omega arith) in
          absurd (omega (arith, large, times))
      | inr there ↦ there
    ] in
    omega arith

-- an index before the first that meets a range doesn't
pub before_them : (depth level low high : ℕ) (is : Indices) → AreMet depth level low high is
    → (k : ℕ) → k < is.low → IsMet level low high k → ⊥
before_them depth level low high is are k before on =
    omega (
      arith,
      are.order,
      are.within,
      ((are.met k (omega (arith, are.order, are.within))).1 on).0,
    )

-- an index from their end on doesn't
pub beyond_them : (depth level low high : ℕ) (is : Indices) → AreMet depth level low high is
    → (k : ℕ) → is.end ≤ k → k < nodes_across depth level → IsMet level low high k → ⊥
beyond_them depth level low high is are k beyond within on =
    omega (arith, ((are.met k within).1 on).1)

-- an index from the first to just below the end does
pub among_them : (depth level low high : ℕ) (is : Indices) → AreMet depth level low high is
    → (k : ℕ) → is.low ≤ k → k < is.end → IsMet level low high k
among_them depth level low high is are k above below =
    (are.met k (omega (arith, are.within))).0 (above, below)

-- ---- lists one after another, and what passes in them

module _ {A : Type 0} (test : A → Bool) (f : ℕ → List A) where
  -- nothing passes in the first ones
  pub filtered-skip : (n : ℕ) → ((k : ℕ) → k < n → filter test (f k) ≡ [])
      → filter test (joined n f) ≡ []
  unfolding joined
  filtered-skip zero none = refl
  filtered-skip (suc n) none =
      filter-append test (joined n f) (f n)
      ∙ (λ i. filtered-skip n (λ k h. none k (omega arith)) i ++ none n (omega arith) i)

  -- nothing so far
  pub filtered-begin : (xs ys : List A) (n : ℕ) → ys ≡ xs
      → ((k : ℕ) → k < n → filter test (f k) ≡ [])
      → ys ≡ xs ++ filter test (joined n f)
  filtered-begin xs ys n same none =
      same ∙ sym (append-nil xs) ∙ ap (λ l. xs ++ l) (sym (filtered-skip n none))

  -- the first lists pass as much as these with more behind them in which nothing passes
  rest_empty : (m extra : ℕ) → ((k : ℕ) → m ≤ k → k < m + extra → filter test (f k) ≡ [])
      → filter test (joined m f) ≡ filter test (joined (m + extra) f)
  unfolding joined
  rest_empty m zero none =
      let same : m ≡ m + 0 = omega arith in
      ap (λ n. filter test (joined n f)) same
  rest_empty m (suc extra) none =
      let up : m + suc extra ≡ suc (m + extra) = omega arith in
      rest_empty m extra (λ k low high. none k low (omega arith))
      ∙ sym (append-nil (filter test (joined (m + extra) f)))
      ∙ ap (λ l. filter test (joined (m + extra) f) ++ l)
      (sym (none (m + extra) (omega arith) (omega arith)))
      ∙ sym (filter-append test (joined (m + extra) f) (f (m + extra)))
      ∙ ap (λ n. filter test (joined n f)) (sym up)

  -- nothing in the last ones
  pub filtered-end : (xs ys : List A) (m n : ℕ) → m ≤ n → ys ≡ xs ++ filter test (joined m f)
      → ((k : ℕ) → m ≤ k → k < n → filter test (f k) ≡ [])
      → ys ≡ xs ++ filter test (joined n f)
  filtered-end xs ys m n le before none =
      let all : m + (n - m) ≡ n = omega arith in
      before ∙ ap (λ l. xs ++ l) (rest_empty m (n - m) (λ k low high. none k low (omega arith)))
      ∙ ap (λ k. xs ++ filter test (joined k f)) all

-- ---- nodes that don't meet a box

-- a node meets a box exactly where its indices meet the box's ranges
record MeetsOnAxes (box : Region) (n : Node) : Type 0 where
  z : IsMet n.level box.lo.z box.hi.z n.k
  y : IsMet n.level box.lo.y box.hi.y n.j
  x : IsMet n.level box.lo.x box.hi.x n.i

-- the test of both ends on all three axes, taken apart
MeetsOnAxes-from : (box : Region) (n : Node) → meets box n ≡ true → MeetsOnAxes box n
MeetsOnAxes-from box n on =
    let side = node_side n.level in
    let z = nat_le (n.k * side) box.hi.z in
    let z_end = nat_le box.lo.z ((n.k + 1) * side) in
    let y = nat_le (n.j * side) box.hi.y in
    let y_end = nat_le box.lo.y ((n.j + 1) * side) in
    let x = nat_le (n.i * side) box.hi.x in
    let x_end = nat_le box.lo.x ((n.i + 1) * side) in
    let a = and_parts (z && z_end && y && y_end && x) x_end on in
    let b = and_parts (z && z_end && y && y_end) x a.0 in
    let c = and_parts (z && z_end && y) y_end b.0 in
    let d = and_parts (z && z_end) y c.0 in
    let e = and_parts z z_end d.0 in
    record {
      z = (leb-true _ _ e.0, leb-true _ _ e.1);
      y = (leb-true _ _ d.1, leb-true _ _ c.1);
      x = (leb-true _ _ b.1, leb-true _ _ a.1);
    }

-- and put together
meets-from : (box : Region) (n : Node) → MeetsOnAxes box n → meets box n ≡ true
meets-from box n on =
    and_from _ _ (and_from _ _ (and_from _ _ (and_from _ _ (and_from _ _
    (le-leb _ _ on.z.0) (le-leb _ _ on.z.1)) (le-leb _ _ on.y.0)) (le-leb _ _ on.y.1))
    (le-leb _ _ on.x.0)) (le-leb _ _ on.x.1)

-- a node of a row of nodes
abbrev pub row_item : ℕ → ℕ → ℕ → ℕ → List Node
row_item level k j i = record { level = level; k = k; j = j; i = i } ∷ []

module _ (depth : ℕ) (m : LevelMap) (box : Region) where
  -- a node that misses the box on some axis isn't listed
  unmet : (n : Node) → (MeetsOnAxes box n → ⊥) → filter (is_met depth m box) (n ∷ []) ≡ []
  unmet n off =
      let apart : meets box n ≡ false =
      false_from_ne_true _ (λ on. off (MeetsOnAxes-from box n on)) in
      let fails : is_met depth m box n ≡ false =
      and_right (is_leaf depth m n) (meets box n) apart in
      rw fails refl

  -- a node that doesn't meet the box on the x axis isn't appended
  pub none_at_x : (level k j i : ℕ) → (IsMet level box.lo.x box.hi.x i → ⊥)
      → filter (is_met depth m box) (row_item level k j i) ≡ []
  none_at_x level k j i off =
      unmet (record { level = level; k = k; j = j; i = i }) (λ on. off on.x)

  -- nor is a row that doesn't meet it on the y axis
  pub none_at_y : (level k j : ℕ) → (IsMet level box.lo.y box.hi.y j → ⊥)
      → filter (is_met depth m box) (row_nodes depth level k j) ≡ []
  none_at_y level k j off =
      filtered-skip (is_met depth m box) _ (nodes_across depth level)
      (λ i i_in. unmet (record { level = level; k = k; j = j; i = i }) (λ on. off on.y))

  -- nor a plane that doesn't meet it on the z axis
  pub none_at_z : (level k : ℕ) → (IsMet level box.lo.z box.hi.z k → ⊥)
      → filter (is_met depth m box) (plane_nodes depth level k) ≡ []
  none_at_z level k off =
      filtered-skip (is_met depth m box) _ (nodes_across depth level)
      (λ j j_in. filtered-skip (is_met depth m box) _ (nodes_across depth level)
      (λ i i_in. unmet (record { level = level; k = k; j = j; i = i }) (λ on. off on.z)))

  -- a node that meets the box on each axis is appended exactly where it is a leaf
  is_met-leaf : (n : Node) → MeetsOnAxes box n → is_met depth m box n ≡ is_leaf depth m n
  is_met-leaf n on =
      ap (λ b. is_leaf depth m n && b) (meets-from box n on) ∙ and-true (is_leaf depth m n)

  -- a leaf that meets the box is appended
  pub appended : (level k j i : ℕ) (xs : List Node) → IsMet level box.lo.z box.hi.z k
      → IsMet level box.lo.y box.hi.y j → IsMet level box.lo.x box.hi.x i
      → is_leaf depth m (record { level = level; k = k; j = j; i = i }) ≡ true
      → xs ++ row_item level k j i ≡ xs ++ filter (is_met depth m box) (row_item level k j i)
  appended level k j i xs z y x leaf =
      let n : Node = record { level = level; k = k; j = j; i = i } in
      let on = is_met-leaf n (record { z = z; y = y; x = x }) ∙ leaf in
      ap (λ l. xs ++ l) (rw on refl)

  -- a node that is no leaf is passed over
  pub passed_over : (level k j i : ℕ) (xs : List Node) → IsMet level box.lo.z box.hi.z k
      → IsMet level box.lo.y box.hi.y j → IsMet level box.lo.x box.hi.x i
      → is_leaf depth m (record { level = level; k = k; j = j; i = i }) ≡ false
      → xs ≡ xs ++ filter (is_met depth m box) (row_item level k j i)
  passed_over level k j i xs z y x bare =
      let n : Node = record { level = level; k = k; j = j; i = i } in
      let off = is_met-leaf n (record { z = z; y = y; x = x }) ∙ bare in
      sym (append-nil xs) ∙ ap (λ l. xs ++ l) (rw off refl)

-- one item more, which the other test lets through or not
both_step : {A : Type 0} (p : A → Bool) (x : A) (ys zs : List A) (b : Bool) → ys ≡ filter p zs
    → cond (b && p x) (x ∷ ys) ys ≡ filter p (cond b (x ∷ zs) zs)
both_step p x ys zs true same = λ i. cond (p x) (x ∷ same i) (same i)
both_step p x ys zs false same = same

-- filtering twice is filtering by both tests
both : {A : Type 0} (p q : A → Bool) (xs : List A)
    → filter (λ x. q x && p x) xs ≡ filter p (filter q xs)
both p q [] = refl
both p q (x ∷ xs) = both_step p x (filter (λ y. q y && p y) xs) (filter q xs) (q x) (both p q xs)

-- the nodes that are leaves and meet the box are the leaves that meet it
pub met_leaves-nodes : (depth : ℕ) (m : LevelMap) (box : Region)
    → filter (is_met depth m box) (nodes depth) ≡ met_leaves depth m box
met_leaves-nodes depth m box = both (meets box) (is_leaf depth m) (nodes depth)
