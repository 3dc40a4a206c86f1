-- The bits of a rim, row by row of the places around a node: how the code reads 26 bits from nine rows of the level
-- map.
--
-- For `Levels::rim` and what it calls. A row of the level map beside the node gives three bits (`row-bits`): the one
-- before the node's index, at it and behind it, none past the row's ends. Three rows make a plane, three planes 27
-- bits, and the rim leaves out the middle one (`without_middle-bits`, `rim-planes`), which is the node itself.
use Rattle.std.proofs.Common.{◌≡◌, ℕ, zero, suc, ◌+◌, ◌-◌, ◌*◌, ◌/◌, ◌%◌, ◌^◌, ◌<◌, ◌≤◌, Bool, true, false, ◌&&◌, List, [], ◌∷◌, ◌++◌, length, map, inl, inr, refl, subst, sym, ap, ◌∙◌, arith}
use Rattle.std.specs.Prelude.{nat_le, nat_lt}
use Rattle.std.proofs.Math.Nat.{pow-suc, pow-zero}
use Rattle.std.proofs.lemmas.Bool.{cases_lt, false_from_ne_true, le-leb, lt-ltb}
use Rattle.std.proofs.lemmas.Bool.Decides.{nat_tests}
use Rattle.lattice.specs.declared.node.Node.{Node}
use Rattle.lattice.specs.Node.{is_node, nodes_across}
use Rattle.lattice.proofs.TestLemmas.{node_test}
use Rattle.terrain.specs.Levels.{is_finer, rim}
use Rattle.terrain.specs.Lists.{binary}
use Rattle.octree.specs.Rims.{bits_beside, plane_of_rim, row_of_rim}
use Rattle.octree.specs.SplitBits.{SplitBits, row_bit, split_at}
use Rattle.octree.proofs.SplitAtLemmas.{split_at-off}

-- a sum that fits
fits-yes : (sum across : ℕ) → 0 < sum → sum ≤ across → (nat_lt 0 sum && nat_le sum across) ≡ true
fits-yes sum across some within =
    ap (λ b. b && nat_le sum across) (lt-ltb 0 sum some) ∙ le-leb sum across within

-- one that is past the row's end doesn't
fits-past : (sum across : ℕ) → across < sum → (nat_lt 0 sum && nat_le sum across) ≡ false
fits-past sum across past = grind (arith, nat_tests)

-- the word of a row of a level map beside a node, by its steps on z and y
pub record IsRowBeside (levels : SplitBits) (n : Node) (z y row : ℕ) : Type 0 where
  pub low_k : 0 < n.k + z
  pub high_k : n.k + z ≤ nodes_across levels.depth n.level
  pub low_j : 0 < n.j + y
  pub high_j : n.j + y ≤ nodes_across levels.depth n.level
  pub each : (i : ℕ) → row_bit row i ≡ split_at levels (record
      { level = n.level; k = n.k + z - 1; j = n.j + y - 1; i = i })

module _ (levels : SplitBits) (n : Node) (z y row : ℕ) (is_row : IsRowBeside levels n z y row) where
  -- how many nodes the row has
  across : ℕ
  across = nodes_across levels.depth n.level

  -- whether the node at an index of the row is split
  at : ℕ → Bool
  at i = split_at levels (record { level = n.level; k = n.k + z - 1; j = n.j + y - 1; i = i })

  -- the row's bit says so
  read : (i : ℕ) → row_bit row i ≡ at i
  unfolding at
  read i = is_row.each i

  -- behind the row's end none is
  at-past : (i : ℕ) → across ≤ i → at i ≡ false
  unfolding across at
  at-past i past =
      let m : Node = record { level = n.level; k = n.k + z - 1; j = n.j + y - 1; i = i } in
      split_at-off levels m (false_from_ne_true (is_node levels.depth m) (λ on.
      let inside = (node_test levels.depth m).0 on in omega (arith, inside.i)))

  -- whether a step leads to an index of the row
  fit : ℕ → Bool
  fit sum = nat_lt 0 sum && nat_le sum across

  -- whether a place of the row is finer
  finer : (x : ℕ) → is_finer levels.depth (split_at levels) (record { z = z; y = y; x = x }) n
      ≡ (fit (n.i + x) && at (n.i + x - 1))
  unfolding across at fit
  finer x =
      let k_fits = fits-yes (n.k + z) across is_row.low_k is_row.high_k in
      let j_fits = fits-yes (n.j + y) across is_row.low_j is_row.high_j in
      (λ t. ((k_fits t && j_fits t) && fit (n.i + x)) && at (n.i + x - 1))

  -- the bit before an index, at it and behind it
  bit-low : (i : ℕ) → i < across → (nat_lt 0 i && row_bit row (i - 1))
      ≡ (fit (i + 0) && at (i + 0 - 1))
  unfolding fit
  bit-low zero within = refl
  bit-low (suc i) within =
      let same : suc i - 1 ≡ suc i + 0 - 1 = omega arith in
      ap (λ b. b && row_bit row (suc i - 1)) (lt-ltb 0 (suc i) (omega arith))
      ∙ read (suc i - 1) ∙ ap at same
      ∙ sym (ap (λ b. b && at (suc i + 0 - 1))
      (fits-yes (suc i + 0) across (omega arith) (omega arith)))

  -- the bit at the index
  bit-here : (i : ℕ) → i < across → row_bit row i ≡ (fit (i + 1) && at (i + 1 - 1))
  unfolding fit
  bit-here i within =
      let same : i ≡ i + 1 - 1 = omega arith in
      read i ∙ ap at same
      ∙ sym (ap (λ b. b && at (i + 1 - 1)) (fits-yes (i + 1) across (omega arith) (omega arith)))

  -- the bit behind the index, none where the row ends
  bit-high : (i : ℕ) → i < across → row_bit row (i + 1) ≡ (fit (i + 2) && at (i + 2 - 1))
  unfolding fit
  bit-high i within = elim (cases_lt (i + 1) across) [
    | inl inside ↦
        let same : i + 1 ≡ i + 2 - 1 = omega arith in
        read (i + 1) ∙ ap at same
        ∙ sym (ap (λ b. b && at (i + 2 - 1)) (fits-yes (i + 2) across (omega arith) (omega arith)))
    | inr outside ↦
        read (i + 1) ∙ at-past (i + 1) outside
        ∙ sym (ap (λ b. b && at (i + 2 - 1)) (fits-past (i + 2) across (omega arith)))
  ]

  -- the bits of the row are those of its places
  pub row-bits : n.i < nodes_across levels.depth n.level
      → binary (bits_beside row n.i) ≡ binary (row_of_rim levels n z y)
  unfolding across
  row-bits within =
      let low = bit-low n.i within ∙ sym (finer 0) in
      let here = bit-here n.i within ∙ sym (finer 1) in
      let high = bit-high n.i within ∙ sym (finer 2) in
      (λ t. binary (low t ∷ here t ∷ high t ∷ []))

-- ---- rows and planes together

-- for `power-double`
double : (p b : ℕ) → p * 2 * b ≡ 2 * (p * b)
double p b = grind arith

-- one more digit doubles what comes behind it
power-double : (n b : ℕ) → 2 ^ suc n * b ≡ 2 * (2 ^ n * b)
power-double n b = ap (λ p. p * b) (pow-suc 2 n) ∙ double (2 ^ n) b

-- the digits of one list behind those of another
pub binary-append : (xs ys : List Bool)
    → binary (xs ++ ys) ≡ binary xs + 2 ^ length xs * binary ys
binary-append [] ys = omega (arith, pow-zero 2)
binary-append (true ∷ xs) ys =
    omega (arith, binary-append xs ys, power-double (length xs) (binary ys))
binary-append (false ∷ xs) ys =
    omega (arith, binary-append xs ys, power-double (length xs) (binary ys))

-- a digit is 0 or 1
digit-few : (b : Bool) (bits : List Bool)
    → (d : ℕ) × (binary (b ∷ bits) ≡ d + 2 * binary bits) × (d < 2)
digit-few true bits = (1, omega arith, omega arith)
digit-few false bits = (0, omega arith, omega arith)

-- so many digits are below that power of 2
below : (bits : List Bool) → binary bits < 2 ^ length bits
below [] = omega (arith, pow-zero 2)
below (true ∷ bits) = omega (arith, below bits, pow-suc 2 (length bits))
below (false ∷ bits) = omega (arith, below bits, pow-suc 2 (length bits))

-- nine bits without the middle one
without_middle-bits : (front back : List Bool) (b : Bool) → length front ≡ 4 → length back ≡ 4
    → binary (front ++ b ∷ back) % 16 + 16 * (binary (front ++ b ∷ back) / 32)
    ≡ binary (front ++ back)
without_middle-bits front back b long_front long_back =
    let digit = digit-few b back in
    let whole : binary (front ++ b ∷ back) ≡ binary front + 16 * (digit.0 + 2 * binary back) =
    binary-append front (b ∷ back)
    ∙ (λ t. binary front + 2 ^ long_front t * digit.1 t) in
    let few : binary front < 16 =
    subst (λ n. binary front < 2 ^ n) long_front (below front) in
    let wanted : binary (front ++ back) ≡ binary front + 16 * binary back =
    binary-append front back ∙ ap (λ n. binary front + 2 ^ n * binary back) long_front in
    let small = digit.2 in
    omega (arith, whole, few, wanted, small)

-- two planes and eight bits between them
joined-planes : (low middle high : List Bool) → length low ≡ 9 → length middle ≡ 8
    → binary (low ++ (middle ++ high)) ≡ binary low + 512 * (binary middle + 256 * binary high)
joined-planes low middle high nine eight =
    binary-append low (middle ++ high)
    ∙ (λ t. binary low + 2 ^ nine t * binary-append middle high t)
    ∙ (λ t. binary low + 512 * (binary middle + 2 ^ eight t * binary high))

-- the rim is three planes of bits, less the middle one of them all
pub rim-planes : (levels : SplitBits) (n : Node) (low here high middle : ℕ)
    → low ≡ binary (plane_of_rim levels n 0) → here ≡ binary (plane_of_rim levels n 1)
    → high ≡ binary (plane_of_rim levels n 2) → middle ≡ here % 16 + 16 * (here / 32)
    → low + 512 * (middle + 256 * high) ≡ rim levels.depth (split_at levels) n
rim-planes levels n low here high middle low-is here-is high-is middle-is =
    let bit : ℕ → ℕ → ℕ → Bool =
    λ z y x. is_finer levels.depth (split_at levels) (record { z = z; y = y; x = x }) n in
    let front : List Bool = bit 1 0 0 ∷ bit 1 0 1 ∷ bit 1 0 2 ∷ bit 1 1 0 ∷ [] in
    let back : List Bool = bit 1 1 2 ∷ bit 1 2 0 ∷ bit 1 2 1 ∷ bit 1 2 2 ∷ [] in
    let between : middle ≡ binary (front ++ back) =
    middle-is ∙ ap (λ h. h % 16 + 16 * (h / 32)) here-is
    ∙ without_middle-bits front back (bit 1 1 1) refl refl in
    (λ t. low-is t + 512 * (between t + 256 * high-is t))
    ∙ sym (joined-planes (plane_of_rim levels n 0) (front ++ back) (plane_of_rim levels n 2) refl
    refl)

-- no digit is set
pub binary-none : {A : Type 0} (test : A → Bool) (xs : List A) → ((x : A) → test x ≡ false)
    → binary (map test xs) ≡ 0
binary-none test [] none = refl
binary-none test (x ∷ xs) none =
    ap (λ b. binary (b ∷ map test xs)) (none x) ∙ omega (arith, binary-none test xs none)
