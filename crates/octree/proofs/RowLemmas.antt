-- The words of a level map: each row of nodes above level 0 has its own.
--
-- For `Levels`. The rows of a level follow those of the levels below it (`level_more`, `levels_rise`), and in a level
-- they follow one another. So each row's word is within the words (`row-below`), and no two rows have one (`same_row`).
use Rattle.std.proofs.Common.{◌≡◌, ℕ, ◌+◌, ◌-◌, ◌*◌, ◌/◌, ◌%◌, ◌^◌, ◌<◌, ◌≤◌, ◌==◌, true, List, [], ◌∷◌, inl, inr, refl, sym, ap, ◌∙◌, subst, arith}
use Rattle.std.specs.Cmp.Lexicographic.{pointwise}
use Rattle.std.proofs.Math.Pow.{pow_mono}
use Rattle.std.proofs.lemmas.Bool.{and_from, and_parts, cases_order, eq-eqb, eqb-true, false≢true}
use Rattle.std.proofs.lemmas.Nat.{div-mul-add, mod-mul-add, mul-le, pow-add}
use Rattle.lattice.specs.declared.settings.TheConstants.{MAX_DEPTH}
use Rattle.lattice.specs.Node.{nodes_across}
use Rattle.lattice.specs.Settings.{IsDepth}
use Rattle.octree.specs.SplitBits.{IsRow, row_of, rows_below}

-- ---- levels

-- a level has the square of the nodes of its rows
square : (e : ℕ) → 2 ^ e * 2 ^ e ≡ 2 ^ (2 * e)
square e =
    let twice : e + e ≡ 2 * e = omega arith in
    sym (pow-add 2 e e) ∙ ap (λ k. 2 ^ k) twice

-- a row is one of its level
pub in_level : (a k j : ℕ) → k < a → j < a → k * a + j < a * a
in_level a k j k_in j_in =
    omega (arith, mul-le (k + 1) a a a (omega arith) (omega arith))

-- a level more
level_more : (depth level : ℕ) → 1 ≤ level → level ≤ depth
    → rows_below depth (level + 1)
    ≡ rows_below depth level + nodes_across depth level * nodes_across depth level
level_more depth level some within =
    let up : 2 * (depth + 1 - level) ≡ 2 * (depth - level) + 2 = omega arith in
    let here : 2 * (depth + 1 - (level + 1)) ≡ 2 * (depth - level) = omega arith in
    let low : 2 ^ (2 * (depth + 1 - level)) ≡ 2 ^ (2 * (depth - level)) * 4 =
    ap (λ k. 2 ^ k) up ∙ pow-add 2 (2 * (depth - level)) 2 in
    let high : 2 ^ (2 * (depth + 1 - (level + 1))) ≡ 2 ^ (2 * (depth - level)) =
    ap (λ k. 2 ^ k) here in
    let most : 2 ^ (2 * (depth + 1 - level)) ≤ 2 ^ (2 * depth) = pow_mono (omega arith) in
    omega (arith, low, high, most, square (depth - level))

-- the rows of a level are below those of each higher one
levels_rise : (depth low high : ℕ) → low < high → high ≤ depth + 1
    → rows_below depth (low + 1) ≤ rows_below depth high
levels_rise depth low high rises within =
    let falls : 2 ^ (2 * (depth + 1 - high)) ≤ 2 ^ (2 * (depth + 1 - (low + 1))) =
    pow_mono (omega arith) in
    omega (arith, falls)

-- ---- rows

-- it is before the rows of each higher level
before_higher : (depth level k j high : ℕ) → IsRow depth level k j → level < high
    → high ≤ depth + 1 → row_of depth level k j < rows_below depth high
unfolding row_of
before_higher depth level k j high h rises within =
    omega (
      arith,
      level_more depth level h.low h.high,
      levels_rise depth level high rises within,
      in_level (nodes_across depth level) k j h.k_in h.j_in,
    )

-- so its word is within the words
pub row-below : (depth level k j : ℕ) → IsRow depth level k j
    → row_of depth level k j < rows_below depth (depth + 1)
row-below depth level k j h =
    before_higher depth level k j (depth + 1) h (omega (arith, h.high)) (omega arith)

-- the words of a level are within the words
pub layer-below : (depth level : ℕ) → 1 ≤ level → level ≤ depth
    → rows_below depth level + nodes_across depth level * nodes_across depth level
    ≤ rows_below depth (depth + 1)
layer-below depth level some within =
    omega (
      arith,
      level_more depth level some within,
      levels_rise depth level (depth + 1) (omega (arith, within)) (omega arith),
    )

-- the place of a row among those of its level tells its k and its j
same_place : (a k j k' j' : ℕ) → j < a → j' < a → k * a + j ≡ k' * a + j' → (k ≡ k') × (j ≡ j')
same_place a k j k' j' j_in j_in' same = (
  sym (div-mul-add k a j j_in) ∙ ap (λ p. p / a) same ∙ div-mul-add k' a j' j_in',
  sym (mod-mul-add k a j j_in) ∙ ap (λ p. p % a) same ∙ mod-mul-add k' a j' j_in',
)

-- no two rows have one word
pub same_row : (depth level k j level' k' j' : ℕ) → IsRow depth level k j
    → IsRow depth level' k' j' → row_of depth level k j ≡ row_of depth level' k' j'
    → (level ≡ level') × (k ≡ k') × (j ≡ j')
unfolding row_of
same_row depth level k j level' k' j' h h' same =
    elim (cases_order level level') [
      | inl one ↦
          let other : (k' < nodes_across depth level) × (j' < nodes_across depth level) =
          subst (λ l. (k' < nodes_across depth l) × (j' < nodes_across depth l)) (sym one)
          (h'.k_in, h'.j_in) in
          let here : row_of depth level' k' j' ≡ row_of depth level k' j' =
          ap (λ l. row_of depth l k' j') (sym one) in
          let place = same_place (nodes_across depth level) k j k' j' h.j_in other.1
          (omega (arith, same, here)) in
          (one, place.0, place.1)
      | inr apart ↦
          elim apart [
            | inl rises ↦
                absurd (omega (
                  arith,
                  same,
                  before_higher depth level k j level' h rises (omega (arith, h'.high)),
                ))
            | inr falls ↦
                absurd (omega (
                  arith,
                  same,
                  before_higher depth level' k' j' level h' falls (omega (arith, h.high)),
                ))
          ]
    ]

-- the words are few
pub rows_fit : (depth : ℕ) → IsDepth depth → rows_below depth (depth + 1) < 2 ^ 31
rows_fit depth allowed =
    let low : 2 * depth ≤ 2 * MAX_DEPTH = omega arith in
    let most : 2 ^ (2 * depth) ≤ 2 ^ (2 * MAX_DEPTH) = pow_mono low in
    omega (arith, most)

-- above level 0 no row of nodes is longer than 32
pub across_above : (depth level : ℕ) → IsDepth depth → 1 ≤ level → nodes_across depth level ≤ 32
across_above depth level allowed some =
    let low : depth - level ≤ MAX_DEPTH - 1 = omega arith in
    let most : 2 ^ (depth - level) ≤ 2 ^ (MAX_DEPTH - 1) = pow_mono low in
    omega (arith, most)

-- ---- lists of words

-- equal words from the test of two lists
pub same_rows : (xs ys : List ℕ) → pointwise ◌==◌ xs ys ≡ true → xs ≡ ys
same_rows [] [] h = refl
same_rows [] (y ∷ ys) h = absurd (false≢true h)
same_rows (x ∷ xs) [] h = absurd (false≢true h)
same_rows (x ∷ xs) (y ∷ ys) h =
    let parts = and_parts (x == y) (pointwise ◌==◌ xs ys) h in
    let first = eqb-true x y parts.0 in
    let rest = same_rows xs ys parts.1 in λ t. first t ∷ rest t

-- a list passes with itself
pub rows_same : (xs : List ℕ) → pointwise ◌==◌ xs xs ≡ true
rows_same [] = refl
rows_same (x ∷ xs) =
    and_from (x == x) (pointwise ◌==◌ xs xs) (eq-eqb x x refl) (rows_same xs)
