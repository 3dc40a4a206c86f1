-- The words of a level's rows, and a level that has none.
--
-- For `Levels::layer`. A level map has the words of a level one after another, so that a part of them is the level's
-- (`IsLayer-part`): each word has the bits of its row and none behind these. Level 0 has no word, and neither has a
-- level that isn't in the world (`IsLayer-none`).
use Rattle.std.proofs.Common.{◌≡◌, ℕ, ◌+◌, ◌*◌, ◌^◌, ◌<◌, ◌≤◌, false, List, [], length, get_or, take, drop, cond, inl, inr, refl, sym, ap, ◌∙◌, subst, arith}
use Rattle.std.specs.Prelude.{◌&&◌, nat_lt}
use Rattle.std.proofs.Math.Pow.{pow_mono}
use Rattle.std.proofs.lemmas.Bool.{and_left, and_right, cases_lt, false_from_ne_true, le-ltb, lt-ltb}
use Rattle.std.proofs.lemmas.List.{get_or-take, get_or-drop, length-take-le, length-drop}
use Rattle.lattice.specs.declared.node.Node.{Node}
use Rattle.lattice.specs.Node.{IsNode, is_node, nodes_across}
use Rattle.lattice.proofs.TestLemmas.{node_test}
use Rattle.octree.specs.Layers.{IsLayer, LayerOf, word_at}
use Rattle.octree.specs.SplitBits.{IsWhole, SplitBits, row_bit, row_of, rows_below, split_at}
use Rattle.octree.proofs.RowBitLemmas.{none_set, past_word}
use Rattle.octree.proofs.RowLemmas.{across_above, in_level, layer-below}
use Rattle.octree.proofs.SplitAtLemmas.{split_at-off, split_at-read}

-- ---- words of a square

-- the word of a row of the square
pub word-in : (across : ℕ) (rows : List ℕ) (k j : ℕ) → k < across → j < across
    → word_at across rows k j ≡ get_or rows (k * across + j) 0
word-in across rows k j k_in j_in =
    ap (λ b. cond b (get_or rows (k * across + j) 0) 0)
    ((λ t. lt-ltb k across k_in t && nat_lt j across) ∙ lt-ltb j across j_in)

-- and of another row
pub word-out : (across : ℕ) (rows : List ℕ) (k j : ℕ) → (k < across → j < across → ⊥)
    → word_at across rows k j ≡ 0
word-out across rows k j out =
    let off : (nat_lt k across && nat_lt j across) ≡ false =
    elim (cases_lt k across) [
      | inr past ↦ and_left (nat_lt k across) (nat_lt j across) (le-ltb k across past)
      | inl k_in ↦ elim (cases_lt j across) [
        | inr past ↦ and_right (nat_lt k across) (nat_lt j across) (le-ltb j across past)
        | inl j_in ↦ absurd (out k_in j_in)
      ]
    ] in
    ap (λ b. cond b (get_or rows (k * across + j) 0) 0) off

-- a word of a plane
plane-read : (across : ℕ) (rows : List ℕ) (k j : ℕ) → j < across
    → get_or (take across (drop (k * across) rows)) j 0 ≡ get_or rows (k * across + j) 0
plane-read across rows k j j_in =
    get_or-take across (drop (k * across) rows) j 0 j_in ∙ get_or-drop (k * across) rows j 0

-- two squares whose planes have the same words have the same in each row of it
pub same-plane : (across : ℕ) (mine others : List ℕ) (k : ℕ) → k < across
    → take across (drop (k * across) mine) ≡ take across (drop (k * across) others)
    → (j : ℕ) → word_at across mine k j ≡ word_at across others k j
same-plane across mine others k k_in same j =
    elim (cases_lt j across) [
      | inl j_in ↦
          word-in across mine k j k_in j_in ∙ sym (plane-read across mine k j j_in)
          ∙ ap (λ l. get_or l j 0) same ∙ plane-read across others k j j_in
          ∙ sym (word-in across others k j k_in j_in)
      | inr past ↦
          let none : k < across → j < across → ⊥ = λ k_in j_in. omega (arith, j_in, past) in
          word-out across mine k j none ∙ sym (word-out across others k j none)
    ]

-- levels of which each word is the same split the same nodes
pub same-split-plane : (a b : LayerOf) (across k : ℕ) (mine others : List ℕ)
    → IsLayer a.levels a.level across mine → IsLayer b.levels b.level across others
    → ((j : ℕ) → word_at across mine k j ≡ word_at across others k j) → (j i : ℕ)
    → split_at a.levels (record { level = a.level; k = k; j = j; i = i })
    ≡ split_at b.levels (record { level = b.level; k = k; j = j; i = i })
same-split-plane a b across k mine others first second same j i =
    sym (first.each k j i) ∙ ap (λ w. row_bit w i) (same j) ∙ second.each k j i

-- ---- no words

-- a level of which no node is split
pub IsLayer-none : (levels : SplitBits) (level : ℕ) → ((k j i : ℕ)
    → split_at levels (record { level = level; k = k; j = j; i = i }) ≡ false)
    → IsLayer levels level 0 []
IsLayer-none levels level none = record {
  few = omega arith;
  long = refl;
  fits = λ k j. omega (arith, word-out 0 [] k j (λ k_in j_in. omega (arith, k_in)));
  each = λ k j i.
      ap (λ w. row_bit w i) (word-out 0 [] k j (λ k_in j_in. omega (arith, k_in)))
      ∙ none_set i ∙ sym (none k j i);
}

-- ---- a level's words

module _ (levels : SplitBits) (whole : IsWhole levels) (level : ℕ) (some : 1 ≤ level)
    (within : level ≤ levels.depth) where
  -- how many rows the level has along each axis
  abbrev across : ℕ
  across = nodes_across levels.depth level

  -- how many words are before its own
  abbrev first : ℕ
  first = rows_below levels.depth level

  -- its words
  abbrev part : List ℕ
  part = take (across * across) (drop first levels.rows)

  -- they are there
  part-long : length part ≡ across * across
  part-long = length-take-le (across * across) (drop first levels.rows)
      (omega (
        arith,
        length-drop first levels.rows,
        whole.long,
        layer-below levels.depth level some within,
      ))

  -- each is the word of its row
  part-word : (k j : ℕ) → k < across → j < across
      → word_at across part k j ≡ get_or levels.rows (row_of levels.depth level k j) 0
  unfolding row_of
  part-word k j k_in j_in =
      word-in across part k j k_in j_in
      ∙ get_or-take (across * across) (drop first levels.rows) (k * across + j) 0
      (in_level across k j k_in j_in)
      ∙ get_or-drop first levels.rows (k * across + j) 0

  -- with no bit behind that of its last node
  part-fits : (k j : ℕ) → k < across → j < across → word_at across part k j < 2 ^ across
  part-fits k j k_in j_in =
      subst (λ w. w < 2 ^ across) (sym (part-word k j k_in j_in))
      (whole.fits level k j (record { low = some; high = within; k_in = k_in; j_in = j_in }))

  -- a node outside the world isn't split
  out : (k j i : ℕ) → (k < across → j < across → i < across → ⊥)
      → split_at levels (record { level = level; k = k; j = j; i = i }) ≡ false
  out k j i none =
      let n : Node = record { level = level; k = k; j = j; i = i } in
      split_at-off levels n (false_from_ne_true (is_node levels.depth n) (λ on.
      let h = (node_test levels.depth n).0 on in none h.k h.j h.i))

  -- a row of the level
  row-each : (k j i : ℕ) → k < across → j < across → row_bit (word_at across part k j) i
      ≡ split_at levels (record { level = level; k = k; j = j; i = i })
  row-each k j i k_in j_in =
      let n : Node = record { level = level; k = k; j = j; i = i } in
      elim (cases_lt i across) [
        | inl i_in ↦
            let inside : IsNode levels.depth n =
            record { level = within; k = k_in; j = j_in; i = i_in } in
            ap (λ w. row_bit w i) (part-word k j k_in j_in)
            ∙ sym (split_at-read levels n inside some)
        | inr past ↦
            past_word (word_at across part k j) across i (part-fits k j k_in j_in) past
            ∙ sym (out k j i (λ k_in' j_in' i_in. omega (arith, i_in, past)))
      ]

  -- so they are those of the level
  pub IsLayer-part : IsLayer levels level across part
  IsLayer-part =
      let few : across ≤ 32 = across_above levels.depth level whole.depth some in
      let rise : 2 ^ across ≤ 2 ^ 32 = pow_mono few in
      record {
        few = few;
        long = part-long;
        fits = λ k j.
            elim (cases_lt k across) [
              | inr past ↦
                  omega (arith, word-out across part k j (λ k_in j_in. omega (arith, k_in, past)))
              | inl k_in ↦ elim (cases_lt j across) [
                | inr past ↦
                    omega (
                      arith,
                      word-out across part k j (λ k_in' j_in. omega (arith, j_in, past)),
                    )
                | inl j_in ↦ omega (arith, part-fits k j k_in j_in, rise)
              ]
            ];
        each = λ k j i.
            elim (cases_lt k across) [
              | inr past ↦
                  let none : k < across → j < across → ⊥ =
                  λ k_in j_in. omega (arith, k_in, past) in
                  ap (λ w. row_bit w i) (word-out across part k j none)
                  ∙ none_set i ∙ sym (out k j i (λ k_in j_in i_in. none k_in j_in))
              | inl k_in ↦ elim (cases_lt j across) [
                | inr past ↦
                    let none : k < across → j < across → ⊥ =
                    λ k_in' j_in. omega (arith, j_in, past) in
                    ap (λ w. row_bit w i) (word-out across part k j none)
                    ∙ none_set i ∙ sym (out k j i (λ k_in' j_in i_in. none k_in' j_in))
                | inl j_in ↦ row-each k j i k_in j_in
              ]
            ];
      }
