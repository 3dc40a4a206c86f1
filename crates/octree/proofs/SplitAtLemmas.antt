-- What the words of a level map say, and what changes when bits are set.
--
-- For `Levels::is_split` and `Levels::split_row`. A node of the world above level 0 has its bit, and all else isn't
-- split (`split_at-read`, `split_at-low`, `split_at-off`). Bits that are set in the word of a row split its nodes and
-- no others, since no two rows have one word (`gains-bits`).
use Rattle.std.proofs.Common.{◌≡◌, ℕ, ◌^◌, ◌<◌, ◌≤◌, ◌⊎◌, true, false, length, get_or, inl, inr, refl, sym, ap, ◌∙◌, subst, arith}
use Rattle.std.specs.Prelude.{bit_or, nat_lt, ◌&&◌, ◌||◌, ◌==◌}
use Rattle.std.proofs.Math.ListN.{set}
use Rattle.std.proofs.lemmas.Bool.{and_right, cases_Bool, cases_eq, cases_lt, false≢true, le-ltb, lt-ltb, or_cases, or_left, or_right}
use Rattle.std.proofs.lemmas.List.{get_or-set_same, get_or-set_other, length-set}
use Rattle.std.proofs.lemmas.Nat.{or_lt}
use Rattle.std.proofs.lemmas.Nat.Bits.{bit_at-zero}
use Rattle.lattice.specs.declared.node.Node.{Node}
use Rattle.lattice.specs.Node.{IsNode, is_node, nodes_across}
use Rattle.lattice.proofs.TestLemmas.{node_test}
use Rattle.octree.specs.SplitBits.{IsRow, IsWhole, SplitBits, row_bit, row_of, split_at}
use Rattle.octree.specs.Growing.{Gains, IsInBits}
use Rattle.octree.proofs.RowBitLemmas.{or_bits, past_word}
use Rattle.octree.proofs.RowLemmas.{row-below, same_row}

-- the word of a node's row
abbrev pub word_of : SplitBits → Node → ℕ
word_of levels n = get_or levels.rows (row_of levels.depth n.level n.k n.j) 0

-- a node of the world above level 0 has its bit
pub split_at-read : (levels : SplitBits) (n : Node) → IsNode levels.depth n → 1 ≤ n.level
    → split_at levels n ≡ row_bit (word_of levels n) n.i
unfolding split_at
split_at-read levels n n_in some =
    let above : nat_lt 0 n.level ≡ true = lt-ltb 0 n.level some in
    let inside : is_node levels.depth n ≡ true = (node_test levels.depth n).1 n_in in
    ap (λ b. b && is_node levels.depth n && row_bit (word_of levels n) n.i) above
    ∙ ap (λ b. true && b && row_bit (word_of levels n) n.i) inside

-- a node of level 0 is not split
pub split_at-low : (levels : SplitBits) (n : Node) → n.level ≡ 0 → split_at levels n ≡ false
unfolding split_at
split_at-low levels n low =
    ap (λ b. b && is_node levels.depth n && row_bit (word_of levels n) n.i)
    (le-ltb 0 n.level (omega arith))

-- a node that is not in the world is not split
pub split_at-off : (levels : SplitBits) (n : Node) → is_node levels.depth n ≡ false
    → split_at levels n ≡ false
unfolding split_at
split_at-off levels n off =
    elim (cases_Bool (nat_lt 0 n.level)) [
      | inl above ↦ rw (above, off) refl
      | inr low ↦ rw low refl
    ]

-- a split node is one of the world, above level 0
pub split_at-in : (levels : SplitBits) (n : Node) → split_at levels n ≡ true
    → IsNode levels.depth n × (1 ≤ n.level)
split_at-in levels n h = (
  elim (cases_Bool (is_node levels.depth n)) [
    | inl inside ↦ (node_test levels.depth n).0 inside
    | inr off ↦ absurd (false≢true (sym (split_at-off levels n off) ∙ h))
  ],
  elim (cases_lt 0 n.level) [
    | inl some ↦ omega arith
    | inr none ↦ absurd (false≢true (sym (split_at-low levels n (omega arith)) ∙ h))
  ],
)

-- ---- after bits are set

-- a node of the world above level 0 is of such a row
pub row_of_node : (depth : ℕ) (n : Node) → IsNode depth n → 1 ≤ n.level
    → IsRow depth n.level n.k n.j
row_of_node depth n n_in some = record {
  low = some;
  high = n_in.level;
  k_in = n_in.k;
  j_in = n_in.j;
}

module _ (levels : SplitBits) (whole : IsWhole levels) (level k j bits : ℕ)
    (row : IsRow levels.depth level k j) (bits_in : bits < 2 ^ nodes_across levels.depth level)
  where
    -- the place of the row's word, and the word with the bits
    abbrev place : ℕ
    place = row_of levels.depth level k j

    abbrev more_word : ℕ
    more_word = bit_or (get_or levels.rows place 0) bits

    -- the words with that one
    abbrev pub more : SplitBits
    more = record levels { rows = set levels.rows place more_word }

    -- the row has a word
    place-in : place < length levels.rows
    place-in = omega (arith, row-below levels.depth level k j row, whole.long)

    -- the word with the bits has none behind its last node
    more_fits : more_word < 2 ^ nodes_across levels.depth level
    more_fits = or_lt (nodes_across levels.depth level) (get_or levels.rows place 0) bits
        (whole.fits level k j row) bits_in

    -- the words are whole with it
    pub whole-more : IsWhole more
    whole-more = record {
      depth = whole.depth;
      long = length-set levels.rows place more_word ∙ whole.long;
      fits = λ l y x other.
          elim (cases_eq (row_of levels.depth l y x) place) [
            | inl one ↦
                let same = same_row levels.depth l y x level k j other row one in
                let here : get_or more.rows (row_of levels.depth l y x) 0 ≡ more_word =
                ap (λ r. get_or more.rows r 0) one
                ∙ get_or-set_same levels.rows place more_word 0 place-in in
                subst (λ w. w < 2 ^ nodes_across levels.depth l) (sym here)
                (subst (λ m. more_word < 2 ^ nodes_across levels.depth m) (sym same.0) more_fits)
            | inr apart ↦
                subst (λ w. w < 2 ^ nodes_across levels.depth l)
                (sym (get_or-set_other levels.rows place (row_of levels.depth l y x) more_word 0
                apart))
                (whole.fits l y x other)
          ];
    }

    -- a node of the row has the bits of both words
    split_at-here : (n : Node) → IsNode levels.depth n → n.level ≡ level → n.k ≡ k → n.j ≡ j
        → split_at more n ≡ (split_at levels n || row_bit bits n.i)
    split_at-here n n_in at same_k same_j =
        let some : 1 ≤ n.level = omega (arith, row.low) in
        let one : row_of levels.depth n.level n.k n.j ≡ place =
        (λ t. row_of levels.depth (at t) (same_k t) (same_j t)) in
        split_at-read more n n_in some
        ∙ ap (λ r. row_bit (get_or more.rows r 0) n.i) one
        ∙ ap (λ w. row_bit w n.i) (get_or-set_same levels.rows place more_word 0 place-in)
        ∙ or_bits (get_or levels.rows place 0) bits n.i
        ∙ ap (λ b. b || row_bit bits n.i)
        (ap (λ r. row_bit (get_or levels.rows r 0) n.i) (sym one)
        ∙ sym (split_at-read levels n n_in some))

    -- a node of another row keeps its bit
    split_at-there : (n : Node) → IsNode levels.depth n → 1 ≤ n.level
        → (row_of levels.depth n.level n.k n.j ≡ place → ⊥)
        → split_at more n ≡ split_at levels n
    split_at-there n n_in some apart =
        split_at-read more n n_in some
        ∙ ap (λ w. row_bit w n.i)
        (get_or-set_other levels.rows place (row_of levels.depth n.level n.k n.j) more_word 0 apart)
        ∙ sym (split_at-read levels n n_in some)

    -- what is split with the bits was split, or is one of theirs
    more-tells : (n : Node) → split_at more n ≡ true
        → (split_at levels n ≡ true) ⊎ IsInBits level k j bits n
    more-tells n h =
        let n_in = split_at-in more n h in
        elim (cases_eq (row_of levels.depth n.level n.k n.j) place) [
          | inr apart ↦ inl (sym (split_at-there n n_in.0 n_in.1 apart) ∙ h)
          | inl one ↦
              let same = same_row levels.depth n.level n.k n.j level k j
              (row_of_node levels.depth n n_in.0 n_in.1) row one in
              elim (or_cases (split_at levels n) (row_bit bits n.i)
              (sym (split_at-here n n_in.0 same.0 same.1 same.2) ∙ h)) [
                | inl before ↦ inl before
                | inr new ↦ inr (record {
                  at = same.0;
                  same_k = same.1;
                  same_j = same.2;
                  set = new;
                })
              ]
        ]

    -- what was split is still
    more-keeps : (n : Node) → split_at levels n ≡ true → split_at more n ≡ true
    more-keeps n h =
        let n_in = split_at-in levels n h in
        elim (cases_eq (row_of levels.depth n.level n.k n.j) place) [
          | inr apart ↦ split_at-there n n_in.0 n_in.1 apart ∙ h
          | inl one ↦
              let same = same_row levels.depth n.level n.k n.j level k j
              (row_of_node levels.depth n n_in.0 n_in.1) row one in
              split_at-here n n_in.0 same.0 same.1 same.2
              ∙ or_left (split_at levels n) (row_bit bits n.i) h
        ]

    -- the nodes of the bits are split
    more-has : (n : Node) → IsInBits level k j bits n → split_at more n ≡ true
    more-has n h =
        let a = nodes_across levels.depth level in
        let i_in : n.i < a =
        elim (cases_lt n.i a) [
          | inl within ↦ within
          | inr past ↦ absurd (false≢true (sym (past_word bits a n.i bits_in past) ∙ h.set))
        ] in
        let P : ℕ → Type 0 = λ l. (k < nodes_across levels.depth l)
        × (j < nodes_across levels.depth l) × (n.i < nodes_across levels.depth l) in
        let p : P n.level = subst P (sym h.at) (row.k_in, row.j_in, i_in) in
        let n_in : IsNode levels.depth n = record {
          level = omega (arith, h.at, row.high);
          k = omega (arith, h.same_k, p.0);
          j = omega (arith, h.same_j, p.1);
          i = p.2;
        } in
        split_at-here n n_in h.at h.same_k h.same_j
        ∙ or_right (split_at levels n) (row_bit bits n.i) h.set

    -- so the map gains the nodes of the bits
    pub gains-bits : Gains (IsInBits level k j bits) levels more
    gains-bits = record {
      depth = refl;
      each = λ n. (
        more-tells n,
        (λ h. elim h [ inl before ↦ more-keeps n before | inr new ↦ more-has n new ]),
      );
    }

-- where all words are 0, no node is split
pub split_at-none : (levels : SplitBits) → ((r : ℕ) → get_or levels.rows r 0 ≡ 0)
    → (n : Node) → split_at levels n ≡ false
unfolding split_at
split_at-none levels none n =
    and_right _ _ (ap (λ w. row_bit w n.i) (none (row_of levels.depth n.level n.k n.j))
    ∙ ap (λ d. d == 1) (bit_at-zero n.i))
