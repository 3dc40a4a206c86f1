-- Which leaves a change of levels changes, by the switched nodes around them.
--
-- For `leaf_change` and what it calls. A leaf of both maps around which no node is switched has the same rim in both
-- (`same-rim`), since a rim is told by the nodes next to a leaf; one around which some node is has another
-- (`other-rim`), since a number has but one list of digits. So the words of a row tell which of its leaves are changed
-- and which are lost (`changed_bit`), and a row around which no node is switched, and of which both maps split the same
-- parents, has neither (`unchanged`, `unlost`). The bits of switched nodes are told from rows beside one another
-- (`beside_bits`, `around_bits`).
use Rattle.std.proofs.Common.{◌≡◌, ℕ, zero, suc, ◌+◌, ◌-◌, ◌<◌, ◌≤◌, ◌↔◌, Bool, true, false, List, [], ◌∷◌, map, inl, inr, refl, sym, ap, ◌∙◌, subst, arith, eq-eqb}
use Rattle.std.specs.Bool.{beq}
use Rattle.std.specs.Prelude.{bit_or, flat_map, not, nat_le, nat_lt, ◌&&◌, ◌||◌, ◌==◌}
use Rattle.std.proofs.lemmas.Bool.{and_from, and_left, and_parts, cases_Bool, cases_eq, false_from_ne_true, false≢true, lt-ltb, ltb-true, ne_eqb, not-false, not-true, not_from_false, not_from_true, or_cases, or_left, or_right}
use Rattle.lattice.specs.declared.node.Node.{Node}
use Rattle.lattice.specs.Node.{IsNode, is_node, nodes_across, parent}
use Rattle.lattice.specs.Offset.{Direction, all_directions, axes_left, directions, has_neighbour, neighbour}
use Rattle.lattice.proofs.FamilyLemmas.{same_node}
use Rattle.lattice.proofs.TestLemmas.{node_test}
use Rattle.terrain.specs.Levels.{is_finer, is_leaf, rim}
use Rattle.terrain.specs.Lists.{binary}
use Rattle.octree.specs.Changes.{IsAround, IsSwitchedAround, IsSwitchedBeside, is_lost, is_new_leaf, is_switched}
use Rattle.octree.specs.RowBits.{row_bit_beside}
use Rattle.octree.specs.SplitBits.{SplitBits, row_bit, split_at}
use Rattle.octree.proofs.BesideLemmas.{fits, steps}
use Rattle.octree.proofs.ListLemmas.{IsIn, IsIn-filter, IsIn-flat_map, IsIn-map, every_at}
use Rattle.octree.proofs.RowBitLemmas.{none_set, or_bits, same_bit}
use Rattle.octree.proofs.SplitAtLemmas.{split_at-low, split_at-off}

-- ---- switched nodes

-- a node that isn't switched is split in both maps or in none
pub same-split : (before after : SplitBits) (n : Node) → is_switched before after n ≡ false
    → split_at before n ≡ split_at after n
same-split before after n off =
    same_bit (split_at before n) (split_at after n)
    (not-false (beq (split_at before n) (split_at after n)) off)

-- a bit passes with itself
bit_same : (b : Bool) → beq b b ≡ true
bit_same true = refl
bit_same false = refl

-- one that is split in both or in none isn't switched
pub unswitched : (before after : SplitBits) (n : Node) → split_at before n ≡ split_at after n
    → is_switched before after n ≡ false
unswitched before after n same =
    ap (λ b. not (beq b (split_at after n))) same ∙ ap not (bit_same (split_at after n))

-- so a switched one isn't split in both or in none
switched-apart : (before after : SplitBits) (n : Node) → is_switched before after n ≡ true
    → split_at before n ≡ split_at after n → ⊥
switched-apart before after n on same =
    false≢true (sym (unswitched before after n same) ∙ on)

-- no node of level 0 is switched
unswitched-low : (before after : SplitBits) (n : Node) → n.level ≡ 0
    → is_switched before after n ≡ false
unswitched-low before after n low =
    unswitched before after n (split_at-low before n low ∙ sym (split_at-low after n low))

-- so at level 0 none is beside a row
pub none_beside : (before after : SplitBits) (level k j i : ℕ) → level ≡ 0
    → (row_bit 0 i ≡ true) ↔ IsSwitchedBeside before after level k j i
none_beside before after level k j i low = (
  (λ h. absurd (false≢true (sym (none_set i) ∙ h))),
  (λ s. absurd (false≢true (sym (unswitched-low before after s.by (s.same_level ∙ low))
      ∙ s.switched))),
)

-- a switched node is one of the world
pub switched-in : (before after : SplitBits) (n : Node) → before.depth ≡ after.depth
    → is_switched before after n ≡ true → IsNode after.depth n
switched-in before after n depth on =
    elim (cases_Bool (is_node after.depth n)) [
      | inl inside ↦ (node_test after.depth n).0 inside
      | inr off ↦
          absurd (switched-apart before after n on
          (split_at-off before n (ap (λ d. is_node d n) depth ∙ off)
          ∙ sym (split_at-off after n off)))
    ]

-- ---- the same rim

-- a step that leads to an index of the row isn't one back from the first
some-step : (index step across : ℕ)
    → (nat_lt 0 (index + step) && nat_le (index + step) across) ≡ true → 0 < index + step
some-step index step across h =
    ltb-true 0 (index + step)
    (and_parts (nat_lt 0 (index + step)) (nat_le (index + step) across) h).0

-- a node is around its neighbour in each direction that leads to one
around-neighbour : (depth : ℕ) (d : Direction) (n : Node) → d.z < 3 → d.y < 3 → d.x < 3
    → has_neighbour depth d n ≡ true → IsAround (neighbour d n) n
around-neighbour depth d n z y x there =
    let across = nodes_across depth n.level in
    let kj = and_parts _ _ there in
    let k = and_parts _ _ kj.0 in
    let hk = some-step n.k d.z across k.0 in
    let hj = some-step n.j d.y across k.1 in
    let hi = some-step n.i d.x across kj.1 in
    record {
      level = refl;
      k_low = omega (arith, z);
      k_high = omega (arith, hk);
      j_low = omega (arith, y);
      j_high = omega (arith, hj);
      i_low = omega (arith, x);
      i_high = omega (arith, hi);
    }

-- whether the steps of a direction are short
abbrev is_short : Direction → Bool
is_short d = nat_lt d.z 3 && (nat_lt d.y 3 && nat_lt d.x 3)

-- lists of what two functions give that agree at each item
map_same : {A B : Type 0} (f g : A → B) (xs : List A) → ((x : A) → IsIn x xs → f x ≡ g x)
    → map f xs ≡ map g xs
map_same f g [] same = refl
map_same f g (x ∷ xs) same =
    let first = same x (inl refl) in
    let rest = map_same f g xs (λ y listed. same y (inr listed)) in
    λ t. first t ∷ rest t

module _ (before after : SplitBits) (n : Node) (quiet : IsSwitchedAround before after n → ⊥)
  where
    -- a node around it is split in both maps or in none
    unmarking : (by : Node) → IsAround by n → split_at before by ≡ split_at after by
    unmarking by around =
        same-split before after by (false_from_ne_true (is_switched before after by) (λ on.
        quiet (record { by = by; switched = on; around = around })))

    -- and so is the node itself
    pub own : split_at before n ≡ split_at after n
    own = unmarking n (record {
      level = refl;
      k_low = omega arith;
      k_high = omega arith;
      j_low = omega arith;
      j_high = omega arith;
      i_low = omega arith;
      i_high = omega arith;
    })

    -- the place in a direction is finer in both or in none
    same-finer : (depth : ℕ) (d : Direction) → IsIn d directions
        → is_finer depth (split_at before) d n ≡ is_finer depth (split_at after) d n
    same-finer depth d listed =
        let short = every_at is_short d directions refl listed in
        let zs = and_parts (nat_lt d.z 3) (nat_lt d.y 3 && nat_lt d.x 3) short in
        let ys = and_parts (nat_lt d.y 3) (nat_lt d.x 3) zs.1 in
        elim (cases_Bool (has_neighbour depth d n)) [
          | inl there ↦
              ap (λ b. has_neighbour depth d n && b)
              (unmarking (neighbour d n) (around-neighbour depth d n (ltb-true d.z 3 zs.0)
              (ltb-true d.y 3 ys.0) (ltb-true d.x 3 ys.1) there))
          | inr off ↦
              and_left (has_neighbour depth d n) (split_at before (neighbour d n)) off
              ∙ sym (and_left (has_neighbour depth d n) (split_at after (neighbour d n)) off)
        ]

    -- so the node has the same rim in both
    pub same-rim : (depth : ℕ) → rim depth (split_at before) n ≡ rim depth (split_at after) n
    same-rim depth = ap binary (map_same (λ d. is_finer depth (split_at before) d n)
        (λ d. is_finer depth (split_at after) d n) directions (same-finer depth))

-- ---- quiet planes

-- where three planes have no switched node, none is around the nodes of the one between them
pub quiet-plane : (before after : SplitBits) (level k : ℕ)
    → ((j i : ℕ) → is_switched before after (record { level = level; k = k; j = j; i = i })
    ≡ false)
    → ((j i : ℕ) → is_switched before after (record { level = level; k = k + 1; j = j; i = i })
    ≡ false)
    → (1 ≤ k → (j i : ℕ)
    → is_switched before after (record { level = level; k = k - 1; j = j; i = i }) ≡ false)
    → (j i : ℕ) → IsSwitchedAround before after (record { level = level; k = k; j = j; i = i }) → ⊥
quiet-plane before after level k here next low j i s =
    let at : (p : ℕ) → s.by.k ≡ p
    → s.by ≡ record { level = level; k = p; j = s.by.j; i = s.by.i } =
    λ p same. same_node s.by (record { level = level; k = p; j = s.by.j; i = s.by.i })
    s.around.level same refl refl in
    let on : (p : ℕ) → s.by.k ≡ p
    → is_switched before after (record { level = level; k = p; j = s.by.j; i = s.by.i }) ≡ false
    → ⊥ =
    λ p same off. false≢true (sym off ∙ ap (is_switched before after) (sym (at p same))
    ∙ s.switched) in
    elim (cases_eq s.by.k k) [
      | inl same ↦ on k same (here s.by.j s.by.i)
      | inr other ↦
          elim (cases_eq s.by.k (k + 1)) [
            | inl same ↦ on (k + 1) same (next s.by.j s.by.i)
            | inr apart ↦
                let same : s.by.k ≡ k - 1 =
                omega (arith, other, apart, s.around.k_low, s.around.k_high) in
                let some : 1 ≤ k = omega (arith, other, apart, s.around.k_low, s.around.k_high) in
                on (k - 1) same (low some s.by.j s.by.i)
          ]
    ]

-- ---- another rim

-- of a number's digits the first and the others are known
same-digits : (a b : Bool) (xs ys : List Bool) → binary (a ∷ xs) ≡ binary (b ∷ ys)
    → (a ≡ b) × (binary xs ≡ binary ys)
same-digits true true xs ys same = (refl, omega (arith, same))
same-digits true false xs ys same = absurd (omega (arith, same))
same-digits false true xs ys same = absurd (omega (arith, same))
same-digits false false xs ys same = (refl, omega (arith, same))

-- two functions that give the digits of one number agree at each item
same-bits : {A : Type 0} (f g : A → Bool) (xs : List A)
    → binary (map f xs) ≡ binary (map g xs) → (x : A) → IsIn x xs → f x ≡ g x
same-bits f g [] same x listed = absurd listed
same-bits f g (y ∷ ys) same x listed =
    let parts = same-digits (f y) (g y) (map f ys) (map g ys) same in
    elim listed [
      | inl is ↦ ap f is ∙ parts.0 ∙ sym (ap g is)
      | inr later ↦ same-bits f g ys parts.1 x later
    ]

-- a step of at most 2 is one of the three
IsIn-steps : (n : ℕ) → n ≤ 2 → IsIn n steps
IsIn-steps zero h = inl refl
IsIn-steps (suc zero) h = inr (inl refl)
IsIn-steps (suc (suc zero)) h = inr (inr (inl refl))
IsIn-steps (suc (suc (suc n))) h = absurd (omega arith)

-- 1 for a step that leads away
abbrev away : ℕ → ℕ
away step = elim (step == 1) [ true ↦ 0 | false ↦ 1 ]

-- as each other step than none does
away-other : (step : ℕ) → (step ≡ 1 → ⊥) → away step ≡ 1
away-other step other =
    ap (λ b. elim b as (λ _. ℕ) [ true ↦ 0 | false ↦ 1 ]) (ne_eqb step 1 other)

-- a direction that leads away on some axis
leads : (d : Direction) → ((d.z ≡ 1) → (d.y ≡ 1) → (d.x ≡ 1) → ⊥) → 0 < axes_left d
leads d apart =
    elim (cases_eq d.z 1) [
      | inr z ↦ omega (arith, away-other d.z z)
      | inl z ↦ elim (cases_eq d.y 1) [
        | inr y ↦ omega (arith, away-other d.y y)
        | inl y ↦ elim (cases_eq d.x 1) [
          | inr x ↦ omega (arith, away-other d.x x)
          | inl x ↦ absurd (apart z y x)
        ]
      ]
    ]

-- a direction of short steps that leads away is one of the 26
IsIn-directions : (d : Direction) → d.z ≤ 2 → d.y ≤ 2 → d.x ≤ 2
    → ((d.z ≡ 1) → (d.y ≡ 1) → (d.x ≡ 1) → ⊥) → IsIn d directions
IsIn-directions d z y x apart =
    let row : ℕ → ℕ → List Direction = λ z y. map (λ x. record { z = z; y = y; x = x }) steps in
    IsIn-filter (λ d. nat_lt 0 (axes_left d)) d all_directions
    (IsIn-flat_map (λ z. flat_map (row z) steps) d.z d steps (IsIn-steps d.z z) (
    IsIn-flat_map (row d.z) d.y d steps (IsIn-steps d.y y) (
    IsIn-map (λ x. record { z = d.z; y = d.y; x = x }) d.x steps (IsIn-steps d.x x))))
    (lt-ltb 0 (axes_left d) (leads d apart))

-- a node around which one is switched that isn't itself has another rim
pub other-rim : (before after : SplitBits) (n by : Node) → before.depth ≡ after.depth
    → is_switched before after by ≡ true → IsAround by n → (by ≡ n → ⊥)
    → rim after.depth (split_at before) n ≡ rim after.depth (split_at after) n → ⊥
other-rim before after n by depth on around other same =
    let d : Direction = record {
      z = by.k + 1 - n.k;
      y = by.j + 1 - n.j;
      x = by.i + 1 - n.i;
    } in
    let there = switched-in before after by depth on in
    let P : ℕ → Type 0 = λ l. (by.k < nodes_across after.depth l)
    × (by.j < nodes_across after.depth l) × (by.i < nodes_across after.depth l) in
    let within : P n.level = subst P around.level (there.k, there.j, there.i) in
    let across = nodes_across after.depth n.level in
    let hk : n.k + d.z ≡ by.k + 1 = omega (arith, around.k_high) in
    let hj : n.j + d.y ≡ by.j + 1 = omega (arith, around.j_high) in
    let hi : n.i + d.x ≡ by.i + 1 = omega (arith, around.i_high) in
    let has : has_neighbour after.depth d n ≡ true =
    and_from _ _ (and_from _ _ (fits n.k d.z across by.k hk within.0)
    (fits n.j d.y across by.j hj within.1)) (fits n.i d.x across by.i hi within.2) in
    let is : neighbour d n ≡ by = same_node _ _ (sym around.level) (omega (arith, hk))
    (omega (arith, hj)) (omega (arith, hi)) in
    let listed : IsIn d directions =
    IsIn-directions d (omega (arith, around.k_low)) (omega (arith, around.j_low))
    (omega (arith, around.i_low))
    (λ z y x. other (same_node by n around.level (omega (arith, hk, z))
    (omega (arith, hj, y)) (omega (arith, hi, x)))) in
    let finer : is_finer after.depth (split_at before) d n
    ≡ is_finer after.depth (split_at after) d n =
    same-bits (λ d. is_finer after.depth (split_at before) d n)
    (λ d. is_finer after.depth (split_at after) d n) directions same d listed in
    let next : split_at before (neighbour d n) ≡ split_at after (neighbour d n) =
    sym (ap (λ b. b && split_at before (neighbour d n)) has) ∙ finer
    ∙ ap (λ b. b && split_at after (neighbour d n)) has in
    switched-apart before after by on (subst (λ m. split_at before m ≡ split_at after m) is next)

-- ---- the bits of a row

-- a bit beside one that isn't set
or_unset : (a b : Bool) → b ≡ false → (a || b) ≡ a
or_unset true b off = refl
or_unset false b off = off

-- and behind one
unset_or : (a b : Bool) → a ≡ false → (a || b) ≡ b
unset_or a b off = ap (λ c. c || b) off

-- no test holds and fails
and_not : (b : Bool) → (b && not b) ≡ false
and_not true = refl
and_not false = refl

-- a leaf isn't split
leaf-whole : (depth : ℕ) (levels : SplitBits) (n : Node)
    → is_leaf depth (split_at levels) n ≡ true → split_at levels n ≡ false
leaf-whole depth levels n leaf =
    let held = and_parts (is_node depth n && not (split_at levels n))
    (n.level == depth || split_at levels (parent n)) leaf in
    not-true (split_at levels n)
    (and_parts (is_node depth n) (not (split_at levels n)) held.0).1

module _ (before after : SplitBits) (n : Node) (depth : before.depth ≡ after.depth) where
  -- the rims of a leaf of both maps differ where a node around it is switched
  rims_differ : (near : Bool) → (near ≡ true) ↔ IsSwitchedAround before after n
      → is_leaf after.depth (split_at before) n ≡ true
      → is_leaf after.depth (split_at after) n ≡ true
      → near ≡ not (rim after.depth (split_at before) n == rim after.depth (split_at after) n)
  rims_differ near tells was now =
      let one = rim after.depth (split_at before) n in
      let two = rim after.depth (split_at after) n in
      let same : split_at before n ≡ split_at after n =
      leaf-whole after.depth before n was ∙ sym (leaf-whole after.depth after n now) in
      elim (cases_Bool near) [
        | inl on ↦
            let h = tells.0 on in
            let apart : h.by ≡ n → ⊥ =
            λ is. switched-apart before after h.by h.switched
            (subst (λ m. split_at before m ≡ split_at after m) (sym is) same) in
            on ∙ sym (not_from_false (one == two) (ne_eqb one two
            (other-rim before after n h.by depth h.switched h.around apart)))
        | inr off ↦
            let quiet : IsSwitchedAround before after n → ⊥ =
            λ h. false≢true (sym off ∙ tells.1 h) in
            off ∙ sym (not_from_true (one == two)
            (eq-eqb one two (same-rim before after n quiet after.depth)))
      ]

  -- a changed leaf is one now, and wasn't one before or has a switched node around it
  pub changed_bit : (near : Bool) → (near ≡ true) ↔ IsSwitchedAround before after n
      → (is_leaf after.depth (split_at after) n
      && (near || not (is_leaf before.depth (split_at before) n))) ≡ is_new_leaf before after n
  changed_bit near tells =
      let now = is_leaf after.depth (split_at after) n in
      let was = is_leaf after.depth (split_at before) n in
      let differ = not (rim after.depth (split_at before) n == rim after.depth (split_at after) n)
      in
      ap (λ d. now && (near || not (is_leaf d (split_at before) n))) depth
      ∙ elim (cases_Bool now) [
        | inr off ↦ and_left now (near || not was) off ∙ sym (and_left now (not was || differ) off)
        | inl leaf ↦
            ap (λ b. now && b) (elim (cases_Bool was) [
              | inr none ↦
                  or_right near (not was) (not_from_false was none)
                  ∙ sym (or_left (not was) differ (not_from_false was none))
              | inl held ↦
                  or_unset near (not was) (not_from_true was held)
                  ∙ rims_differ near tells held leaf
                  ∙ sym (unset_or (not was) differ (not_from_true was held))
            ])
      ]

  -- where no node around it is switched, and its parent isn't, a node is a leaf in both maps or in none
  same-leaf : (IsSwitchedAround before after n → ⊥)
      → split_at before (parent n) ≡ split_at after (parent n)
      → is_leaf before.depth (split_at before) n ≡ is_leaf after.depth (split_at after) n
  same-leaf quiet above = λ t.
      is_node (depth t) n && not (own before after n quiet t) && (n.level == depth t || above t)

  -- so it isn't a lost leaf
  pub unlost : (IsSwitchedAround before after n → ⊥)
      → split_at before (parent n) ≡ split_at after (parent n) → is_lost before after n ≡ false
  unlost quiet above =
      ap (λ b. b && not (is_leaf after.depth (split_at after) n)) (same-leaf quiet above)
      ∙ and_not (is_leaf after.depth (split_at after) n)

  -- nor a changed one
  pub unchanged : (IsSwitchedAround before after n → ⊥)
      → split_at before (parent n) ≡ split_at after (parent n)
      → is_new_leaf before after n ≡ false
  unchanged quiet above =
      let now = is_leaf after.depth (split_at after) n in
      sym (changed_bit false ((λ h. absurd (false≢true h)), (λ h. absurd (quiet h))))
      ∙ ap (λ b. now && not b) (same-leaf quiet above)
      ∙ and_not now

-- ---- rows beside one another

-- a set bit beside an index, by its own index
pub record IsNearBit (word i : ℕ) : Type 0 where
  pub at : ℕ
  pub low : at ≤ i + 1
  pub high : i ≤ at + 1
  pub set : row_bit word at ≡ true

-- there is one where the test of the three finds one
near-tells : (word i : ℕ) → row_bit_beside word i ≡ true → IsNearBit word i
near-tells word i h =
    elim (or_cases (nat_lt 0 i && row_bit word (i - 1))
    (row_bit word i || row_bit word (i + 1)) h) [
      | inl first ↦
          let parts = and_parts (nat_lt 0 i) (row_bit word (i - 1)) first in
          let some = ltb-true 0 i parts.0 in
          record { at = i - 1; low = omega arith; high = omega (arith, some); set = parts.1 }
      | inr later ↦ elim (or_cases (row_bit word i) (row_bit word (i + 1)) later) [
        | inl here ↦ record { at = i; low = omega arith; high = omega arith; set = here }
        | inr next ↦ record { at = i + 1; low = omega arith; high = omega arith; set = next }
      ]
    ]

-- and the test finds it
near-found : (word i : ℕ) → IsNearBit word i → row_bit_beside word i ≡ true
near-found word i h =
    elim (cases_eq h.at i) [
      | inl here ↦
          or_right (nat_lt 0 i && row_bit word (i - 1)) (row_bit word i || row_bit word (i + 1))
          (or_left (row_bit word i) (row_bit word (i + 1)) (ap (row_bit word) (sym here) ∙ h.set))
      | inr other ↦ elim (cases_eq h.at (i + 1)) [
        | inl next ↦
            or_right (nat_lt 0 i && row_bit word (i - 1)) (row_bit word i || row_bit word (i + 1))
            (or_right (row_bit word i) (row_bit word (i + 1))
            (ap (row_bit word) (sym next) ∙ h.set))
        | inr apart ↦
            let before : i - 1 ≡ h.at = omega (arith, h.low, h.high, other, apart) in
            let some : 0 < i = omega (arith, h.low, h.high, other, apart) in
            or_left (nat_lt 0 i && row_bit word (i - 1)) (row_bit word i || row_bit word (i + 1))
            (and_from (nat_lt 0 i) (row_bit word (i - 1)) (lt-ltb 0 i some)
            (ap (row_bit word) before ∙ h.set))
      ]
    ]

module _ (before after : SplitBits) (level k j low here high : ℕ)
    (low_is : (i : ℕ) → row_bit low i ≡ (nat_lt 0 k
    && is_switched before after (record { level = level; k = k - 1; j = j; i = i })))
    (here_is : (i : ℕ) → row_bit here i
    ≡ is_switched before after (record { level = level; k = k; j = j; i = i }))
    (high_is : (i : ℕ) → row_bit high i
    ≡ is_switched before after (record { level = level; k = k + 1; j = j; i = i }))
  where
    -- the word of three rows together
    abbrev three : ℕ
    three = bit_or low (bit_or here high)

    -- a node of the level by its indices on z and x
    abbrev at_node : ℕ → ℕ → Node
    at_node z x = record { level = level; k = z; j = j; i = x }

    -- a bit of the three is that of a switched node of one of them
    three-tells : (i : ℕ) → IsNearBit three i → IsSwitchedBeside before after level k j i
    three-tells i near =
        let of : (z : ℕ) → z ≤ k + 1 → k ≤ z + 1
        → is_switched before after (at_node z near.at) ≡ true
        → IsSwitchedBeside before after level k j i =
        λ z z_low z_high on. record {
          by = at_node z near.at;
          switched = on;
          same_level = refl;
          same_j = refl;
          k_low = z_low;
          k_high = z_high;
          i_low = near.low;
          i_high = near.high;
        } in
        elim (or_cases (row_bit low near.at) (row_bit (bit_or here high) near.at)
        (sym (or_bits low (bit_or here high) near.at) ∙ near.set)) [
          | inl first ↦
              let parts = and_parts (nat_lt 0 k)
              (is_switched before after (at_node (k - 1) near.at))
              (sym (low_is near.at) ∙ first) in
              let some = ltb-true 0 k parts.0 in
              of (k - 1) (omega arith) (omega (arith, some)) parts.1
          | inr later ↦ elim (or_cases (row_bit here near.at) (row_bit high near.at)
              (sym (or_bits here high near.at) ∙ later)) [
                | inl same ↦
                    of k (omega arith) (omega arith) (sym (here_is near.at) ∙ same)
                | inr next ↦
                    of (k + 1) (omega arith) (omega arith) (sym (high_is near.at) ∙ next)
              ]
        ]

    -- and a switched node of one of them has a bit
    three-found : (i : ℕ) → IsSwitchedBeside before after level k j i → IsNearBit three i
    three-found i s =
        let x = s.by.i in
        let on : (z : ℕ) → s.by.k ≡ z → is_switched before after (at_node z x) ≡ true =
        λ z z_is. subst (λ m. is_switched before after m ≡ true)
        (same_node s.by (at_node z x) s.same_level z_is s.same_j refl) s.switched in
        let set : row_bit three x ≡ true =
        or_bits low (bit_or here high) x ∙ elim (cases_eq s.by.k k) [
          | inl same ↦
              or_right (row_bit low x) (row_bit (bit_or here high) x) (or_bits here high x
              ∙ or_left (row_bit here x) (row_bit high x) (here_is x ∙ on k same))
          | inr other ↦ elim (cases_eq s.by.k (k + 1)) [
            | inl next ↦
                or_right (row_bit low x) (row_bit (bit_or here high) x) (or_bits here high x
                ∙ or_right (row_bit here x) (row_bit high x) (high_is x ∙ on (k + 1) next))
            | inr apart ↦
                let some : 0 < k = omega (arith, s.k_low, s.k_high, other, apart) in
                let first : s.by.k ≡ k - 1 = omega (arith, s.k_low, s.k_high, other, apart) in
                or_left (row_bit low x) (row_bit (bit_or here high) x) (low_is x
                ∙ and_from (nat_lt 0 k) (is_switched before after (at_node (k - 1) x))
                (lt-ltb 0 k some) (on (k - 1) first))
          ]
        ] in
        record { at = x; low = s.i_low; high = s.i_high; set = set }

    -- the bits beside those of the three are those of the nodes beside which one is switched
    pub beside_bits : (result : ℕ) → ((i : ℕ) → row_bit result i ≡ row_bit_beside three i) → (i : ℕ)
        → (row_bit result i ≡ true) ↔ IsSwitchedBeside before after level k j i
    beside_bits result is i = (
      (λ h. three-tells i (near-tells three i (sym (is i) ∙ h))),
      (λ s. is i ∙ near-found three i (three-found i s)),
    )

-- a switched node is beside the index before one on y
pub record IsSwitchedBefore (before after : SplitBits) (level k j i : ℕ) : Type 0 where
  pub at : ℕ
  pub next : at + 1 ≡ j
  pub beside : IsSwitchedBeside before after level k at i

-- none is before the first
pub before-first : (before after : SplitBits) (level k i : ℕ)
    → (row_bit 0 i ≡ true) ↔ IsSwitchedBefore before after level k 0 i
before-first before after level k i = (
  (λ h. absurd (false≢true (sym (none_set i) ∙ h))),
  (λ s. absurd (omega (arith, s.next))),
)

-- those of an index are before the next
pub before-next : (before after : SplitBits) (level k j word i : ℕ)
    → (row_bit word i ≡ true) ↔ IsSwitchedBeside before after level k j i
    → (row_bit word i ≡ true) ↔ IsSwitchedBefore before after level k (j + 1) i
before-next before after level k j word i tells = (
  (λ h. record { at = j; next = refl; beside = tells.0 h }),
  (λ s.
      let same : s.at ≡ j = omega (arith, s.next) in
      tells.1 (subst (λ y. IsSwitchedBeside before after level k y i) same s.beside)),
)

-- three rows beside one another on y have the nodes around those of the one between them
pub around_bits : (before after : SplitBits) (level k j low here high i : ℕ)
    → (row_bit low i ≡ true) ↔ IsSwitchedBefore before after level k j i
    → (row_bit here i ≡ true) ↔ IsSwitchedBeside before after level k j i
    → (row_bit high i ≡ true) ↔ IsSwitchedBeside before after level k (j + 1) i
    → (row_bit (bit_or low (bit_or here high)) i ≡ true)
    ↔ IsSwitchedAround before after (record { level = level; k = k; j = j; i = i })
around_bits before after level k j low here high i low_is here_is high_is =
    let n : Node = record { level = level; k = k; j = j; i = i } in
    let of : (y : ℕ) → y ≤ j + 1 → j ≤ y + 1 → IsSwitchedBeside before after level k y i
    → IsSwitchedAround before after n =
    λ y y_low y_high s. record {
      by = s.by;
      switched = s.switched;
      around = record {
        level = s.same_level;
        k_low = s.k_low;
        k_high = s.k_high;
        j_low = omega (arith, s.same_j);
        j_high = omega (arith, s.same_j);
        i_low = s.i_low;
        i_high = s.i_high;
      };
    } in
    let beside : (h : IsSwitchedAround before after n) (y : ℕ) → h.by.j ≡ y
    → IsSwitchedBeside before after level k y i =
    λ h y y_is. record {
      by = h.by;
      switched = h.switched;
      same_level = h.around.level;
      same_j = y_is;
      k_low = h.around.k_low;
      k_high = h.around.k_high;
      i_low = h.around.i_low;
      i_high = h.around.i_high;
    } in (
      (λ set.
          elim (or_cases (row_bit low i) (row_bit (bit_or here high) i)
          (sym (or_bits low (bit_or here high) i) ∙ set)) [
            | inl first ↦
                let s = low_is.0 first in
                let up = s.next in
                of s.at (omega (arith, up)) (omega (arith, up)) s.beside
            | inr later ↦ elim (or_cases (row_bit here i) (row_bit high i)
                (sym (or_bits here high i) ∙ later)) [
                  | inl same ↦ of j (omega arith) (omega arith) (here_is.0 same)
                  | inr next ↦ of (j + 1) (omega arith) (omega arith) (high_is.0 next)
                ]
          ]),
      (λ h.
          or_bits low (bit_or here high) i ∙ elim (cases_eq h.by.j j) [
            | inl same ↦
                or_right (row_bit low i) (row_bit (bit_or here high) i) (or_bits here high i
                ∙ or_left (row_bit here i) (row_bit high i) (here_is.1 (beside h j same)))
            | inr other ↦ elim (cases_eq h.by.j (j + 1)) [
              | inl next ↦
                  or_right (row_bit low i) (row_bit (bit_or here high) i) (or_bits here high i
                  ∙ or_right (row_bit here i) (row_bit high i) (high_is.1 (beside h (j + 1) next)))
              | inr apart ↦
                  let first : h.by.j + 1 ≡ j =
                  omega (arith, h.around.j_low, h.around.j_high, other, apart) in
                  or_left (row_bit low i) (row_bit (bit_or here high) i) (low_is.1 (record {
                    at = h.by.j;
                    next = first;
                    beside = beside h h.by.j refl;
                  }))
            ]
          ]),
    )
