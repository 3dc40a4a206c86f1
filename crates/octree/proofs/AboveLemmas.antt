-- Which nodes are above a split node: those that have a child near it. They are what a level gains by balance.
--
-- For `GrownLemmas`, and for the rows of `above.rt`. A node above a split one is split, and each split node is wanted
-- or above one (`above-split`, `split-tells`), both from `BalanceLemmas`. On each axis the child is told from the two
-- indices (`step_to`). Then the rows: words of some rows of a plane together (`among-row`, `among-both`, `among-same`),
-- widened (`near-row`, `in_line-row`), and those of four planes, halved (`above-bits`).
use Rattle.std.proofs.Common.{◌≡◌, ℕ, suc, ◌+◌, ◌-◌, ◌*◌, ◌/◌, ◌≤◌, ◌↔◌, true, ◌⊎◌, inl, inr, refl, sym, ap, ◌∙◌, subst, arith, List}
use Rattle.std.specs.Prelude.{bit_or, nat_lt, ◌&&◌, ◌||◌}
use Rattle.std.proofs.lemmas.Bool.{and_from, and_parts, cases_eq, cases_lt, lt-ltb, or_cases, or_left, or_right}
use Rattle.lattice.specs.declared.point.Point.{Point}
use Rattle.lattice.specs.declared.node.Node.{Node}
use Rattle.lattice.specs.declared.settings.Settings.{Settings}
use Rattle.lattice.specs.Node.{IsNode, parent}
use Rattle.lattice.proofs.FamilyLemmas.{same_node}
use Rattle.terrain.specs.Levels.{ShareSegment, is_wanted, split}
use Rattle.octree.specs.Growing.{IsAbove, IsAboveSplit, IsNextTo, IsSplitAmong, IsSplitInLine, IsSplitNear}
use Rattle.octree.specs.RowBits.{row_bit_beside}
use Rattle.octree.specs.SplitBits.{SplitBits, row_bit, split_at}
use Rattle.octree.proofs.BesideLemmas.{IsNearNode}
use Rattle.octree.proofs.BalanceLemmas.{ShareSegment-near, split-beside, split-in_world, split-cause}
use Rattle.octree.proofs.HalfLemmas.{either}
use Rattle.octree.proofs.RowBitLemmas.{or_bits}

-- ---- what is above a split node is split

-- on one axis: the child of an index that is next to another, and the step to that one
record StepTo (high low : ℕ) : Type 0 where
  child : ℕ
  step : ℕ
  short : step ≤ 2
  half : child / 2 ≡ high
  next : child + step ≡ low + 1
  in_line : low / 2 ≡ high → step ≡ 1

-- the child in line where there is one, and else the next one
step_to : (high low : ℕ) → IsNextTo high low → StepTo high low
step_to high low next =
    elim (cases_eq (low / 2) high) [
      | inl same ↦ record {
        child = low;
        step = 1;
        short = omega arith;
        half = same;
        next = omega arith;
        in_line = λ h. omega arith;
      }
      | inr other ↦
          elim (cases_lt low (2 * high)) [
            | inl below ↦ record {
              child = 2 * high;
              step = 0;
              short = omega arith;
              half = omega arith;
              next = omega (arith, next.0, below);
              in_line = λ h. absurd (other h);
            }
            | inr above ↦ record {
              child = 2 * high + 1;
              step = 2;
              short = omega arith;
              half = omega arith;
              next = omega (arith, next.1, above, other);
              in_line = λ h. absurd (other h);
            }
          ]
    ]

-- a child of a node that is beside another one
record ChildNear (depth : ℕ) (high low : Node) : Type 0 where
  child : Node
  up : high ≡ parent child
  near : IsNearNode depth child low

-- a node above another of the world has such a child
child_near : (depth : ℕ) (low high : Node) → IsNode depth low → IsAbove low high
    → ChildNear depth high low
child_near depth low high low_in above =
    let z = step_to high.k low.k above.k in
    let y = step_to high.j low.j above.j in
    let x = step_to high.i low.i above.i in
    record {
      child = record { level = low.level; k = z.child; j = y.child; i = x.child };
      up = same_node _ _ above.level (sym z.half) (sym y.half) (sym x.half);
      near = record {
        node = low_in;
        beside = record {
          level = omega arith;
          step = record { z = z.step; y = y.step; x = x.step };
          z_short = z.short;
          y_short = y.short;
          x_short = x.short;
          k = z.next;
          j = y.next;
          i = x.next;
          in_line = elim above.in_line [
            | inl k ↦ inl (z.in_line k)
            | inr o ↦ elim o [
              | inl j ↦ inr (inl (y.in_line j))
              | inr i ↦ inr (inr (x.in_line i))
            ]
          ];
        };
      };
    }

-- a node with a child beside another one is above that one
above_near : (depth : ℕ) (low child : Node) → IsNearNode depth child low
    → IsAbove low (parent child)
above_near depth low child near =
    let b = near.beside in
    record {
      level = omega (arith, b.level);
      k = (omega (arith, b.k, b.z_short), omega (arith, b.k, b.z_short));
      j = (omega (arith, b.j, b.y_short), omega (arith, b.j, b.y_short));
      i = (omega (arith, b.i, b.x_short), omega (arith, b.i, b.x_short));
      in_line = elim b.in_line [
        | inl z ↦ inl (let e : low.k ≡ child.k = omega (arith, b.k, z) in ap (λ n. n / 2) e)
        | inr o ↦ elim o [
          | inl y ↦ inr (inl (let e : low.j ≡ child.j = omega (arith, b.j, y) in ap (λ n. n / 2) e))
          | inr x ↦ inr (inr (let e : low.i ≡ child.i = omega (arith, b.i, x) in ap (λ n. n / 2) e))
        ]
      ];
    }

module _ (settings : Settings) (points : List Point) where
  -- a node above a split node is split
  pub above-split : (low high : Node) → IsNode settings.depth high
      → split settings points low ≡ true → IsAbove low high
      → split settings points high ≡ true
  above-split low high high_in is_split above =
      let low_in = split-in_world settings points low is_split in
      let c = child_near settings.depth low high low_in above in
      split-beside settings points high low high_in above.level is_split
      (subst (λ n. ShareSegment n low) (sym c.up)
      (ShareSegment-near settings.depth c.child low c.near))

  -- a split node is wanted, or above a split node
  pub record SplitAbove (n : Node) : Type 0 where
    pub low : Node
    pub low_split : split settings points low ≡ true
    pub above : IsAbove low n

  -- a split node is wanted, or above a split node
  pub split-tells : (level : ℕ) (n : Node) → n.level ≡ suc level → split settings points n ≡ true
      → (is_wanted settings points n ≡ true) ⊎ SplitAbove n
  split-tells level n at h =
      elim (split-cause settings points level n at h) [
        | inl want ↦ inl want
        | inr from ↦ inr (record {
          low = from.low;
          low_split = from.low_split;
          above = subst (IsAbove from.low) (sym from.up)
              (above_near settings.depth from.low from.child from.near);
        })
      ]

-- ---- rows of a plane

module _ (levels : SplitBits) (level k : ℕ) where
  -- the bits of a word are those of the split nodes of some rows
  abbrev pub Among : (ℕ → Type 0) → ℕ → Type 0
  Among J word = (i : ℕ) → (row_bit word i ≡ true) ↔ IsSplitAmong levels level k J i

  -- those of one row
  pub among-row : (j word : ℕ) → ((i : ℕ) → row_bit word i
      ≡ split_at levels (record { level = level; k = k; j = j; i = i }))
      → Among (λ y. y ≡ j) word
  among-row j word each i = (
    (λ h. record {
      low = record { level = level; k = k; j = j; i = i };
      is_split = sym (each i) ∙ h;
      at = refl;
      same_k = refl;
      among_j = refl;
      same_i = refl;
    }),
    (λ s.
        let same = same_node s.low (record { level = level; k = k; j = j; i = i }) s.at s.same_k
        s.among_j s.same_i in
        each i ∙ ap (split_at levels) (sym same) ∙ s.is_split),
  )

  -- those of some rows are those of others that are the same
  pub among-same : (J J' : ℕ → Type 0) (word : ℕ) → Among J word
      → ((y : ℕ) → J y → J' y) → ((y : ℕ) → J' y → J y) → Among J' word
  among-same J J' word among there back i = (
    (λ h. let s = (among i).0 h in record {
      low = s.low;
      is_split = s.is_split;
      at = s.at;
      same_k = s.same_k;
      among_j = there s.low.j s.among_j;
      same_i = s.same_i;
    }),
    (λ s. (among i).1 (record {
      low = s.low;
      is_split = s.is_split;
      at = s.at;
      same_k = s.same_k;
      among_j = back s.low.j s.among_j;
      same_i = s.same_i;
    })),
  )

  -- those of two words together
  pub among-both : (J J' : ℕ → Type 0) (a b : ℕ) → Among J a → Among J' b
      → Among (λ y. J y ⊎ J' y) (bit_or a b)
  among-both J J' a b first second i = (
    (λ h.
        elim (or_cases (row_bit a i) (row_bit b i) (sym (or_bits a b i) ∙ h)) [
          | inl l ↦ (let s = (first i).0 l in record {
            low = s.low;
            is_split = s.is_split;
            at = s.at;
            same_k = s.same_k;
            among_j = inl s.among_j;
            same_i = s.same_i;
          })
          | inr r ↦ (let s = (second i).0 r in record {
            low = s.low;
            is_split = s.is_split;
            at = s.at;
            same_k = s.same_k;
            among_j = inr s.among_j;
            same_i = s.same_i;
          })
        ]),
    (λ s.
        or_bits a b i
        ∙ elim s.among_j [
          | inl l ↦ or_left (row_bit a i) (row_bit b i) ((first i).1 (record {
            low = s.low;
            is_split = s.is_split;
            at = s.at;
            same_k = s.same_k;
            among_j = l;
            same_i = s.same_i;
          }))
          | inr r ↦ or_right (row_bit a i) (row_bit b i) ((second i).1 (record {
            low = s.low;
            is_split = s.is_split;
            at = s.at;
            same_k = s.same_k;
            among_j = r;
            same_i = s.same_i;
          }))
        ]),
  )

  -- the rows of a parent's children
  pub children-rows : (j a b : ℕ) → Among (λ y. y ≡ 2 * j) a → Among (λ y. y ≡ 2 * j + 1) b
      → Among (λ y. y / 2 ≡ j) (bit_or a b)
  children-rows j a b first second =
      among-same (λ y. (y ≡ 2 * j) ⊎ (y ≡ 2 * j + 1)) (λ y. y / 2 ≡ j) (bit_or a b)
      (among-both (λ y. y ≡ 2 * j) (λ y. y ≡ 2 * j + 1) a b first second)
      (λ y h. elim h [ inl e ↦ omega arith | inr e ↦ omega arith ])
      (λ y h. elim (cases_eq y (2 * j)) [ inl e ↦ inl e | inr e ↦ inr (omega arith) ])

  -- one of some rows, at most one away on x
  record IsAmongBeside (J : ℕ → Type 0) (i : ℕ) : Type 0 where
    low : Node
    is_split : split_at levels low ≡ true
    at : low.level ≡ level
    same_k : low.k ≡ k
    among_j : J low.j
    i_low : low.i ≤ i + 1
    i_high : i ≤ low.i + 1

  -- the bits beside those of some rows
  beside-tells : (J : ℕ → Type 0) (word i : ℕ) → Among J word → row_bit_beside word i ≡ true
      → IsAmongBeside J i
  beside-tells J word i among h =
      let from : (x : ℕ) → row_bit word x ≡ true → x ≤ i + 1 → i ≤ x + 1 → IsAmongBeside J i =
      λ x on low high. let s = (among x).0 on in record {
        low = s.low;
        is_split = s.is_split;
        at = s.at;
        same_k = s.same_k;
        among_j = s.among_j;
        i_low = omega (arith, s.same_i, low);
        i_high = omega (arith, s.same_i, high);
      } in
      elim (or_cases (nat_lt 0 i && row_bit word (i - 1))
      (row_bit word i || row_bit word (i + 1)) h) [
        | inl before ↦
            let parts = and_parts (nat_lt 0 i) (row_bit word (i - 1)) before in
            from (i - 1) parts.1 (omega arith) (omega arith)
        | inr rest ↦
            elim (or_cases (row_bit word i) (row_bit word (i + 1)) rest) [
              | inl here ↦ from i here (omega arith) (omega arith)
              | inr behind ↦ from (i + 1) behind (omega arith) (omega arith)
            ]
      ]

  -- one of these sets such a bit
  beside-from : (J : ℕ → Type 0) (word i : ℕ) → Among J word → IsAmongBeside J i
      → row_bit_beside word i ≡ true
  beside-from J word i among s =
      let on : row_bit word s.low.i ≡ true = (among s.low.i).1 (record {
        low = s.low;
        is_split = s.is_split;
        at = s.at;
        same_k = s.same_k;
        among_j = s.among_j;
        same_i = refl;
      }) in
      let before = nat_lt 0 i && row_bit word (i - 1) in
      let rest = row_bit word i || row_bit word (i + 1) in
      elim (cases_lt s.low.i i) [
        | inl low ↦
            let is : s.low.i ≡ i - 1 = omega (arith, low, s.i_high) in
            or_left before rest (and_from (nat_lt 0 i) (row_bit word (i - 1))
            (lt-ltb 0 i (omega (arith, low))) (ap (row_bit word) (sym is) ∙ on))
        | inr high ↦
            elim (cases_eq s.low.i i) [
              | inl here ↦ or_right before rest (or_left (row_bit word i) (row_bit word (i + 1))
                  (ap (row_bit word) (sym here) ∙ on))
              | inr apart ↦
                  let is : s.low.i ≡ i + 1 = omega (arith, high, apart, s.i_low) in
                  or_right before rest (or_right (row_bit word i) (row_bit word (i + 1))
                  (ap (row_bit word) (sym is) ∙ on))
            ]
      ]

  -- an index in the rows of children, or in those beside them, is next to the parent's
  next_to : (j y : ℕ) → (y / 2 ≡ j) ⊎ ((y + 1 ≡ 2 * j) ⊎ (y ≡ 2 * j + 2)) → IsNextTo j y
  next_to j y h =
      elim h [
        | inl e ↦ (omega arith, omega arith)
        | inr o ↦ elim o [ inl e ↦ (omega arith, omega arith) | inr e ↦ (omega arith, omega arith) ]
      ]

  -- and each such index is one of these
  next_to-cases : (j y : ℕ) → IsNextTo j y
      → (y / 2 ≡ j) ⊎ ((y + 1 ≡ 2 * j) ⊎ (y ≡ 2 * j + 2))
  next_to-cases j y h =
      elim (cases_eq (y / 2) j) [
        | inl e ↦ inl e
        | inr other ↦ elim (cases_lt y (2 * j)) [
          | inl below ↦ inr (inl (omega (arith, h.0, below)))
          | inr above ↦ inr (inr (omega (arith, h.1, above, other)))
        ]
      ]

  -- the bits near a parent's row
  pub near-row : (j a b word : ℕ) → Among (λ y. y / 2 ≡ j) a
      → Among (λ y. (y + 1 ≡ 2 * j) ⊎ (y ≡ 2 * j + 2)) b
      → ((i : ℕ) → row_bit word i ≡ row_bit_beside (bit_or a b) i)
      → (i : ℕ) → (row_bit word i ≡ true) ↔ IsSplitNear levels level k j i
  near-row j a b word own outer is i =
      let J : ℕ → Type 0 = λ y. (y / 2 ≡ j) ⊎ ((y + 1 ≡ 2 * j) ⊎ (y ≡ 2 * j + 2)) in
      let all = among-both (λ y. y / 2 ≡ j) (λ y. (y + 1 ≡ 2 * j) ⊎ (y ≡ 2 * j + 2)) a b own outer
      in (
        (λ h. let s = beside-tells J (bit_or a b) i all (sym (is i) ∙ h) in record {
          low = s.low;
          is_split = s.is_split;
          at = s.at;
          same_k = s.same_k;
          near_j = next_to j s.low.j s.among_j;
          i_low = s.i_low;
          i_high = s.i_high;
        }),
        (λ s. is i ∙ beside-from J (bit_or a b) i all (record {
          low = s.low;
          is_split = s.is_split;
          at = s.at;
          same_k = s.same_k;
          among_j = next_to-cases j s.low.j s.near_j;
          i_low = s.i_low;
          i_high = s.i_high;
        })),
      )

  -- the bits near it and in line
  pub in_line-row : (j a wide b : ℕ) → Among (λ y. y / 2 ≡ j) a
      → ((i : ℕ) → row_bit wide i ≡ row_bit_beside a i)
      → Among (λ y. (y + 1 ≡ 2 * j) ⊎ (y ≡ 2 * j + 2)) b
      → (i : ℕ) → (row_bit (bit_or wide b) i ≡ true) ↔ IsSplitInLine levels level k j i
  in_line-row j a wide b own is outer i =
      let Own : ℕ → Type 0 = λ y. y / 2 ≡ j in
      let tells : (row_bit wide i ≡ true) ⊎ (row_bit b i ≡ true)
      → IsSplitInLine levels level k j i =
      λ h. elim h [
        | inl l ↦
            let s = beside-tells Own a i own (sym (is i) ∙ l) in
            record {
              near = record {
                low = s.low;
                is_split = s.is_split;
                at = s.at;
                same_k = s.same_k;
                near_j = next_to j s.low.j (inl s.among_j);
                i_low = s.i_low;
                i_high = s.i_high;
              };
              in_line = inl s.among_j;
            }
        | inr r ↦
            let s = (outer i).0 r in
            record {
              near = record {
                low = s.low;
                is_split = s.is_split;
                at = s.at;
                same_k = s.same_k;
                near_j = next_to j s.low.j (inr s.among_j);
                i_low = omega (arith, s.same_i);
                i_high = omega (arith, s.same_i);
              };
              in_line = inr s.same_i;
            }
      ] in
      let from : IsSplitInLine levels level k j i
      → (row_bit wide i ≡ true) ⊎ (row_bit b i ≡ true) =
      λ s. elim (next_to-cases j s.near.low.j s.near.near_j) [
        | inl own_row ↦ inl (is i ∙ beside-from Own a i own (record {
          low = s.near.low;
          is_split = s.near.is_split;
          at = s.near.at;
          same_k = s.near.same_k;
          among_j = own_row;
          i_low = s.near.i_low;
          i_high = s.near.i_high;
        }))
        | inr beside ↦ inr ((outer i).1 (record {
          low = s.near.low;
          is_split = s.near.is_split;
          at = s.near.at;
          same_k = s.near.same_k;
          among_j = beside;
          same_i = elim s.in_line [
            | inr same ↦ same
            | inl own_row ↦ absurd (elim beside [
              | inl e ↦ (let f : ⊥ = omega (arith, own_row, e) in f)
              | inr e ↦ (let f : ⊥ = omega (arith, own_row, e) in f)
            ])
          ];
        }))
      ] in (
        (λ h. tells (or_cases (row_bit wide i) (row_bit b i) (sym (or_bits wide b i) ∙ h))),
        (λ s. or_bits wide b i ∙ elim (from s) [
          | inl l ↦ or_left (row_bit wide i) (row_bit b i) l
          | inr r ↦ or_right (row_bit wide i) (row_bit b i) r
        ]),
      )

  -- the rows beside those of the first parent: one
  pub outer-first : (j b : ℕ) → j ≡ 0 → Among (λ y. y ≡ 2 * j + 2) b
      → Among (λ y. (y + 1 ≡ 2 * j) ⊎ (y ≡ 2 * j + 2)) b
  outer-first j b first behind =
      among-same (λ y. y ≡ 2 * j + 2) (λ y. (y + 1 ≡ 2 * j) ⊎ (y ≡ 2 * j + 2)) b behind
      (λ y e. inr e)
      (λ y h. elim h [ inl e ↦ absurd (omega (arith, e, first)) | inr e ↦ e ])

  -- and of another: two
  pub outer-both : (j a b : ℕ) → (j ≡ 0 → ⊥) → Among (λ y. y ≡ 2 * j - 1) a
      → Among (λ y. y ≡ 2 * j + 2) b
      → Among (λ y. (y + 1 ≡ 2 * j) ⊎ (y ≡ 2 * j + 2)) (bit_or a b)
  outer-both j a b some before behind =
      among-same (λ y. (y ≡ 2 * j - 1) ⊎ (y ≡ 2 * j + 2))
      (λ y. (y + 1 ≡ 2 * j) ⊎ (y ≡ 2 * j + 2)) (bit_or a b)
      (among-both (λ y. y ≡ 2 * j - 1) (λ y. y ≡ 2 * j + 2) a b before behind)
      (λ y h. elim h [ inl e ↦ inl (omega (arith, e, some)) | inr e ↦ inr e ])
      (λ y h. elim h [ inl e ↦ inl (omega (arith, e)) | inr e ↦ inr e ])

-- ---- four planes

module _ (levels : SplitBits) (level k j : ℕ) where
  -- a split node near a child of the row's node with this index on x
  record IsNearChild (c : ℕ) : Type 0 where
    low : Node
    is_split : split_at levels low ≡ true
    at : low.level ≡ level
    next_k : IsNextTo k low.k
    next_j : IsNextTo j low.j
    i_low : low.i ≤ c + 1
    i_high : c ≤ low.i + 1
    in_line : (low.k / 2 ≡ k) ⊎ ((low.j / 2 ≡ j) ⊎ (low.i ≡ c))

  -- such a node in the planes of children
  from_near : (c p : ℕ) → p / 2 ≡ k → IsSplitNear levels level p j c → IsNearChild c
  from_near c p half s = record {
    low = s.low;
    is_split = s.is_split;
    at = s.at;
    next_k = (omega (arith, s.same_k, half), omega (arith, s.same_k, half));
    next_j = s.near_j;
    i_low = s.i_low;
    i_high = s.i_high;
    in_line = inl (ap (λ n. n / 2) s.same_k ∙ half);
  }

  -- and in those beside them
  from_in_line : (c p : ℕ) → IsNextTo k p → IsSplitInLine levels level p j c → IsNearChild c
  from_in_line c p next s = record {
    low = s.near.low;
    is_split = s.near.is_split;
    at = s.near.at;
    next_k = (omega (arith, s.near.same_k, next), omega (arith, s.near.same_k, next));
    next_j = s.near.near_j;
    i_low = s.near.i_low;
    i_high = s.near.i_high;
    in_line = inr s.in_line;
  }

  -- one of a plane of children
  abbrev to_near : (c p : ℕ) (s : IsNearChild c) → s.low.k ≡ p → IsSplitNear levels level p j c
  to_near c p s same = record {
    low = s.low;
    is_split = s.is_split;
    at = s.at;
    same_k = same;
    near_j = s.next_j;
    i_low = s.i_low;
    i_high = s.i_high;
  }

  -- and one of a plane beside them
  to_in_line : (c p : ℕ) (s : IsNearChild c) → s.low.k ≡ p → (s.low.k / 2 ≡ k → ⊥)
      → IsSplitInLine levels level p j c
  to_in_line c p s same other = record {
    near = to_near c p s same;
    in_line = elim s.in_line [ inl z ↦ absurd (other z) | inr o ↦ o ];
  }

  -- the words of the four planes, and all together
  module _ (a b x y : ℕ)
      (first : (c : ℕ) → (row_bit a c ≡ true) ↔ IsSplitNear levels level (2 * k) j c)
      (second : (c : ℕ) → (row_bit b c ≡ true) ↔ IsSplitNear levels level (2 * k + 1) j c)
      (before : (c : ℕ) → (row_bit x c ≡ true)
      ↔ ((1 ≤ 2 * k) × IsSplitInLine levels level (2 * k - 1) j c))
      (behind : (c : ℕ) → (row_bit y c ≡ true) ↔ IsSplitInLine levels level (2 * k + 2) j c) where
    abbrev pub near_word : ℕ
    near_word = bit_or (bit_or a b) (bit_or x y)

    -- a bit of a word of two
    tells : (p q c : ℕ) → row_bit (bit_or p q) c ≡ true
        → (row_bit p c ≡ true) ⊎ (row_bit q c ≡ true)
    tells p q c h = or_cases (row_bit p c) (row_bit q c) (sym (or_bits p q c) ∙ h)

    -- one of the first word, and one of the second
    left : (p q c : ℕ) → row_bit p c ≡ true → row_bit (bit_or p q) c ≡ true
    left p q c h = or_bits p q c ∙ or_left (row_bit p c) (row_bit q c) h

    -- is one of both together
    right : (p q c : ℕ) → row_bit q c ≡ true → row_bit (bit_or p q) c ≡ true
    right p q c h = or_bits p q c ∙ or_right (row_bit p c) (row_bit q c) h

    -- a bit is set where a split node is near the child
    child-tells : (c : ℕ) → row_bit near_word c ≡ true → IsNearChild c
    child-tells c h =
        elim (tells (bit_or a b) (bit_or x y) c h) [
          | inl own ↦
              elim (tells a b c own) [
                | inl l ↦ from_near c (2 * k) (omega arith) ((first c).0 l)
                | inr r ↦ from_near c (2 * k + 1) (omega arith) ((second c).0 r)
              ]
          | inr beside ↦
              elim (tells x y c beside) [
                | inl l ↦ (let s = (before c).0 l in
                    from_in_line c (2 * k - 1) (omega (arith, s.0), omega (arith, s.0)) s.1)
                | inr r ↦ from_in_line c (2 * k + 2) (omega arith, omega arith) ((behind c).0 r)
              ]
        ]

    -- and where one is, it is set
    child-from : (c : ℕ) → IsNearChild c → row_bit near_word c ≡ true
    child-from c s =
        elim (cases_eq (s.low.k / 2) k) [
          | inl own ↦
              left (bit_or a b) (bit_or x y) c (elim (cases_eq s.low.k (2 * k)) [
                | inl even ↦ left a b c ((first c).1 (to_near c (2 * k) s even))
                | inr odd ↦ right a b c ((second c).1 (to_near c (2 * k + 1) s
                    (omega (arith, own, odd))))
              ])
          | inr other ↦
              right (bit_or a b) (bit_or x y) c (elim (cases_lt s.low.k (2 * k)) [
                | inl below ↦ left x y c ((before c).1 (
                  omega (arith, below),
                  to_in_line c (2 * k - 1) s (omega (arith, below, s.next_k.0)) other,
                ))
                | inr above ↦ right x y c ((behind c).1 (to_in_line c (2 * k + 2) s
                    (omega (arith, above, other, s.next_k.1)) other))
              ])
        ]

    -- one of a node's two children in the row is near a split node just where it is above one
    pub above-bits : (i : ℕ) → (either near_word i ≡ true)
        ↔ IsAboveSplit levels (record { level = level + 1; k = k; j = j; i = i })
    above-bits i =
        let up : (c : ℕ) → c / 2 ≡ i → IsNearChild c
        → IsAboveSplit levels (record { level = level + 1; k = k; j = j; i = i }) =
        λ c half s. record {
          low = s.low;
          is_split = s.is_split;
          above = record {
            level = omega (arith, s.at);
            k = s.next_k;
            j = s.next_j;
            i = (omega (arith, s.i_low, s.i_high, half), omega (arith, s.i_low, s.i_high, half));
            in_line = elim s.in_line [
              | inl z ↦ inl z
              | inr o ↦ elim o [
                | inl y ↦ inr (inl y)
                | inr x ↦ inr (inr (ap (λ n. n / 2) x ∙ half))
              ]
            ];
          };
        } in (
          (λ h.
              elim (or_cases (row_bit near_word (2 * i)) (row_bit near_word (2 * i + 1)) h) [
                | inl l ↦ up (2 * i) (omega arith) (child-tells (2 * i) l)
                | inr r ↦ up (2 * i + 1) (omega arith) (child-tells (2 * i + 1) r)
              ]),
          (λ s.
              let step = step_to i s.low.i s.above.i in
              let c = step.child in
              let on : row_bit near_word c ≡ true =
              child-from c (record {
                low = s.low;
                is_split = s.is_split;
                at = omega (arith, s.above.level);
                next_k = s.above.k;
                next_j = s.above.j;
                i_low = omega (arith, step.next, step.short);
                i_high = omega (arith, step.next, step.short);
                in_line = elim s.above.in_line [
                  | inl z ↦ inl z
                  | inr o ↦ elim o [
                    | inl y ↦ inr (inl y)
                    | inr x ↦ inr (inr (omega (arith, step.next, step.in_line x)))
                  ]
                ];
              }) in
              elim (cases_eq c (2 * i)) [
                | inl even ↦ or_left (row_bit near_word (2 * i)) (row_bit near_word (2 * i + 1))
                    (ap (row_bit near_word) (sym even) ∙ on)
                | inr odd ↦
                    let is : c ≡ 2 * i + 1 = omega (arith, step.half, odd) in
                    or_right (row_bit near_word (2 * i)) (row_bit near_word (2 * i + 1))
                    (ap (row_bit near_word) (sym is) ∙ on)
              ]),
        )
