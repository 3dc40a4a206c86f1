-- What a level map in the making gains by its steps: `Gains`, the promise of each step of `choose`.
--
-- Steps one after another add up (`gains_both`), and a condition can be told in other words (`gains_same`). With these
-- the loops over a plane and a box are each one step more (`plane-more`, `box-more`).
use Rattle.std.proofs.Common.{◌≡◌, ℕ, ◌+◌, ◌≤◌, ◌↔◌, true, ◌⊎◌, inl, inr, refl, ◌∙◌, arith}
use Rattle.std.proofs.lemmas.Bool.{cases_eq}
use Rattle.lattice.specs.declared.node.Node.{Node}
use Rattle.octree.specs.SplitBits.{SplitBits, row_bit}
use Rattle.octree.specs.declared.indices.Indices.{Indices}
use Rattle.octree.specs.Growing.{Gains, IsInBits}
use Rattle.octree.specs.WantedNodes.{IsAmong, IsInRow, IsInPlane}

-- ---- steps one after another

-- a map gains nothing by no step
pub gains_nothing : (P : Node → Type 0) (g : SplitBits) → ((n : Node) → P n → ⊥)
    → Gains P g g
gains_nothing P g none =
    record {
      depth = refl;
      each = λ n. (
        (λ h. inl h),
        (λ h. elim h [ inl before ↦ before | inr new ↦ absurd (none n new) ]),
      );
    }

-- a map gains by two steps what it gains by each
pub gains_both : (P Q R : Node → Type 0) (a b c : SplitBits) → Gains P a b
    → Gains Q b c
    → ((n : Node) → R n → P n ⊎ Q n) → ((n : Node) → P n ⊎ Q n → R n) → Gains R a c
gains_both P Q R a b c first second part whole = record {
  depth = second.depth ∙ first.depth;
  each = λ n. (
    (λ h.
        elim ((second.each n).0 h) [
          | inl before ↦ elim ((first.each n).0 before)
              [ inl old ↦ inl old | inr p ↦ inr (whole n (inl p)) ]
          | inr q ↦ inr (whole n (inr q))
        ]),
    (λ h.
        elim h [
          | inl old ↦ (second.each n).1 (inl ((first.each n).1 (inl old)))
          | inr r ↦
              elim (part n r) [
                | inl p ↦ (second.each n).1 (inl ((first.each n).1 (inr p)))
                | inr q ↦
                    (second.each n).1 (inr q)
              ]
        ]),
  );
}

-- a condition may be replaced by one that the same nodes meet
pub gains_same : (P Q : Node → Type 0) (a b : SplitBits) → Gains P a b
    → ((n : Node) → Q n → P n) → ((n : Node) → P n → Q n) → Gains Q a b
gains_same P Q a b gains part whole = record {
  depth = gains.depth;
  each = λ n. (
    (λ h. elim ((gains.each n).0 h) [ inl old ↦ inl old | inr p ↦ inr (whole n p) ]),
    (λ h. elim h [
      | inl old ↦ (gains.each n).1 (inl old)
      | inr q ↦ (gains.each n).1 (inr (part n q))
    ]),
  );
}

-- ---- boxes of nodes

-- a node is of a level, and its indices are among those of a box
pub record IsInBox (level : ℕ) (ks js is : Indices) (n : Node) : Type 0 where
  pub at : n.level ≡ level
  pub in_k : IsAmong ks n.k
  pub in_j : IsAmong js n.j
  pub in_i : IsAmong is n.i

-- the nodes of a row whose bits are those of a range are those of the range
pub row-bits : (level k j bits : ℕ) (is : Indices) (a b : SplitBits)
    → ((i : ℕ) → (row_bit bits i ≡ true) ↔ IsAmong is i)
    → Gains (IsInBits level k j bits) a b → Gains (IsInRow level k j is) a b
row-bits level k j bits is a b each gains =
    gains_same _ _ a b gains
    (λ n h. record {
      at = h.at;
      same_k = h.same_k;
      same_j = h.same_j;
      set = (each n.i).1 h.in_i;
    })
    (λ n h. record {
      at = h.at;
      same_k = h.same_k;
      same_j = h.same_j;
      in_i = (each n.i).0 h.set;
    })

-- a plane with a row more
pub plane-more : (level k low j : ℕ) (is : Indices) (a b c : SplitBits) → low ≤ j
    → Gains (IsInPlane level k (record { low = low; end = j }) is) a b
    → Gains (IsInRow level k j is) b c
    → Gains (IsInPlane level k (record { low = low; end = j + 1 }) is) a c
plane-more level k low j is a b c from first second =
    gains_both _ _ _ a b c first second
    (λ n h.
    elim (cases_eq n.j j) [
      | inl last ↦ inr (record { at = h.at; same_k = h.same_k; same_j = last; in_i = h.in_i })
      | inr other ↦ inl (record {
        at = h.at;
        same_k = h.same_k;
        in_j = (h.in_j.0, omega (arith, h.in_j.1));
        in_i = h.in_i;
      })
    ])
    (λ n h.
    elim h [
      | inl r ↦ record {
        at = r.at;
        same_k = r.same_k;
        in_j = (r.in_j.0, omega (arith, r.in_j.1));
        in_i = r.in_i;
      }
      | inr r ↦ record {
        at = r.at;
        same_k = r.same_k;
        in_j = (omega (arith, r.same_j), omega (arith, r.same_j));
        in_i = r.in_i;
      }
    ])

-- a box with a plane more
pub box-more : (level low k : ℕ) (js is : Indices) (a b c : SplitBits) → low ≤ k
    → Gains (IsInBox level (record { low = low; end = k }) js is) a b
    → Gains (IsInPlane level k js is) b c
    → Gains (IsInBox level (record { low = low; end = k + 1 }) js is) a c
box-more level low k js is a b c from first second =
    gains_both _ _ _ a b c first second
    (λ n h.
    elim (cases_eq n.k k) [
      | inl last ↦ inr (record { at = h.at; same_k = last; in_j = h.in_j; in_i = h.in_i })
      | inr other ↦ inl (record {
        at = h.at;
        in_k = (h.in_k.0, omega (arith, h.in_k.1));
        in_j = h.in_j;
        in_i = h.in_i;
      })
    ])
    (λ n h.
    elim h [
      | inl r ↦ record {
        at = r.at;
        in_k = (r.in_k.0, omega (arith, r.in_k.1));
        in_j = r.in_j;
        in_i = r.in_i;
      }
      | inr r ↦ record {
        at = r.at;
        in_k = (omega (arith, r.same_k), omega (arith, r.same_k));
        in_j = r.in_j;
        in_i = r.in_i;
      }
    ])
