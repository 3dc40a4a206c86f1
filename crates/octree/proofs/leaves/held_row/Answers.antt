-- The root is the only node of its level; of every other level the row's parents tell it.
use Rattle.std.proofs.Common.{◌≡◌, ℕ, zero, suc, ◌-◌, ◌/◌, ◌^◌, ◌<◌, true, false, inl, inr, sym, ap, ◌∙◌, subst, arith}
use Rattle.std.specs.Prelude.{◌&&◌, ◌||◌, ◌==◌}
use Rattle.std.proofs.lemmas.Bool.{and_from, and_right, cases_Bool, cases_eq, eq-eqb, false≢true, false_from_ne_true, ne_eqb}
use Rattle.std.proofs.lemmas.Nat.Bits.{bit_at-pow_other}
use Rattle.lattice.specs.declared.node.Node.{Node}
use Rattle.lattice.specs.Node.{IsNode, is_node, nodes_across, parent}
use Rattle.lattice.proofs.TestLemmas.{node_test}
use Rattle.level_laws.proofs.NodeLemmas.{across_below}
use Rattle.octree.specs.Layers.{LayerOf}
use Rattle.octree.specs.LeafLists.{is_held}
use Rattle.octree.specs.SplitBits.{SplitBits, row_bit, split_at}
use Rattle.octree.proofs.RowBitLemmas.{and_true}
use Rattle.octree.proofs.SplitAtLemmas.{split_at-off}
use Rattle.octree.proofs.leaves.held_row.Goals as goal

-- ---- the root's level

-- the only row of the root's level has one node
root_row : (depth k j i : ℕ) → k < nodes_across depth depth → j < nodes_across depth depth
    → row_bit 1 i ≡ is_node depth (record { level = depth; k = k; j = j; i = i })
root_row depth k j zero k_in j_in =
    let n : Node = record { level = depth; k = k; j = j; i = 0 } in
    let inside : IsNode depth n = record {
      level = omega arith;
      k = k_in;
      j = j_in;
      i = omega (arith, k_in);
    } in
    sym ((node_test depth n).1 inside)
root_row depth k j (suc i) k_in j_in =
    let n : Node = record { level = depth; k = k; j = j; i = suc i } in
    let none : depth - depth ≡ 0 = omega arith in
    let one : nodes_across depth depth ≡ 1 = ap (λ e. 2 ^ e) none in
    ap (λ d. d == 1) (bit_at-pow_other 0 (suc i) (λ e. omega (arith, e)))
    ∙ sym (false_from_ne_true (is_node depth n) (λ on.
    let h = (node_test depth n).0 on in omega (arith, h.i, one)))

pub returns-then-is_top : goal.returns-then-is_top
returns-then-is_top c i =
    let levels = c.args.own.now.levels in
    let level = c.args.own.now.level in
    let n : Node = record { level = level; k = c.args.k; j = c.args.j; i = i } in
    let top : level ≡ levels.depth = c.is_top.ensures.0 c.if-is_top.true in
    let k_in = subst (λ l. c.args.k < nodes_across levels.depth l) top c.requires.k in
    let j_in = subst (λ l. c.args.j < nodes_across levels.depth l) top c.requires.j in
    let row : row_bit 1 i ≡ is_node levels.depth n =
    subst (λ l. row_bit 1 i
    ≡ is_node levels.depth (record { level = l; k = c.args.k; j = c.args.j; i = i })) (sym top)
    (root_row levels.depth c.args.k c.args.j i k_in j_in) in
    row ∙ sym (ap (λ b. is_node levels.depth n && (b || split_at levels (parent n)))
    (eq-eqb level levels.depth top) ∙ and_true (is_node levels.depth n))

-- ---- every other level

-- a node of a row of the world whose parent is split is in the world
below_split : (levels : SplitBits) (level k j i : ℕ) → level < levels.depth
    → k < nodes_across levels.depth level → j < nodes_across levels.depth level
    → split_at levels (parent (record { level = level; k = k; j = j; i = i })) ≡ true
    → is_node levels.depth (record { level = level; k = k; j = j; i = i }) ≡ true
below_split levels level k j i below k_in j_in on =
    let n : Node = record { level = level; k = k; j = j; i = i } in
    elim (cases_Bool (is_node levels.depth (parent n))) [
      | inl inside ↦
          let up = (node_test levels.depth (parent n)).0 inside in
          let inside : IsNode levels.depth n = record {
            level = omega arith;
            k = k_in;
            j = j_in;
            i = omega (arith, up.i, across_below levels.depth level (omega (arith, below)));
          } in
          (node_test levels.depth n).1 inside
      | inr off ↦
          let none = split_at-off levels (parent n) off in absurd (cc (none, on))
    ]

-- the bit of a parent tells whether a node is held
held_below : (levels : SplitBits) (level k j i : ℕ) → level < levels.depth
    → k < nodes_across levels.depth level → j < nodes_across levels.depth level
    → split_at levels (parent (record { level = level; k = k; j = j; i = i }))
    ≡ is_held levels.depth (split_at levels) (record { level = level; k = k; j = j; i = i })
held_below levels level k j i below k_in j_in =
    let n : Node = record { level = level; k = k; j = j; i = i } in
    let apart : (level == levels.depth) ≡ false =
    ne_eqb level levels.depth (λ e. omega (arith, e)) in
    let either : (level == levels.depth || split_at levels (parent n))
    ≡ split_at levels (parent n) =
    ap (λ b. b || split_at levels (parent n)) apart in
    elim (cases_Bool (split_at levels (parent n))) [
      | inl on ↦
          on ∙ sym (and_from (is_node levels.depth n)
          (level == levels.depth || split_at levels (parent n))
          (below_split levels level k j i below k_in j_in on) (either ∙ on))
      | inr off ↦
          off ∙ sym (and_right (is_node levels.depth n)
          (level == levels.depth || split_at levels (parent n)) (either ∙ off))
    ]

pub returns : goal.returns
returns c i =
    let levels = c.args.own.now.levels in
    let level = c.args.own.now.level in
    let below : level < levels.depth =
    elim (cases_eq level levels.depth) [
      | inl top ↦ absurd (false≢true (sym c.if-is_top.false ∙ c.is_top.ensures.1 top))
      | inr apart ↦ omega (arith, c.requires.level, apart)
    ] in
    let above : row_bit c.row.result (i / 2) ≡ split_at levels (parent (record {
      level = level;
      k = c.args.k;
      j = c.args.j;
      i = i;
    })) = c.row.ensures.each (i / 2) ∙ ap (λ (a : LayerOf). split_at a.levels (record {
      level = a.level;
      k = c.args.k / 2;
      j = c.args.j / 2;
      i = i / 2;
    })) c.requires.above in
    c.doubled.ensures i ∙ above
    ∙ held_below levels level c.args.k c.args.j i below c.requires.k c.requires.j
