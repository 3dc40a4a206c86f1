-- A node's parent and children, for what is said of two levels next to each other.
-- A row has twice as many nodes as the one a level above (across_below), so the child on some sides of a node is a node
-- of the world with this parent (IsChild-at). The list of children has just these eight, by computing each (listed-at):
-- so a child is listed, and what is listed is a child (Contains-child, IsChild-listed).
--
-- Offered to the proofs of the crates above, which import them: `across_below`, `child`, `Contains-child` and
-- `IsChild-listed`.
use Rattle.std.proofs.Common.{◌≡◌, ℕ, zero, suc, ◌+◌, ◌-◌, ◌*◌, ◌/◌, ◌%◌, ◌^◌, ◌<◌, ◌≤◌, get_or, refl, sym, ap, ◌∙◌, subst, arith, Contains}
use Rattle.std.proofs.Math.Nat.{pow-suc}
use Rattle.lattice.proofs.FamilyLemmas.{same_node}
use Rattle.lattice.specs.declared.node.Node.{Node}
use Rattle.lattice.specs.Node.{nodes_across, IsNode, parent, children}

-- a row has twice as many nodes as the one a level above
pub across_below : (depth l : ℕ) → l + 1 ≤ depth
    → nodes_across depth l ≡ 2 * nodes_across depth (l + 1)
across_below depth l within =
    let more : depth - l ≡ suc (depth - (l + 1)) = omega arith in
    ap (λ k. 2 ^ k) more ∙ pow-suc 2 (depth - (l + 1)) ∙ omega arith

-- the child on these sides
abbrev pub child : Node → ℕ → ℕ → ℕ → Node
child n z y x = record { level = n.level - 1; k = 2 * n.k + z; j = 2 * n.j + y; i = 2 * n.i + x }

-- a node of the world with this parent
pub record IsChild (depth : ℕ) (n child : Node) : Type 0 where
  pub node : IsNode depth child
  pub below : parent child ≡ n

-- the child on some sides is a child
pub IsChild-at : (depth : ℕ) (n : Node) (z y x : ℕ) → IsNode depth n → 1 ≤ n.level → z ≤ 1 → y ≤ 1
    → x ≤ 1 → IsChild depth n (child n z y x)
IsChild-at depth n z y x h some hz hy hx =
    let up : n.level - 1 + 1 ≡ n.level = omega arith in
    let more : nodes_across depth (n.level - 1) ≡ 2 * nodes_across depth n.level =
    across_below depth (n.level - 1) (omega (arith, h.level))
    ∙ ap (λ l. 2 * nodes_across depth l) up in
    record {
      node = record {
        level = omega (arith, h.level);
        k = omega (arith, h.k, more);
        j = omega (arith, h.j, more);
        i = omega (arith, h.i, more);
      };
      below = same_node _ _ up (omega arith) (omega arith) (omega arith);
    }

-- the child of a number among the eight, by its sides
listed-at : (n d : Node) (t : ℕ) → t < 8
    → get_or (children n) t d ≡ child n (t / 4) (t / 2 % 2) (t % 2)
listed-at n d zero within = refl
listed-at n d (suc zero) within = refl
listed-at n d (suc (suc zero)) within = refl
listed-at n d (suc (suc (suc zero))) within = refl
listed-at n d (suc (suc (suc (suc zero)))) within = refl
listed-at n d (suc (suc (suc (suc (suc zero))))) within = refl
listed-at n d (suc (suc (suc (suc (suc (suc zero)))))) within = refl
listed-at n d (suc (suc (suc (suc (suc (suc (suc zero))))))) within = refl
listed-at n d (suc (suc (suc (suc (suc (suc (suc (suc t)))))))) within = absurd (omega arith)

-- the child on some sides is listed among the children
pub Contains-child : (n : Node) (z y x : ℕ) → z ≤ 1 → y ≤ 1 → x ≤ 1
    → Contains (children n) (child n z y x)
Contains-child n z y x hz hy hx =
    let t = 4 * z + 2 * y + x in (
      t,
      omega arith,
      listed-at n (child n z y x) t (omega arith)
          ∙ same_node _ _ refl (omega arith) (omega arith) (omega arith),
    )

-- each node that is listed among the children is a child
pub IsChild-listed : (depth : ℕ) (n c : Node) → IsNode depth n → 1 ≤ n.level
    → Contains (children n) c → IsChild depth n c
IsChild-listed depth n c n_in some h =
    let t = h.0 in
    subst (IsChild depth n) (sym (listed-at n c t h.1) ∙ h.2)
    (IsChild-at depth n (t / 4) (t / 2 % 2) (t % 2) n_in some (omega (arith, h.1)) (omega arith)
    (omega arith))
