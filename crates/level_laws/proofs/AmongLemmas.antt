-- Which nodes are the same, and which are among others: the tests agree with the facts.
--
-- Offered to the proofs of the crates above, which import it: `among_from`.
use Rattle.std.proofs.Common.{◌≡◌, ℕ, zero, suc, ◌<◌, true, List, [], ◌∷◌, ◌++◌, length, get_or, inl, inr, Contains, refl, sym, ap, ◌∙◌, subst, arith}
use Rattle.std.specs.Prelude.{◌&&◌, ◌||◌, ◌==◌}
use Rattle.std.proofs.lemmas.Bool.{and_from, and_parts, eq-eqb, eqb-true, or_cases, or_left, or_right}
use Rattle.std.proofs.Math.Bool.{or_assoc, or-false}
use Rattle.lattice.specs.declared.node.Node.{Node}
use Rattle.lattice.specs.Node.{is_among, is_same_node}

-- nodes that pass the test are the same
pub same_node : (a b : Node) → is_same_node a b ≡ true → a ≡ b
same_node a b h =
    let x = and_parts (a.level == b.level && a.k == b.k && a.j == b.j) (a.i == b.i) h in
    let y = and_parts (a.level == b.level && a.k == b.k) (a.j == b.j) x.0 in
    let z = and_parts (a.level == b.level) (a.k == b.k) y.0 in
    let level : a.level ≡ b.level = eqb-true a.level b.level z.0 in
    let k : a.k ≡ b.k = eqb-true a.k b.k z.1 in
    let j : a.j ≡ b.j = eqb-true a.j b.j y.1 in
    let i : a.i ≡ b.i = eqb-true a.i b.i x.1 in
    λ t. record { level = level t; k = k t; j = j t; i = i t }

-- a node is the same as itself by the test
is_same_node-refl : (n : Node) → is_same_node n n ≡ true
is_same_node-refl n =
    and_from _ _ (and_from _ _ (and_from _ _ (eq-eqb n.level n.level refl) (eq-eqb n.k n.k refl))
    (eq-eqb n.j n.j refl)) (eq-eqb n.i n.i refl)

-- the same node passes the test
pub is_same_node-same : (a b : Node) → a ≡ b → is_same_node a b ≡ true
is_same_node-same a b e = subst (λ n. is_same_node a n ≡ true) e (is_same_node-refl a)

-- a node is found by its index
among_at : (nodes : List Node) (n : Node) (at : ℕ) → at < length nodes
    → get_or nodes at n ≡ n → is_among nodes n ≡ true
among_at [] n at below is = absurd (omega arith)
among_at (m ∷ ms) n zero below is =
    or_left _ _ (subst (λ x. is_same_node m x ≡ true) is (is_same_node-refl m))
among_at (m ∷ ms) n (suc at) below is = or_right _ _ (among_at ms n at (omega arith) is)

-- a node of the list passes the test
pub among_from : (nodes : List Node) (n : Node) → Contains nodes n → is_among nodes n ≡ true
among_from nodes n h = among_at nodes n h.0 h.1 h.2

-- a node that passes the test is in the list
pub Contains-from : (nodes : List Node) (n : Node) → is_among nodes n ≡ true → Contains nodes n
Contains-from [] n h = absurd (cc)
Contains-from (m ∷ ms) n h =
    elim (or_cases (is_same_node m n) (is_among ms n) h) [
      | inl here ↦ (0, omega arith, same_node m n here)
      | inr later ↦ (let rest = Contains-from ms n later in
          (suc rest.0, omega (arith, rest.1), rest.2))
    ]

-- one node more at the end
pub is_among-push : (nodes : List Node) (m n : Node)
    → is_among (nodes ++ m ∷ []) n ≡ (is_among nodes n || is_same_node m n)
is_among-push [] m n = or-false (is_same_node m n)
is_among-push (x ∷ xs) m n =
    ap (λ b. is_same_node x n || b) (is_among-push xs m n)
    ∙ sym (or_assoc (is_same_node x n) (is_among xs n) (is_same_node m n))
