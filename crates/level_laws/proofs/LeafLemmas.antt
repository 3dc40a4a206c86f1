-- The test of a leaf agrees with the fact, and the list of leaves has each of them: the law `leaves_are_listed`.
-- The fact has three parts, and the test is their tests one after another (to_leaf, from_leaf). The list of leaves is
-- the list of nodes, of which those that pass are kept; every node of the world is in that list, so every leaf is in
-- this one (kept_at, leaf_listed).
--
-- Offered to the proofs of the crates above, which import them: `leaf_test`, `Contains-filter` and `leaf_listed`.
use Rattle.std.proofs.Common.{◌≡◌, ◌<◌, ℕ, zero, suc, Bool, true, ◌&&◌, ◌||◌, not, List, [], ◌∷◌, length, get_or, Contains, ap, ◌∙◌, arith, inl, inr, eq-eqb}
use Rattle.std.specs.Prelude.{◌↔◌, IsTrue, filter, ◌==◌}
use Rattle.std.proofs.lemmas.Bool.{and_from, and_parts, cases_Bool, eqb-true, not-true, not_from_false, or_cases, or_left, or_right}
use Rattle.std.proofs.lemmas.List.Elements.{All-contains, Contains-append_right, filter_passes}
use Rattle.lattice.proofs.SlotLemmas.{node_listed}
use Rattle.lattice.proofs.TestLemmas.{node_test}
use Rattle.lattice.specs.declared.node.Node.{Node}
use Rattle.lattice.specs.Node.{is_node, nodes, parent}
use Rattle.terrain.specs.Levels.{LevelMap, IsLeaf, is_leaf, leaves}

-- the fact from the test
to_leaf : (depth : ℕ) (m : LevelMap) (n : Node) → is_leaf depth m n ≡ true → IsLeaf depth m n
to_leaf depth m n h =
    let a = and_parts (is_node depth n && not (m n)) (n.level == depth || m (parent n)) h in
    let b = and_parts (is_node depth n) (not (m n)) a.0 in
    record {
      node = (node_test depth n).0 b.0;
      whole = not-true (m n) b.1;
      held = elim (or_cases (n.level == depth) (m (parent n)) a.1)
          [ inl e ↦ inl (eqb-true n.level depth e) | inr e ↦ inr e ];
    }

-- the test from the fact
from_leaf : (depth : ℕ) (m : LevelMap) (n : Node) → IsLeaf depth m n → is_leaf depth m n ≡ true
from_leaf depth m n h =
    and_from (is_node depth n && not (m n)) _
    (and_from _ _ ((node_test depth n).1 h.node) (not_from_false (m n) h.whole))
    (elim h.held [ inl e ↦ or_left _ _ (eq-eqb n.level depth e) | inr e ↦ or_right _ _ e ])

-- the test of a leaf passes exactly for the leaves
pub leaf_test : (depth : ℕ) (m : LevelMap) (n : Node)
    → IsTrue (is_leaf depth m n) ↔ IsLeaf depth m n
leaf_test depth m n = (to_leaf depth m n, from_leaf depth m n)

-- ---- the list of leaves

-- an item that passes a test is one of those that do, by its index
kept_at : {A : Type 0} (test : A → Bool) (xs : List A) (k : ℕ) (x : A) → k < length xs
    → get_or xs k x ≡ x → test x ≡ true → Contains (filter test xs) x
kept_at test [] k x k_in is pass = absurd (omega arith)
kept_at test (y ∷ ys) zero x k_in is pass =
    let passes : test y ≡ true = ap test is ∙ pass in
    rw passes (0, omega arith, is)
kept_at test (y ∷ ys) (suc k) x k_in is pass =
    let rest = kept_at test ys k x (omega arith) is pass in
    elim (cases_Bool (test y)) [
      | inl kept ↦ rw kept (Contains-append_right (y ∷ []) (filter test ys) x rest)
      | inr left ↦ rw left rest
    ]

-- an item that passes is kept
pub Contains-filter : {A : Type 0} (test : A → Bool) (xs : List A) (x : A) → Contains xs x
    → test x ≡ true → Contains (filter test xs) x
Contains-filter test xs x h pass = kept_at test xs h.0 x h.1 h.2 pass

-- a node of the list passes the test
listed_passes : (depth : ℕ) (m : LevelMap) (n : Node) → Contains (leaves depth m) n
    → is_leaf depth m n ≡ true
listed_passes depth m n listed =
    All-contains (λ x. is_leaf depth m x ≡ true) (leaves depth m) n
    (filter_passes (is_leaf depth m) (nodes depth)) listed

-- the list has each leaf and no other node
pub leaf_listed : (depth : ℕ) (m : LevelMap) (n : Node)
    → IsLeaf depth m n ↔ Contains (leaves depth m) n
leaf_listed depth m n = (
  λ leaf. Contains-filter (is_leaf depth m) (nodes depth) n ((node_listed depth n).0 leaf.node)
      (from_leaf depth m n leaf),
  λ listed. to_leaf depth m n (listed_passes depth m n listed),
)
