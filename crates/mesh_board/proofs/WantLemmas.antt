-- What the loops of `want_all` and `forget_all` keep: each node so far has the state that all get, wanted or no leaf,
-- and is in the set, and the others are as they were. That a node is among the first nodes of a list changes by one
-- node with each turn (`among-here`, `among-other`), as the lemmas of nodes among others say. So the states
-- (`states-more`) and the set (`listed-more`) after a turn follow from those before it, by whether a node is the one of
-- the turn.
use Rattle.std.proofs.Common.{◌≡◌, ◌≢◌, ℕ, ◌+◌, ◌<◌, true, false, List, length, get_or, take, refl, sym, ap, ◌∙◌, subst, inl, inr}
use Rattle.std.specs.Prelude.{◌||◌, if◌then◌else◌}
use Rattle.std.proofs.lemmas.Bool.{cases_Bool}
use Rattle.std.proofs.lemmas.List.{take_more}
use Rattle.std.proofs.Math.Bool.{or-false, or-true}
use Rattle.lattice.proofs.FamilyLemmas.{cases_Node}
use Rattle.level_laws.proofs.AmongLemmas.{is_among-push, is_same_node-same, same_node}
use Rattle.lattice.specs.declared.node.Node.{Node}
use Rattle.lattice.specs.Node.{is_same_node, is_among}
use Rattle.node_tables.specs.NodeBits.{NodeBits, has}
use Rattle.mesh_board.specs.LeafStates.{LeafState, LeafStates, state_at}

-- ---- among one node more

-- two nodes that differ are told apart
other-test : (a b : Node) → a ≢ b → is_same_node a b ≡ false
other-test a b apart =
    elim (cases_Bool (is_same_node a b)) [
      | inl on ↦ absurd (apart (same_node a b on))
      | inr off ↦ off
    ]

-- the next node is among them, and no other one is that wasn't
pub among-here : (nodes : List Node) (at : ℕ) (leaf : Node)
    → at < length nodes → get_or nodes at leaf ≡ leaf
    → is_among (take (at + 1) nodes) leaf ≡ true
among-here nodes at leaf within here =
    ap (λ ns. is_among ns leaf) (take_more nodes at leaf within)
    ∙ is_among-push (take at nodes) (get_or nodes at leaf) leaf
    ∙ ap (λ m. is_among (take at nodes) leaf || is_same_node m leaf) here
    ∙ ap (λ b. is_among (take at nodes) leaf || b) (is_same_node-same leaf leaf refl)
    ∙ or-true (is_among (take at nodes) leaf)

-- another node is among them as before
pub among-other : (nodes : List Node) (at : ℕ) (leaf n : Node)
    → at < length nodes → get_or nodes at leaf ≡ leaf → n ≢ leaf
    → is_among (take (at + 1) nodes) n ≡ is_among (take at nodes) n
among-other nodes at leaf n within here other =
    ap (λ ns. is_among ns n) (take_more nodes at leaf within)
    ∙ is_among-push (take at nodes) (get_or nodes at leaf) n
    ∙ ap (λ m. is_among (take at nodes) n || is_same_node m n) here
    ∙ ap (λ b. is_among (take at nodes) n || b) (other-test leaf n (λ is. other (sym is)))
    ∙ or-false (is_among (take at nodes) n)

-- the next node has the state that all of them get, and the others are as they were
pub states-more : (state : LeafState) (old now new : LeafStates) (nodes : List Node) (at : ℕ)
    (leaf : Node)
    → at < length nodes → get_or nodes at leaf ≡ leaf
    → ((n : Node) → state_at now n
    ≡ (if is_among (take at nodes) n then state else state_at old n))
    → state_at new leaf ≡ state → ((n : Node) → n ≢ leaf → state_at new n ≡ state_at now n)
    → (n : Node) → state_at new n
    ≡ (if is_among (take (at + 1) nodes) n then state else state_at old n)
states-more state old now new nodes at leaf within read so_far here others n =
    elim (cases_Node n leaf) [
      | inl is ↦
          let P : Node → Type 0 = λ m. state_at new m
          ≡ (if is_among (take (at + 1) nodes) m then state else state_at old m) in
          subst P (sym is) (here ∙ ap (λ b. if b then state else state_at old leaf)
          (sym (among-here nodes at leaf within read)))
      | inr other ↦
          others n other ∙ so_far n
          ∙ ap (λ b. if b then state else state_at old n)
          (sym (among-other nodes at leaf n within read other))
    ]

-- and is in the set
pub listed-more : (old now new : NodeBits) (nodes : List Node) (at : ℕ) (leaf : Node)
    → at < length nodes → get_or nodes at leaf ≡ leaf
    → ((n : Node) → has now n ≡ (has old n || is_among (take at nodes) n))
    → has new leaf ≡ true → ((n : Node) → n ≢ leaf → has new n ≡ has now n)
    → (n : Node) → has new n ≡ (has old n || is_among (take (at + 1) nodes) n)
listed-more old now new nodes at leaf within read so_far here others n =
    elim (cases_Node n leaf) [
      | inl is ↦
          let P : Node → Type 0 = λ m. has new m
          ≡ (has old m || is_among (take (at + 1) nodes) m) in
          subst P (sym is) (here ∙ sym (ap (λ b. has old leaf || b)
          (among-here nodes at leaf within read) ∙ or-true (has old leaf)))
      | inr other ↦
          others n other ∙ so_far n
          ∙ ap (λ b. has old n || b) (sym (among-other nodes at leaf n within read other))
    ]
