-- What the bits of a set say of nodes, for the calls of `NodeSet` and for the list of its members.
-- A node of the world is a member where the bit at its slot is set (`has-node`), and no other node is (`has-off`). So a
-- call that changes one bit changes one member, since no two nodes have one slot (`has-kept`), and one that makes each
-- bit of two sets' bits makes each member so (`has-both`). The first bit that is set from a slot on is the first member
-- from there (`IsFirstFrom-found`), and the nodes are listed in their order, so it is the first in that order
-- (`IsFirst-from`) and comes first in the list of members (`members_from`).
--
-- Offered to the proofs of the crates above, which import it: `has-off`.
use Rattle.std.proofs.Common.{◌≡◌, ◌≢◌, ℕ, zero, suc, ◌+◌, ◌<◌, ◌≤◌, Bool, true, false, List, [], ◌∷◌, length, get_or, drop, Option, Some, None, refl, sym, ap, ◌∙◌, subst, inl, inr, arith, add-one}
use Rattle.std.specs.Prelude.{◌&&◌, MatchOption, filter, slice_get}
use Rattle.std.proofs.lemmas.Bool.{and_parts, and_right, cases_Bool, cases_eq, cases_lt}
use Rattle.std.proofs.lemmas.Option.{get_or_from_slice_get, same_Some, slice_get_within}
use Rattle.lattice.proofs.SlotLemmas.{node_at_slot, nodes_rise, same_slot, slot_at_place, slot_in}
use Rattle.lattice.proofs.TestLemmas.{node_test}
use Rattle.lattice.specs.declared.node.Node.{Node}
use Rattle.lattice.specs.Node.{IsNode, is_node, nodes, slot}
use Rattle.lattice.specs.Orders.{NodeIsBefore}
use Rattle.node_tables.specs.Members.{IsFirst, IsFirstFrom}
use Rattle.node_tables.specs.NodeBits.{IsNodeSet, NodeBits, has, has_bit}

-- ---- members

-- a node of the world is in the set where its bit is set
pub has-node : (set : NodeBits) (n : Node) → IsNode set.depth n
    → has set n ≡ has_bit set.words (slot set.depth n)
unfolding has
has-node set n node =
    ap (λ b. b && has_bit set.words (slot set.depth n)) ((node_test set.depth n).1 node)

-- no other node is
pub has-off : (set : NodeBits) (n : Node) → is_node set.depth n ≡ false → has set n ≡ false
unfolding has
has-off set n off = ap (λ b. b && has_bit set.words (slot set.depth n)) off

-- a member is a node of the world, and its bit is set
pub member-node : (set : NodeBits) (n : Node) → has set n ≡ true
    → IsNode set.depth n
unfolding has
member-node set n member =
    (node_test set.depth n).0 ((and_parts (is_node set.depth n) _ member).0)

-- and its bit
pub member-bit : (set : NodeBits) (n : Node) → has set n ≡ true
    → has_bit set.words (slot set.depth n) ≡ true
unfolding has
member-bit set n member = (and_parts (is_node set.depth n) _ member).1

-- where no bit is set there is no member
pub has-none : (set : NodeBits) → ((p : ℕ) → has_bit set.words p ≡ false) → (n : Node)
    → has set n ≡ false
unfolding has
has-none set none n =
    and_right (is_node set.depth n) _ (none (slot set.depth n))

-- ---- a bit is changed

-- the bits of all places but a node's are kept, and so are all other members
pub has-kept : (old new : NodeBits) (node : Node) → new.depth ≡ old.depth → IsNode old.depth node
    → ((p : ℕ) → p ≢ slot old.depth node → has_bit new.words p ≡ has_bit old.words p)
    → (n : Node) → n ≢ node → has new n ≡ has old n
unfolding has
has-kept old new node same node_in kept n other =
    (λ t. is_node (same t) n && has_bit new.words (slot (same t) n))
    ∙ elim (cases_Bool (is_node old.depth n)) [
      | inl inside ↦
          let n_in : IsNode old.depth n = (node_test old.depth n).0 inside in
          ap (λ b. is_node old.depth n && b) (kept (slot old.depth n) (λ one.
          other (same_slot old.depth n node n_in node_in one)))
      | inr off ↦
          ap (λ b. b && has_bit new.words (slot old.depth n)) off
          ∙ sym (ap (λ b. b && has_bit old.words (slot old.depth n)) off)
    ]

-- each bit is what is made of two sets' bits, and so is each member
pub has-both : (both : Bool → Bool → Bool) (old new other : NodeBits) → both false false ≡ false
    → new.depth ≡ old.depth → old.depth ≡ other.depth
    → ((p : ℕ) → has_bit new.words p ≡ both (has_bit old.words p) (has_bit other.words p))
    → (n : Node) → has new n ≡ both (has old n) (has other n)
unfolding has
has-both both old new other none same same_other made n =
    let bit = slot old.depth n in
    let new_is : has new n ≡ (is_node old.depth n && has_bit new.words bit) =
    (λ t. is_node (same t) n && has_bit new.words (slot (same t) n)) in
    let other_is : (is_node old.depth n && has_bit other.words bit) ≡ has other n =
    (λ t. is_node (same_other t) n && has_bit other.words (slot (same_other t) n)) in
    new_is ∙ elim (cases_Bool (is_node old.depth n)) [
      | inl inside ↦
          ap (λ b. b && has_bit new.words bit) inside ∙ made bit
          ∙ (λ t. both (sym (ap (λ b. b && has_bit old.words bit) inside) t)
          (sym (ap (λ b. b && has_bit other.words bit) inside) t))
      | inr off ↦
          ap (λ b. b && has_bit new.words bit) off ∙ sym none
          ∙ (λ t. both (sym (ap (λ b. b && has_bit old.words bit) off) t)
          (sym (ap (λ b. b && has_bit other.words bit) off) t))
    ] ∙ ap (λ b. both (has old n) b) other_is

-- ---- what every set keeps

-- bits that are set among the nodes' places keep a set whole
pub IsNodeSet-changed : (old : NodeBits) (words : List ℕ) → IsNodeSet old
    → length words ≡ length old.words
    → ((p : ℕ) → has_bit words p ≡ true → p < length (nodes old.depth))
    → IsNodeSet (record old { words = words })
IsNodeSet-changed old words whole long spare = record {
  depth = whole.depth;
  long = long ∙ whole.long;
  spare = spare;
}

-- ---- the first member from a slot on

-- the first bit that is set from a slot on is the first member's
pub IsFirstFrom-found : (set : NodeBits) (from found : ℕ) (n : Node)
    → IsNode set.depth n → slot set.depth n ≡ found → from ≤ found → has_bit set.words found ≡ true
    → ((p : ℕ) → from ≤ p → p < found → has_bit set.words p ≡ false) → IsFirstFrom set from n
IsFirstFrom-found set from found n node at after here none = record {
  member = has-node set n node ∙ ap (has_bit set.words) at ∙ here;
  after = omega arith;
  least = λ m member m_from.
      elim (cases_lt (slot set.depth m) (slot set.depth n)) [
        | inl before ↦
            let unset = none (slot set.depth m) m_from (omega arith) in
            let bit = member-bit set m member in
            absurd (cc)
        | inr later ↦ later
      ];
}

-- the first member from slot 0 on is the first in the order of nodes
pub IsFirst-from : (set : NodeBits) (n : Node) → IsFirstFrom set 0 n → IsFirst set n
IsFirst-from set n first =
    let depth = set.depth in
    let node = member-node set n first.member in
    record {
      member = first.member;
      least = λ m member.
          let m_in = member-node set m member in
          elim (cases_eq (slot depth m) (slot depth n)) [
            | inl same ↦ inl (same_slot depth m n m_in node same)
            | inr other ↦
                let later : slot depth n < slot depth m =
                omega (arith, first.least m member (omega arith)) in
                let rise = nodes_rise depth (slot depth n) (slot depth m) n later
                (slot_in depth m m_in) in
                let n_is = get_or_from_slice_get (nodes depth) (slot depth n) n n
                (node_at_slot depth n node) in
                let m_is = get_or_from_slice_get (nodes depth) (slot depth m) m n
                (node_at_slot depth m m_in) in
                inr (subst (λ x. NodeIsBefore x m) n_is
                (subst (NodeIsBefore (get_or (nodes depth) (slot depth n) n)) m_is rise))
          ];
    }

-- and where there is none, the set is empty
pub first-or_none : (set : NodeBits) (found : Option Node)
    → MatchOption found ((n : Node) → 0 ≤ slot set.depth n → has set n ≡ false)
    (IsFirstFrom set 0)
    → MatchOption found ((n : Node) → has set n ≡ false) (IsFirst set)
first-or_none set None none = λ n. none n (omega arith)
first-or_none set (Some n) first = IsFirst-from set n first

-- where no bit is set from a slot on, no node from it on is a member
pub has-none_from : (set : NodeBits) (from : ℕ)
    → ((p : ℕ) → from ≤ p → has_bit set.words p ≡ false) → (n : Node)
    → from ≤ slot set.depth n → has set n ≡ false
unfolding has
has-none_from set from none n n_from =
    and_right (is_node set.depth n) _ (none (slot set.depth n) n_from)

-- ---- the members from a slot on, as a list

-- a list from a place on, where none passes up to the first that does
filter-drop : {A : Type 0} (test : A → Bool) (xs : List A) (from found : ℕ) (x : A) → from ≤ found
    → slice_get xs found ≡ Some x → test x ≡ true
    → ((p : ℕ) (y : A) → from ≤ p → p < found → slice_get xs p ≡ Some y → test y ≡ false)
    → filter test (drop from xs) ≡ x ∷ filter test (drop (suc found) xs)
filter-drop test [] from found x after at pass none = absurd (cc)
filter-drop test (y ∷ ys) zero zero x after at pass none =
    let same : y ≡ x = same_Some y x at in
    let passes : test y ≡ true = ap test same ∙ pass in
    rw passes (ap (λ z. z ∷ filter test ys) same)
filter-drop test (y ∷ ys) zero (suc found) x after at pass none =
    let off : test y ≡ false = none 0 y (omega arith) (omega arith) refl in
    rw off (filter-drop test ys zero found x (omega arith) at pass (λ p z p_from p_in there.
    none (suc p) z (omega arith) (omega arith) there))
filter-drop test (y ∷ ys) (suc from) zero x after at pass none = absurd (omega arith)
filter-drop test (y ∷ ys) (suc from) (suc found) x after at pass none =
    filter-drop test ys from found x (omega arith) at pass (λ p z p_from p_in there.
    none (suc p) z (omega arith) (omega arith) there)

-- and where none passes at all
filter-drop_none : {A : Type 0} (test : A → Bool) (xs : List A) (from : ℕ)
    → ((p : ℕ) (y : A) → from ≤ p → slice_get xs p ≡ Some y → test y ≡ false)
    → filter test (drop from xs) ≡ []
filter-drop_none test [] zero none = refl
filter-drop_none test [] (suc from) none = refl
filter-drop_none test (y ∷ ys) zero none =
    let off : test y ≡ false = none 0 y (omega arith) refl in
    rw off (filter-drop_none test ys zero (λ p z p_from there.
    none (suc p) z (omega arith) there))
filter-drop_none test (y ∷ ys) (suc from) none =
    filter-drop_none test ys from (λ p z p_from there. none (suc p) z (omega arith) there)

-- the node of a place of the list
node_at-place : (depth p : ℕ) (y : Node)
    → slice_get (nodes depth) p ≡ Some y → IsNode depth y × (slot depth y ≡ p)
node_at-place depth p y there =
    let n = slot_at_place depth p (slice_get_within (nodes depth) p y there) in
    let one : n.0 ≡ y =
    same_Some n.0 y (sym (node_at_slot depth n.0 n.1) ∙ ap (slice_get (nodes depth)) n.2 ∙ there) in
    (subst (IsNode depth) one n.1, ap (slot depth) (sym one) ∙ n.2)

-- the first member from a slot on comes first, and the members after it are left
pub members_from : (set : NodeBits) (from : ℕ) (n : Node) → IsFirstFrom set from n
    → filter (has set) (drop from (nodes set.depth))
    ≡ n ∷ filter (has set) (drop (slot set.depth n + 1) (nodes set.depth))
members_from set from n first =
    filter-drop (has set) (nodes set.depth) from (slot set.depth n) n first.after
    (node_at_slot set.depth n (member-node set n first.member)) first.member
    (λ p y p_from p_in there.
    let at = node_at-place set.depth p y there in
    elim (cases_Bool (has set y)) [
      | inl member ↦ absurd (omega (arith, first.least y member (omega (arith, at.1)), at.1))
      | inr out ↦ out
    ])
    ∙ ap (λ k. n ∷ filter (has set) (drop k (nodes set.depth))) (sym (add-one (slot set.depth n)))

-- or none is left
pub members_from_none : (set : NodeBits) (from : ℕ)
    → ((n : Node) → from ≤ slot set.depth n → has set n ≡ false)
    → filter (has set) (drop from (nodes set.depth)) ≡ []
members_from_none set from none =
    filter-drop_none (has set) (nodes set.depth) from (λ p y p_from there.
    none y (omega (arith, (node_at-place set.depth p y there).1)))
