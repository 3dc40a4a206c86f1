-- The list of nodes has each node of the world once, in order, at its slot. For the laws `nodes_in_order` and
-- `slots_of_nodes`.
--
-- The list is joined from levels, planes and rows. By that it is known which node stands at (k a + j) a + i of a level
-- of rows of a nodes (`get_or-cube`), that all are in the world, and that each is before all later ones (`nodes_rise`).
-- A slot is defined as the number of nodes before a node; as the list is in order these are just those in front of it,
-- so the slot is the node's place in the list (`slot_is`). The rest follows: slots are below the list's length, no two
-- alike, and none left out (`slot_at_place`).
--
-- Offered to the proofs of the crates above, which import them: `node_listed`, `nodes_rise`, `node_at_slot`, `slot_in`,
-- `same_slot` and `slot_at_place`.
use Rattle.std.proofs.Common.{◌≡◌, ℕ, zero, suc, ◌+◌, ◌*◌, ◌^◌, ◌<◌, Bool, true, false, List, [], ◌∷◌, length, get_or, All, ◌⊎◌, refl, inl, inr, sym, ap, ◌∙◌, subst, arith, Some, Contains, ◌↔◌}
use Rattle.std.specs.Prelude.{slice_get, IsTrue, nat_lt, ◌==◌, ◌&&◌, ◌||◌}
use Rattle.std.specs.List.{AllPairs}
use Rattle.std.proofs.lemmas.Bool.{cases_order, or_left, or_right, or_from, or_cases, and_from, and_left, and_right, and_parts, lt-ltb, le-ltb, ltb-true, eq-eqb, ne_eqb, eqb-true, false_from_ne_true}
use Rattle.std.proofs.lemmas.Option.{slice_get_read}
use Rattle.std.proofs.lemmas.List.Elements.{All-contains}
use Rattle.lattice.specs.declared.node.Node.{Node}
use Rattle.lattice.specs.Lists.{joined}
use Rattle.lattice.specs.Orders.{NodeIsBefore}
use Rattle.lattice.specs.Node.{nodes_across, IsNode, level_nodes, nodes, is_before, slot}
use Rattle.lattice.proofs.JoinedLemmas.{length-joined, joined-longer, get_or-joined, All-joined, AllPairs-joined, length-filter_front}
use Rattle.lattice.proofs.NodeLemmas.{cubed, place_below}

-- ---- the nodes of a level, by rows of a nodes

-- the node of a level at k, j and i
abbrev node : ℕ → ℕ → ℕ → ℕ → Node
node l k j i = record { level = l; k = k; j = j; i = i }

-- a row of a nodes
abbrev row : ℕ → ℕ → ℕ → ℕ → List Node
row a l k j = joined a (λ i. node l k j i ∷ [])

-- a plane of a rows
abbrev plane : ℕ → ℕ → ℕ → List Node
plane a l k = joined a (row a l k)

-- a level of a planes
abbrev cube : ℕ → ℕ → List Node
cube a l = joined a (plane a l)

-- how many nodes n places of a row have
length-row : (a l k j n : ℕ) → length (joined n (λ i. node l k j i ∷ [])) ≡ n
length-row a l k j n = omega (arith, length-joined n 1 (λ i. node l k j i ∷ []) (λ i. refl))

-- how many n rows of a plane have
length-plane : (a l k n : ℕ) → length (joined n (row a l k)) ≡ n * a
length-plane a l k n = length-joined n a (row a l k) (λ j. length-row a l k j a)

-- how many n planes of a level have
length-cube : (a l n : ℕ) → length (joined n (plane a l)) ≡ n * (a * a)
length-cube a l n = length-joined n (a * a) (plane a l) (λ k. length-plane a l k a)

-- which node stands at a place of a row
get_or-row : (a l k j i : ℕ) (d : Node) → i < a → get_or (row a l k j) i d ≡ node l k j i
get_or-row a l k j i d i_in =
    let place : i ≡ length (joined i (λ i. node l k j i ∷ [])) + 0 =
    omega (arith, length-row a l k j i) in
    ap (λ n. get_or (row a l k j) n d) place
    ∙ get_or-joined a i 0 (λ i. node l k j i ∷ []) d i_in (omega arith)

-- which stands at a place of a plane
get_or-plane : (a l k j i : ℕ) (d : Node) → j < a → i < a
    → get_or (plane a l k) (j * a + i) d ≡ node l k j i
get_or-plane a l k j i d j_in i_in =
    let place : j * a + i ≡ length (joined j (row a l k)) + i =
    omega (arith, length-plane a l k j) in
    ap (λ n. get_or (plane a l k) n d) place
    ∙ get_or-joined a j i (row a l k) d j_in (omega (arith, length-row a l k j a))
    ∙ get_or-row a l k j i d i_in

-- row j and column i of a square of side a are within it
in_square : (a j i : ℕ) → j < a → i < a → j * a + i < a * a
in_square a j i j_in i_in = grind arith

-- which stands at a place of a level
get_or-cube : (a l k j i : ℕ) (d : Node) → k < a → j < a → i < a
    → get_or (cube a l) ((k * a + j) * a + i) d ≡ node l k j i
get_or-cube a l k j i d k_in j_in i_in =
    let planes = length-cube a l k in
    let place : (k * a + j) * a + i ≡ length (joined k (plane a l)) + (j * a + i) =
    grind (arith, planes) in
    ap (λ n. get_or (cube a l) n d) place
    ∙ get_or-joined a k (j * a + i) (plane a l) d k_in (omega (
      arith,
      length-plane a l k a,
      in_square a j i j_in i_in,
    ))
    ∙ get_or-plane a l k j i d j_in i_in

-- a level has as many nodes as its cube
pub length-level_nodes : (depth level : ℕ) → length (level_nodes depth level)
    ≡ nodes_across depth level ^ 3
length-level_nodes depth level =
    let a = nodes_across depth level in
    length-cube a level a ∙ sym (cubed a)

-- ---- their order

-- a node is one of a row
abbrev InRow : ℕ → ℕ → ℕ → ℕ → Node → Type 0
InRow a l k j n = (n.level ≡ l) × (n.k ≡ k) × (n.j ≡ j) × (n.i < a)

-- a node is one of a plane
abbrev InPlane : ℕ → ℕ → ℕ → Node → Type 0
InPlane a l k n = (n.level ≡ l) × (n.k ≡ k) × (n.j < a) × (n.i < a)

-- a node is one of a level
abbrev InCube : ℕ → ℕ → Node → Type 0
InCube a l n = (n.level ≡ l) × (n.k < a) × (n.j < a) × (n.i < a)

-- what holds of a list of one
one : {A : Type 0} (P : A → Type 0) (x : A) → P x → All P (x ∷ [])
one P x p zero d k_in = p
one P x p (suc k) d k_in = absurd (omega arith)

-- a list of one is in order
alone : {A : Type 0} (R : A → A → Type 0) (x : A) → AllPairs R (x ∷ [])
alone R x i j d i_before j_in = absurd (omega arith)

-- all nodes of a row are nodes of that row
All-row : (a l k j : ℕ) → All (InRow a l k j) (row a l k j)
All-row a l k j = All-joined (InRow a l k j) a _ (λ i i_in. one (InRow a l k j) _ (
  refl,
  refl,
  refl,
  i_in,
))

-- and of a plane
All-plane : (a l k : ℕ) → All (InPlane a l k) (plane a l k)
All-plane a l k = All-joined (InPlane a l k) a _ (λ j j_in. λ i d i_in. let h =
    All-row a l k j i d i_in in (h.0, h.1, omega arith, h.3))

-- and of a level
All-cube : (a l : ℕ) → All (InCube a l) (cube a l)
All-cube a l = All-joined (InCube a l) a _ (λ k k_in. λ i d i_in. let h =
    All-plane a l k i d i_in in (h.0, omega arith, h.2, h.3))

-- a row is in order
rising-row : (a l k j : ℕ) → AllPairs NodeIsBefore (row a l k j)
rising-row a l k j =
    AllPairs-joined NodeIsBefore (λ i n. (n.level ≡ l) × (n.k ≡ k) × (n.j ≡ j)
    × (n.i ≡ i)) a _ (λ i. one (λ (n : Node). (n.level ≡ l) × (n.k ≡ k) × (n.j ≡ j)
    × (n.i ≡ i)) _ (
      refl,
      refl,
      refl,
      refl,
    )) (λ i. alone NodeIsBefore _) (λ i i' x y below hx hy.
    inr (hx.0 ∙ sym hy.0, inr (hx.1 ∙ sym hy.1, inr (hx.2 ∙ sym hy.2, omega arith))))

-- so is a plane
rising-plane : (a l k : ℕ) → AllPairs NodeIsBefore (plane a l k)
rising-plane a l k =
    AllPairs-joined NodeIsBefore (λ j. InRow a l k j) a _ (λ j. All-row a l k j) (λ j.
    rising-row a l k j) (λ j j' x y below hx hy.
    inr (hx.0 ∙ sym hy.0, inr (hx.1 ∙ sym hy.1, inl (omega arith))))

-- so is a level
rising-cube : (a l : ℕ) → AllPairs NodeIsBefore (cube a l)
rising-cube a l =
    AllPairs-joined NodeIsBefore (λ k. InPlane a l k) a _ (λ k. All-plane a l k) (λ k.
    rising-plane a l k) (λ k k' x y below hx hy.
    inr (hx.0 ∙ sym hy.0, inl (omega arith)))

-- in the list of nodes each is before all later ones
pub nodes_rise : (depth : ℕ) → AllPairs NodeIsBefore (nodes depth)
nodes_rise depth =
    AllPairs-joined NodeIsBefore (λ l. InCube (nodes_across depth l) l) (depth
    + 1) _ (λ l. All-cube (nodes_across depth l) l) (λ l.
    rising-cube (nodes_across depth l) l) (λ l l' x y below hx hy.
    inl (omega arith))

-- every node of the list is in the world
pub all_are_nodes : (depth : ℕ) → All (IsNode depth) (nodes depth)
all_are_nodes depth = All-joined (IsNode depth) (depth + 1) _ (λ l l_in. λ i d i_in.
    let n = get_or (level_nodes depth l) i d in
    let h = All-cube (nodes_across depth l) l i d i_in in
    let P : ℕ → Type 0 = λ level. (n.k < nodes_across depth level)
    × (n.j < nodes_across depth level) × (n.i < nodes_across depth level) in
    let within = subst P (sym h.0) (h.1, h.2, h.3) in
    record { level = omega arith; k = within.0; j = within.1; i = within.2 })

-- ---- slots

-- how many nodes stand before a node: those of the lower levels, and of its own the planes, rows and nodes before it
abbrev pub place_of : ℕ → Node → ℕ
place_of depth n =
    let a = nodes_across depth n.level in
    length (joined n.level (level_nodes depth)) + ((n.k * a + n.j) * a + n.i)

-- the place of a node of the world is one of the list's
pub place_in : (depth : ℕ) (n : Node) → IsNode depth n → place_of depth n < length (nodes depth)
place_in depth n h =
    let a = nodes_across depth n.level in
    omega (
      arith,
      joined-longer (depth + 1) n.level (level_nodes depth) (omega arith),
      length-level_nodes depth n.level,
      place_below a n.k n.j n.i h.k h.j h.i,
    )

-- the node at its place is the node
pub node_at_place : (depth : ℕ) (n d : Node) → IsNode depth n
    → get_or (nodes depth) (place_of depth n) d ≡ n
node_at_place depth n d h =
    let a = nodes_across depth n.level in
    get_or-joined (depth + 1) n.level ((n.k * a + n.j) * a + n.i) (level_nodes depth) d
    (omega arith) (omega (
      arith,
      length-level_nodes depth n.level,
      place_below a n.k n.j n.i h.k h.j h.i,
    ))
    ∙ get_or-cube a n.level n.k n.j n.i d h.k h.j h.i

-- the first part that differs decides
lex_passes : (x y : ℕ) (rest : Bool) (P : Type 0) → (P → rest ≡ true) → (x < y) ⊎ ((x ≡ y) × P)
    → (nat_lt x y || (x == y && rest)) ≡ true
lex_passes x y rest P on h =
    elim h [
      | inl below ↦ or_left _ _ (lt-ltb x y below)
      | inr same ↦ or_right _ _ (and_from _ _ (eq-eqb x y same.0) (on same.1))
    ]

-- the same for a test that fails
lex_fails : (x y : ℕ) (rest : Bool) (P : Type 0) → (P → rest ≡ false) → (y < x) ⊎ ((y ≡ x) × P)
    → (nat_lt x y || (x == y && rest)) ≡ false
lex_fails x y rest P on h =
    elim h [
      | inl above ↦
          or_from _ _ (le-ltb x y (omega arith)) (and_left _ _ (ne_eqb x y (λ e. omega arith)))
      | inr same ↦ or_from _ _ (le-ltb x y (omega arith)) (and_right _ _ (on same.1))
    ]

-- and back
lex_tells : (x y : ℕ) (rest : Bool) (P : Type 0) → (rest ≡ true → P)
    → (nat_lt x y || (x == y && rest)) ≡ true → (x < y) ⊎ ((x ≡ y) × P)
lex_tells x y rest P on h =
    elim (or_cases _ _ h) [
      | inl below ↦ inl (ltb-true x y below)
      | inr same ↦ (let parts = and_parts (x == y) rest same in
          inr (eqb-true x y parts.0, on parts.1))
    ]

-- the test passes for a node that is before another
pub before_passes : (a b : Node) → NodeIsBefore a b → is_before a b ≡ true
before_passes a b h =
    lex_passes _ _ _ _ (lex_passes _ _ _ _ (lex_passes _ _ _ _ (lt-ltb a.i b.i))) h

-- and fails for one that is after it
pub after_fails : (a b : Node) → NodeIsBefore b a → is_before a b ≡ false
after_fails a b h =
    lex_fails _ _ _ _ (lex_fails _ _ _ _ (lex_fails _ _ _ _ (λ above.
    le-ltb a.i b.i (omega arith)))) h

-- the order from its test
before_tells : (a b : Node) → is_before a b ≡ true → NodeIsBefore a b
before_tells a b h = lex_tells _ _ _ _ (lex_tells _ _ _ _ (lex_tells _ _ _ _ (ltb-true a.i b.i))) h

-- no node is before itself
irreflexive : (a : Node) → NodeIsBefore a a → ⊥
irreflexive a h =
    elim h [
      | inl l ↦ omega arith
      | inr k ↦ elim k.1 [
        | inl l ↦ omega arith
        | inr j ↦
            elim j.1 [ inl l ↦ omega arith | inr i ↦ omega arith ]
      ]
    ]

-- so the test fails for a node and itself
itself_fails : (a : Node) → is_before a a ≡ false
itself_fails a = false_from_ne_true _ (λ h. irreflexive a (before_tells a a h))

-- a node's slot is its place in the list
pub slot_is : (depth : ℕ) (n : Node) → IsNode depth n → slot depth n ≡ place_of depth n
unfolding slot
slot_is depth n h =
    let here = place_in depth n h in
    let itself : (d : Node) → get_or (nodes depth) (place_of depth n) d ≡ n =
    λ d. node_at_place depth n d h in
    length-filter_front (λ m.
    is_before m n) (nodes depth) (place_of depth n) (omega arith) (λ k d k_in.
    let rise = nodes_rise depth k (place_of depth n) d k_in here in
    before_passes _ _ (subst (NodeIsBefore (get_or (nodes depth) k d)) (itself d) rise))
    (λ k d low high.
    elim (cases_order k (place_of depth n)) [
      | inl same ↦
          let is : get_or (nodes depth) k d ≡ n = ap (λ m. get_or (nodes depth) m d) same
          ∙ itself d in
          subst (λ m. is_before m n ≡ false) (sym is) (itself_fails n)
      | inr other ↦
          elim other [
            | inl below ↦ absurd (omega arith)
            | inr above ↦
                let rise = nodes_rise depth (place_of depth n) k d above high in
                after_fails _ _ (subst (λ m.
                NodeIsBefore m (get_or (nodes depth) k d)) (itself d) rise)
          ]
    ])

-- a node's slot is one of the list's places
pub slot_in : (depth : ℕ) (n : Node) → IsNode depth n → slot depth n < length (nodes depth)
slot_in depth n h = omega (arith, slot_is depth n h, place_in depth n h)

-- the node at its slot is the node
pub node_at_slot : (depth : ℕ) (n : Node) → IsNode depth n
    → slice_get (nodes depth) (slot depth n) ≡ Some n
node_at_slot depth n h =
    let read = node_at_place depth n n h in
    ap (slice_get (nodes depth)) (slot_is depth n h)
    ∙ slice_get_read (nodes depth) (length (nodes depth)) (place_of depth n) n refl
    (place_in depth n h) (sym read)

-- no two nodes have one slot
pub same_slot : (depth : ℕ) (a b : Node) → IsNode depth a → IsNode depth b
    → slot depth a ≡ slot depth b → a ≡ b
same_slot depth a b ha hb same =
    let at_a = node_at_slot depth a ha in
    let at_b = node_at_slot depth b hb in
    let e : Some a ≡ Some b = sym at_a ∙ ap (slice_get (nodes depth)) same ∙ at_b in
    cc

-- the node at a place is before or after each other one, so it has that place as its slot
pub slot_at_place : (depth place : ℕ) → place < length (nodes depth)
    → (n : Node) × IsNode depth n × (slot depth n ≡ place)
slot_at_place depth place place_in =
    let root : Node = node depth 0 0 0 in
    let n = get_or (nodes depth) place root in
    let h : IsNode depth n = all_are_nodes depth place root place_in in
    let p = slot depth n in
    let here : get_or (nodes depth) p root ≡ n =
    ap (λ k. get_or (nodes depth) k root) (slot_is depth n h) ∙ node_at_place depth n root h in (
      n,
      h,
      elim (cases_order p place) [
        | inl same ↦ same
        | inr other ↦
            elim other [
              | inl below ↦
                  let rise = nodes_rise depth p place root below place_in in
                  absurd (irreflexive n (subst (λ m. NodeIsBefore m n) here rise))
              | inr above ↦
                  let rise = nodes_rise depth place p root above (slot_in depth n h) in
                  absurd (irreflexive n (subst (λ m. NodeIsBefore n m) here rise))
            ]
      ],
    )

-- the list has the nodes of the world and no other
pub node_listed : (depth : ℕ) (n : Node) → IsNode depth n ↔ Contains (nodes depth) n
node_listed depth n = (
  (λ h. (place_of depth n, place_in depth n h, node_at_place depth n n h)),
  (λ listed. All-contains (IsNode depth) (nodes depth) n (all_are_nodes depth) listed),
)

-- the test of order passes exactly for the order
pub before_test : (a b : Node) → IsTrue (is_before a b) ↔ NodeIsBefore a b
before_test a b = (before_tells a b, before_passes a b)
