-- The list of leaves has each of them once, in order, and how the code makes it without testing all nodes.
--
-- For `Levels::leaves` and `leaf_change`, and what they call. The definition filters all nodes, so it lists each leaf
-- once and in order (`leaves_listed`). The code goes level by level, plane by plane and row by row, each of which is a
-- list more (`filtered-more`), and in a row goes by bits that say of each node whether it passes (`filtered-same`,
-- `filtered-row`).
use Rattle.std.proofs.Common.{◌≡◌, ℕ, zero, suc, ◌+◌, ◌<◌, ◌≤◌, Bool, true, false, List, [], ◌∷◌, ◌++◌, cond, length, get_or, Contains, ◌↔◌, inl, inr, refl, sym, ap, ◌∙◌, append_assoc, add-one, arith}
use Rattle.std.specs.Prelude.{filter, ◌&&◌}
use Rattle.std.specs.List.{AllPairs}
use Rattle.std.proofs.lemmas.Bool.{cases_Bool, cases_eq, false_from_ne_true}
use Rattle.std.proofs.lemmas.List.{append-nil}
use Rattle.std.proofs.lemmas.List.Elements.{filter-append}
use Rattle.std.proofs.lemmas.List.Kept.{AllPairs-filter}
use Rattle.lattice.specs.declared.node.Node.{Node}
use Rattle.lattice.specs.Lists.{joined}
use Rattle.lattice.specs.Node.{nodes_across, IsNode, nodes}
use Rattle.lattice.specs.Orders.{NodeIsBefore}
use Rattle.terrain.specs.Levels.{LevelMap, is_leaf, leaves}
use Rattle.level_laws.proofs.LeafLemmas.{leaf_test}
use Rattle.octree.specs.LeafLists.{ListsLeaves}
use Rattle.octree.proofs.ListLemmas.{IsIn, IsIn-filter, IsIn-kept}

-- an item at a place is in the list
pub IsIn-at : {A : Type 0} (xs : List A) (x : A) (k : ℕ) → k < length xs → get_or xs k x ≡ x
    → IsIn x xs
IsIn-at [] x k k_in is = absurd (omega arith)
IsIn-at (y ∷ ys) x zero k_in is = inl (sym is)
IsIn-at (y ∷ ys) x (suc k) k_in is = inr (IsIn-at ys x k (omega arith) is)

-- an item that a list contains is in it
pub IsIn-contained : {A : Type 0} (xs : List A) (x : A) → Contains xs x → IsIn x xs
IsIn-contained xs x h = IsIn-at xs x h.0 h.1 h.2

-- a list contains an item that is in it
pub Contains-listed : {A : Type 0} (xs : List A) (x : A) → IsIn x xs → Contains xs x
Contains-listed [] x h = absurd h
Contains-listed (y ∷ ys) x h =
    elim h [
      | inl same ↦ (0, omega arith, sym same)
      | inr later ↦ (let rest = Contains-listed ys x later in
          (suc rest.0, omega (arith, rest.1), rest.2))
    ]

-- the list of leaves has each of them, in order
pub leaves_listed : (depth : ℕ) (m : LevelMap)
    → ((n : Node) → IsNode depth n ↔ Contains (nodes depth) n) → AllPairs NodeIsBefore (nodes depth)
    → ListsLeaves depth m (leaves depth m)
leaves_listed depth m each rising = record {
  each = λ n. (
    (λ leaf. Contains-listed (leaves depth m) n
        (IsIn-filter (is_leaf depth m) n (nodes depth)
        (IsIn-contained (nodes depth) n ((each n).0 leaf.node)) ((leaf_test depth m n).1 leaf))),
    (λ listed. (leaf_test depth m n).0 (IsIn-kept (is_leaf depth m) n (nodes depth)
        (IsIn-contained (leaves depth m) n listed)).pass),
  );
  rising = AllPairs-filter NodeIsBefore (is_leaf depth m) (nodes depth) rising;
}

-- ---- the nodes of a level, by rows and planes

-- the nodes of a row
abbrev pub row : ℕ → ℕ → ℕ → ℕ → List Node
row depth level k j = joined (nodes_across depth level)
    (λ i. record { level = level; k = k; j = j; i = i } ∷ [])

-- the nodes of a plane
abbrev pub plane : ℕ → ℕ → ℕ → List Node
plane depth level k = joined (nodes_across depth level) (row depth level k)

-- ---- lists one after another, and what passes in them

module _ {A : Type 0} (test : A → Bool) (f : ℕ → List A) where
  -- nothing of no lists
  pub filtered-none : (xs : List A) → xs ≡ xs ++ filter test (joined 0 f)
  unfolding joined
  filtered-none xs = sym (append-nil xs)

  -- a list more
  pub filtered-more : (xs ys zs : List A) (n : ℕ) → ys ≡ xs ++ filter test (joined n f)
      → zs ≡ ys ++ filter test (f n) → zs ≡ xs ++ filter test (joined (n + 1) f)
  unfolding joined
  filtered-more xs ys zs n before more =
      rw add-one (more ∙ ap (λ l. l ++ filter test (f n)) before
      ∙ append_assoc xs (filter test (joined n f)) (filter test (f n))
      ∙ ap (λ l. xs ++ l) (sym (filter-append test (joined n f) (f n))))

-- a row of which no item passes adds nothing
pub filtered-row : {A : Type 0} (test : A → Bool) (g : ℕ → A) (n : ℕ)
    → ((i : ℕ) → i < n → test (g i) ≡ false) → filter test (joined n (λ i. g i ∷ [])) ≡ []
unfolding joined
filtered-row test g zero none = refl
filtered-row test g (suc n) none =
    let before = filtered-row test g n (λ i below. none i (omega arith)) in
    let last : filter test (g n ∷ []) ≡ [] = rw (none n (omega arith)) refl in
    filter-append test (joined n (λ i. g i ∷ [])) (g n ∷ []) ∙ (λ t. before t ++ last t)

-- of a row the same items pass two tests that agree
pub filtered-same : {A : Type 0} (p q : A → Bool) (g : ℕ → A) (n : ℕ)
    → ((i : ℕ) → i < n → p (g i) ≡ q (g i))
    → filter p (joined n (λ i. g i ∷ [])) ≡ filter q (joined n (λ i. g i ∷ []))
unfolding joined
filtered-same p q g zero same = refl
filtered-same p q g (suc n) same =
    let before = filtered-same p q g n (λ i below. same i (omega arith)) in
    filter-append p (joined n (λ i. g i ∷ [])) (g n ∷ [])
    ∙ (λ t. before t ++ cond (same n (omega arith) t) (g n ∷ []) [])
    ∙ sym (filter-append q (joined n (λ i. g i ∷ [])) (g n ∷ []))

-- what passes two tests passes one of what passes the other
pub filter_both : {A : Type 0} (p q : A → Bool) (xs : List A)
    → filter (λ x. p x && q x) xs ≡ filter q (filter p xs)
filter_both p q [] = refl
filter_both p q (x ∷ xs) =
    let rest = filter_both p q xs in
    elim (cases_Bool (p x)) [
      | inl passes ↦ rw passes (ap (λ l. cond (q x) (x ∷ l) l) rest)
      | inr fails ↦ rw fails rest
    ]

-- the first item of a row that passes, and those that pass another test which lets it out alone
pub filtered-first : {A : Type 0} (p q : A → Bool) (g : ℕ → A) (first n : ℕ) → first < n
    → ((i : ℕ) → i < first → p (g i) ≡ false) → p (g first) ≡ true → q (g first) ≡ false
    → ((i : ℕ) → (i ≡ first → ⊥) → q (g i) ≡ p (g i))
    → filter p (joined n (λ i. g i ∷ [])) ≡ g first ∷ filter q (joined n (λ i. g i ∷ []))
unfolding joined
filtered-first p q g first zero within none on off same = absurd (omega (arith, within))
filtered-first {A} p q g first (suc n) within none on off same =
    let f : ℕ → List A = λ i. g i ∷ [] in
    elim (cases_eq first n) [
      | inl last ↦
          let below : (i : ℕ) → i < n → p (g i) ≡ false =
          λ i low. none i (omega (arith, low, last)) in
          let before : filter p (joined n f) ≡ [] = filtered-row p g n below in
          let before' : filter q (joined n f) ≡ [] =
          filtered-row q g n (λ i low. same i (λ e. omega (arith, low, last, e)) ∙ below i low) in
          let end : filter p (g n ∷ []) ≡ g first ∷ [] =
          ap (λ b. cond b (g n ∷ []) []) (ap (λ i. p (g i)) (sym last) ∙ on)
          ∙ ap (λ i. g i ∷ []) (sym last) in
          let end' : filter q (g n ∷ []) ≡ [] =
          ap (λ b. cond b (g n ∷ []) []) (ap (λ i. q (g i)) (sym last) ∙ off) in
          filter-append p (joined n f) (g n ∷ []) ∙ (λ t. before t ++ end t)
          ∙ ap (λ l. g first ∷ l) (sym (filter-append q (joined n f) (g n ∷ [])
          ∙ (λ t. before' t ++ end' t)))
      | inr other ↦
          let rest = filtered-first p q g first n (omega (arith, within, other)) none on off same in
          let end : filter p (g n ∷ []) ≡ filter q (g n ∷ []) =
          ap (λ b. cond b (g n ∷ []) []) (sym (same n (λ e. other (sym e)))) in
          filter-append p (joined n f) (g n ∷ []) ∙ (λ t. rest t ++ end t)
          ∙ ap (λ l. g first ∷ l) (sym (filter-append q (joined n f) (g n ∷ [])))
    ]

-- behind a row's last node there is no leaf
pub no_leaf-past : (depth : ℕ) (m : LevelMap) (level k j i : ℕ) → nodes_across depth level ≤ i
    → is_leaf depth m (record { level = level; k = k; j = j; i = i }) ≡ false
no_leaf-past depth m level k j i past =
    let n : Node = record { level = level; k = k; j = j; i = i } in
    false_from_ne_true (is_leaf depth m n) (λ on.
    let leaf = (leaf_test depth m n).0 on in
    let inside = leaf.node in omega (arith, inside.i, past))
