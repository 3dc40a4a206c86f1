-- What lies on both sides of a square, and round a segment, for the laws of `src/sides.rt`.
--
-- A node beside a split one of its level belongs to the octree (`belongs-beside`, by balance); so where two nodes lie
-- side by side, of which one belongs and the other doesn't, the one around that is a leaf, since the node around the
-- first is split. With these facts the cells at a square are counted case by case (`two-or-none`), by whether each
-- node is split, belongs, and has a parent that belongs. Round a segment a step has a lateral face exactly where just
-- one of its two nodes is split (`way-is`), so the turns follow from four tests (`alternate`).
use Rattle.std.proofs.Common.{◌≡◌, ℕ, ◌+◌, ◌-◌, ◌^◌, ◌<◌, Bool, true, false, not, ◌&&◌, ◌||◌, ◌⊎◌, List, [], ◌∷◌, ◌++◌, map, drop, take, inl, inr, refl, sym, ap, ◌∙◌, subst, arith}
use Rattle.std.specs.Prelude.{◌==◌, if◌then◌else◌}
use Rattle.std.proofs.lemmas.Bool.{cases_lt, eqb-true, false≢true}
use Rattle.lattice.specs.declared.node.Node.{Node}
use Rattle.lattice.specs.declared.point.Axis.{Axis}
use Rattle.lattice.specs.declared.point.Axis.TheVariants.{X, Y, Z}
use Rattle.lattice.specs.Face.{FaceAxis, lower, higher}
use Rattle.lattice.specs.Node.{IsNode, nodes_across, parent}
use Rattle.lattice.proofs.FamilyLemmas.{IsNode-parent}
use Rattle.terrain.specs.Levels.{LevelMap, is_leaf}
use Rattle.level_laws.specs.Balance.{IsFaceBalanced, ShareFace}
use Rattle.level_laws.proofs.ShareLemmas.{ShareFace-parent, ShareFace-turned}
use Rattle.seam_laws.specs.Seams.{axis_on, node_after}
use Rattle.seam_laws.specs.Sides.{cells_beside, one_if, turn_between, turns_round}
use Rattle.seam_laws.proofs.Balance.{held-beside}
use Rattle.seam_laws.proofs.InnerFaces.{held-itself, held-near, is_held, is_leaf-at}
use Rattle.seam_laws.proofs.NodePlaces.{ShareFace-at, node_at-next}

-- ---- nodes side by side

-- a node shares a face with the next one along an axis
share-next : (axis : Axis) (n : Node) → ShareFace n (node_after axis n)
share-next X n =
    subst (ShareFace n) (sym (node_at-next n.level X n.i n.j n.k))
    (ShareFace-at n.level X n.i n.j n.k)
share-next Y n =
    subst (ShareFace n) (sym (node_at-next n.level Y n.j n.i n.k))
    (ShareFace-at n.level Y n.j n.i n.k)
share-next Z n =
    subst (ShareFace n) (sym (node_at-next n.level Z n.k n.i n.j))
    (ShareFace-at n.level Z n.k n.i n.j)

-- and is of its level
level-next : (axis : Axis) (n : Node) → (node_after axis n).level ≡ n.level
level-next X n = refl
level-next Y n = refl
level-next Z n = refl

-- there is one root
one-across : (depth level : ℕ) → level ≡ depth → nodes_across depth level ≡ 1
one-across depth level top =
    let none : depth - level ≡ 0 = omega (arith, top) in
    ap (λ e. 2 ^ e) none

-- so a node with a next one isn't the root
below-root : (depth : ℕ) (axis : Axis) (n : Node) → IsNode depth n
    → IsNode depth (node_after axis n) → n.level < depth
below-root depth axis n n_in next_in = elim (cases_lt n.level depth) [
  | inl below ↦ below
  | inr top ↦
      (let one = one-across depth n.level (omega (arith, top, n_in.level)) in
      absurd (no-next axis one next_in))
]
  where
    -- in a row of one node there is no next one
    no-next : (axis : Axis) → nodes_across depth n.level ≡ 1 → IsNode depth (node_after axis n) → ⊥
    no-next X one is = omega (arith, one, is.i)
    no-next Y one is = omega (arith, one, is.j)
    no-next Z one is = omega (arith, one, is.k)

-- ---- cells at a square

-- a test that can't pass is false
fails : (b : Bool) → (b ≡ true → ⊥) → b ≡ false
fails true never = absurd (never refl)
fails false never = refl

-- the cells on both sides: `s` says that a node is split, `t` that it belongs to the octree, `q` that its parent does
two-or-none : (s s' t t' q q' : Bool) → (s ≡ true → t ≡ true) → (s' ≡ true → t' ≡ true)
    → (s ≡ true → t' ≡ true) → (s' ≡ true → t ≡ true) → (t' ≡ true → q ≡ true)
    → (t ≡ true → q' ≡ true)
    → let cells : Bool → Bool → Bool → Bool → Bool → ℕ = λ s s' t t' q.
    one_if (not s && t) + one_if ((not s && t) && s') + one_if ((not t && q) && t') in
    (cells s s' t t' q + cells s' s t' t q' ≡ 0) ⊎ (cells s s' t t' q + cells s' s t' t q' ≡ 2)
two-or-none true true true true q q' h1 h2 h3 h4 h5 h6 = inl refl
two-or-none true false true true q q' h1 h2 h3 h4 h5 h6 = inr refl
two-or-none false true true true q q' h1 h2 h3 h4 h5 h6 = inr refl
two-or-none false false true true q q' h1 h2 h3 h4 h5 h6 = inr refl
two-or-none true s' true false q q' h1 h2 h3 h4 h5 h6 = absurd (false≢true (h3 refl))
two-or-none false true true false q q' h1 h2 h3 h4 h5 h6 = absurd (false≢true (h2 refl))
two-or-none false false true false q true h1 h2 h3 h4 h5 h6 = inr refl
two-or-none false false true false q false h1 h2 h3 h4 h5 h6 = absurd (false≢true (h6 refl))
two-or-none true s' false t' q q' h1 h2 h3 h4 h5 h6 = absurd (false≢true (h1 refl))
two-or-none false true false t' q q' h1 h2 h3 h4 h5 h6 = absurd (false≢true (h4 refl))
two-or-none false false false true true q' h1 h2 h3 h4 h5 h6 = inr refl
two-or-none false false false true false q' h1 h2 h3 h4 h5 h6 = absurd (false≢true (h5 refl))
two-or-none false false false false true true h1 h2 h3 h4 h5 h6 = inl refl
two-or-none false false false false true false h1 h2 h3 h4 h5 h6 = inl refl
two-or-none false false false false false true h1 h2 h3 h4 h5 h6 = inl refl
two-or-none false false false false false false h1 h2 h3 h4 h5 h6 = inl refl

-- ---- turns round a segment

-- the turns by whether each of four nodes is split
turn_of : Bool → Bool → List Bool
turn_of s s' =
    if not s && s' then true ∷ [] else if not s' && s then false ∷ [] else []

-- each turn is followed by the other one
alternate : (a b c d : Bool)
    → let turns = turn_of a b ++ turn_of b c ++ turn_of c d ++ turn_of d a in
    drop 1 turns ++ take 1 turns ≡ map not turns
unfolding turn_of
alternate true true true true = refl
alternate true true true false = refl
alternate true true false true = refl
alternate true true false false = refl
alternate true false true true = refl
alternate true false true false = refl
alternate true false false true = refl
alternate true false false false = refl
alternate false true true true = refl
alternate false true true false = refl
alternate false true false true = refl
alternate false true false false = refl
alternate false false true true = refl
alternate false false true false = refl
alternate false false false true = refl
alternate false false false false = refl

-- a step from a node that belongs to the octree, where the other one is split
way : (s t s' : Bool) → (s' ≡ true → t ≡ true) → ((not s && t) && s') ≡ (not s && s')
way true t s' belongs = refl
way false t true belongs = ap (λ b. b && true) (belongs refl)
way false true false belongs = refl
way false false false belongs = refl

module _ (depth : ℕ) (m : LevelMap) (balanced : IsFaceBalanced depth m) where
  -- a node beside a split one of its level belongs to the octree
  belongs-beside : (a b : Node) → IsNode depth b → b.level ≡ a.level → ShareFace a b
      → m a ≡ true → is_held depth m b ≡ true
  belongs-beside a b b_in level shares is_split =
      held-near depth m balanced a b is_split
      (held-beside depth m balanced a b is_split b_in level shares)

  -- below the root that is to lie in a split node
  held-below : (n : Node) → n.level < depth → is_held depth m n ≡ m (parent n)
  held-below n below =
      ap (λ b. b || m (parent n)) (fails (n.level == depth) (λ is.
      let same = eqb-true n.level depth is in omega (arith, same, below)))

  -- two nodes side by side
  module _ (a b : Node) (a_in : IsNode depth a) (b_in : IsNode depth b) (level : b.level ≡ a.level)
      (shares : ShareFace a b) where
    -- a step between them has a lateral face towards the one that is split, if the other isn't
    way-is : (is_leaf depth m a && m b) ≡ (not (m a) && m b)
    way-is =
        ap (λ l. l && m b) (is_leaf-at depth m a a_in)
        ∙ way (m a) (is_held depth m a) (m b)
        (belongs-beside b a a_in (sym level) (ShareFace-turned a b shares))

  -- a step's turn, by whether its nodes are split
  turn-is : (a b : Node) → IsNode depth a → IsNode depth b → b.level ≡ a.level → ShareFace a b
      → turn_between depth m a b ≡ turn_of (m a) (m b)
  unfolding turn_of
  turn-is a b a_in b_in level shares =
      let in_is = way-is a b a_in b_in level shares in
      let out_is = way-is b a b_in a_in (sym level) (ShareFace-turned a b shares) in
      λ i. if in_is i then true ∷ [] else if out_is i then false ∷ [] else []

  -- a square between a node and the next one along an axis
  pub cells-beside : (axis : Axis) (n : Node) → IsNode depth n → IsNode depth (node_after axis n)
      → (cells_beside depth m n (node_after axis n)
      + cells_beside depth m (node_after axis n) n ≡ 0)
      ⊎ (cells_beside depth m n (node_after axis n)
      + cells_beside depth m (node_after axis n) n ≡ 2)
  cells-beside axis n n_in next_in =
      let next = node_after axis n in
      let level = level-next axis n in
      let shares = share-next axis n in
      let back = ShareFace-turned n next shares in
      let below = below-root depth axis n n_in next_in in
      let below' : next.level < depth = omega (arith, level, below) in
      let around = IsNode-parent depth n n_in below in
      let around' = IsNode-parent depth next next_in below' in
      let over = ShareFace-turned (parent next) (parent n)
      (ShareFace-parent (parent next) n
      (ShareFace-turned n (parent next) (ShareFace-parent n next shares))) in
      let held = held-below n below in
      let held' = held-below next below' in
      let leaf : is_leaf depth m n ≡ (not (m n) && m (parent n)) =
      is_leaf-at depth m n n_in ∙ ap (λ b. not (m n) && b) held in
      let leaf' : is_leaf depth m next ≡ (not (m next) && m (parent next)) =
      is_leaf-at depth m next next_in ∙ ap (λ b. not (m next) && b) held' in
      let leaf_around = is_leaf-at depth m (parent n) around in
      let leaf_around' = is_leaf-at depth m (parent next) around' in
      let all : ◌≡◌ {A = ℕ} (cells_beside depth m n next + cells_beside depth m next n) _ =
      λ i. (one_if (leaf i) + one_if (leaf i && m next)
      + one_if (leaf_around i && m (parent next)))
      + (one_if (leaf' i) + one_if (leaf' i && m n) + one_if (leaf_around' i && m (parent n))) in
      subst (λ count. (count ≡ 0) ⊎ (count ≡ 2)) (sym all)
      (two-or-none (m n) (m next) (m (parent n)) (m (parent next)) (is_held depth m (parent n))
      (is_held depth m (parent next))
      (λ is. sym held ∙ held-itself depth m balanced n is)
      (λ is. sym held' ∙ held-itself depth m balanced next is)
      (λ is. sym held' ∙ belongs-beside n next next_in level shares is)
      (λ is. sym held ∙ belongs-beside next n n_in (sym level) back is)
      (belongs-beside (parent next) (parent n) around (ap (λ l. l + 1) (sym level))
      (ShareFace-turned (parent n) (parent next) over))
      (belongs-beside (parent n) (parent next) around' (ap (λ l. l + 1) level) over))

  -- the turns round a segment
  pub turns-alternate : (axis : Axis) (along : FaceAxis) (n : Node) → IsNode depth n
      → IsNode depth (node_after axis n) → IsNode depth (node_after (axis_on axis along) n)
      → IsNode depth (node_after (axis_on axis along) (node_after axis n))
      → let turns = turns_round depth m n (node_after axis n)
      (node_after (axis_on axis along) (node_after axis n))
      (node_after (axis_on axis along) n) in
      drop 1 turns ++ take 1 turns ≡ map not turns
  turns-alternate axis along n n_in b_in d_in c_in =
      let other = axis_on axis along in
      let b = node_after axis n in
      let c = node_after other b in
      let d = node_after other n in
      let across : node_after axis d ≡ c = swapped axis along n in
      let level_b = level-next axis n in
      let level_d = level-next other n in
      let level_c = level-next other b in
      let dc = subst (ShareFace d) across (share-next axis d) in
      let ab_turn = turn-is n b n_in b_in level_b (share-next axis n) in
      let bc_turn = turn-is b c b_in c_in level_c (share-next other b) in
      let cd_turn = turn-is c d c_in d_in
      (level_d ∙ sym level_b ∙ sym level_c) (ShareFace-turned d c dc) in
      let da_turn = turn-is d n d_in n_in (sym level_d)
      (ShareFace-turned n d (share-next other n)) in
      let all : turns_round depth m n b c d
      ≡ turn_of (m n) (m b) ++ turn_of (m b) (m c) ++ turn_of (m c) (m d) ++ turn_of (m d) (m n) =
      λ i. ab_turn i ++ bc_turn i ++ cd_turn i ++ da_turn i in
      subst (λ (turns : List Bool). drop 1 turns ++ take 1 turns ≡ map not turns) (sym all)
      (alternate (m n) (m b) (m c) (m d))
    where
      -- the next node along two axes is the same in either order
      swapped : (axis : Axis) (along : FaceAxis) (n : Node)
          → node_after axis (node_after (axis_on axis along) n)
          ≡ node_after (axis_on axis along) (node_after axis n)
      swapped X lower n = refl
      swapped X higher n = refl
      swapped Y lower n = refl
      swapped Y higher n = refl
      swapped Z lower n = refl
      swapped Z higher n = refl
