-- Sums over the leaves, level by level, in any order of the axes.
--
-- For `FaceSums`, `LateralRows` and `NoCrack`. The leaves are the nodes of all levels that pass a test, so a sum over
-- them is one over all nodes with the test before each number (`over_leaves-levels`, by `kept-joined` along the lists
-- of nodes); `over_level-axis` puts the three indices in the order in which a proof needs them. The rest adds,
-- subtracts and compares such sums.
use Rattle.std.proofs.Common.{◌≡◌, ℕ, zero, suc, ◌+◌, Bool, true, false, List, [], ◌∷◌, ◌++◌, map, refl, ap, ◌∙◌, arith}
use Rattle.std.specs.Prelude.{ℤ, ◌+ℤ◌, ◌-ℤ◌, filter}
use Rattle.std.proofs.lemmas.Int.{ints}
use Rattle.lattice.specs.declared.point.Axis.{Axis}
use Rattle.lattice.specs.declared.point.Axis.TheVariants.{X, Y, Z}
use Rattle.lattice.specs.declared.node.Node.{Node}
use Rattle.lattice.specs.Lists.{joined}
use Rattle.lattice.specs.Node.{nodes_across, level_nodes, nodes}
use Rattle.terrain.specs.Levels.{LevelMap, is_leaf, leaves}
use Rattle.seam_laws.specs.Flows.{total, when}
use Rattle.seam_laws.specs.Seams.{int_sum, over_leaves}
use Rattle.seam_laws.proofs.NumberSums.{total-same, total-swap}
use Rattle.seam_laws.proofs.NodePlaces.{node_at}

-- ---- sums over lists

-- the sum over the items that pass a test
abbrev kept : {A : Type 0} → (A → Bool) → (A → ℤ) → List A → ℤ
kept test f xs = int_sum (map f (filter test xs))

-- one item, counted where it passes
kept-one : {A : Type 0} (test : A → Bool) (f : A → ℤ) (b : Bool) (x : A) (xs : List A) → test x ≡ b
    → kept test f (x ∷ xs) ≡ when b (f x) +ℤ kept test f xs
kept-one test f true x xs e = rw e refl
kept-one test f false x xs e = rw e (omega (arith, ints))

-- two lists, one after the other
kept-append : {A : Type 0} (test : A → Bool) (f : A → ℤ) (xs ys : List A)
    → kept test f (xs ++ ys) ≡ kept test f xs +ℤ kept test f ys
kept-append test f [] ys = omega (arith, ints)
kept-append test f (x ∷ xs) ys =
    kept-one test f (test x) x (xs ++ ys) refl
    ∙ omega (arith, ints, kept-append test f xs ys, kept-one test f (test x) x xs refl)

-- so many lists
kept-joined : {A : Type 0} (test : A → Bool) (f : A → ℤ) (n : ℕ) (g : ℕ → List A)
    → kept test f (joined n g) ≡ total n (λ i. kept test f (g i))
unfolding joined total
kept-joined test f zero g = refl
kept-joined test f (suc n) g = kept-append test f (joined n g) (g n)
    ∙ ap (λ x. x +ℤ kept test f (g n)) (kept-joined test f n g)

-- ---- sums over the nodes of a level

-- the sum over the nodes of a level
pub over_level : ℕ → ℕ → (Node → ℤ) → ℤ
over_level depth level f =
    let N = nodes_across depth level in
    total N (λ k. total N (λ j. total N (λ i. f (record { level = level; k = k; j = j; i = i }))))

-- the sum over the leaves, level by level
pub over_leaves-levels : (depth : ℕ) (m : LevelMap) (f : Node → ℤ)
    → over_leaves depth m f ≡ total (depth + 1)
    (λ level. over_level depth level (λ n. when (is_leaf depth m n) (f n)))
unfolding over_level
over_leaves-levels depth m f =
    let test = is_leaf depth m in
    kept-joined test f (depth + 1) (level_nodes depth)
    ∙ total-same (depth + 1) (λ level. kept test f (level_nodes depth level))
    (λ level. over_level depth level (λ n. when (test n) (f n))) (λ level level_in.
    let N = nodes_across depth level in
    let node : ℕ → ℕ → ℕ → Node = λ k j i. record { level = level; k = k; j = j; i = i } in
    let one : ℕ → ℕ → ℕ → ℤ = λ k j i. kept test f (node k j i ∷ []) in
    kept-joined test f N (λ k. joined N (λ j. joined N (λ i. node k j i ∷ [])))
    ∙ total-same N (λ k. kept test f (joined N (λ j. joined N (λ i. node k j i ∷ []))))
    (λ k. total N (λ j. total N (λ i. when (test (node k j i)) (f (node k j i))))) (λ k k_in.
    kept-joined test f N (λ j. joined N (λ i. node k j i ∷ []))
    ∙ total-same N (λ j. kept test f (joined N (λ i. node k j i ∷ [])))
    (λ j. total N (λ i. when (test (node k j i)) (f (node k j i)))) (λ j j_in.
    kept-joined test f N (λ i. node k j i ∷ [])
    ∙ total-same N (λ i. one k j i) (λ i. when (test (node k j i)) (f (node k j i))) (λ i i_in.
    kept-one test f (test (node k j i)) (node k j i) [] refl ∙ omega (arith, ints)))))

-- the same by places across an axis and along the two others
pub over_level-axis : (depth level : ℕ) (axis : Axis) (f : Node → ℤ)
    → (let N = nodes_across depth level in
    over_level depth level f ≡ total N
    (λ v. total N (λ u. total N (λ c. f (node_at level axis c u v)))))
unfolding over_level
over_level-axis depth level X f = refl
over_level-axis depth level Y f =
    let N = nodes_across depth level in
    let node : ℕ → ℕ → ℕ → Node = λ k j i. record { level = level; k = k; j = j; i = i } in
    total-same N (λ k. total N (λ j. total N (λ i. f (node k j i))))
    (λ k. total N (λ i. total N (λ j. f (node k j i))))
    (λ k k_in. total-swap N N (λ j i. f (node k j i)))
over_level-axis depth level Z f =
    let N = nodes_across depth level in
    let node : ℕ → ℕ → ℕ → Node = λ k j i. record { level = level; k = k; j = j; i = i } in
    total-swap N N (λ k j. total N (λ i. f (node k j i)))
    ∙ total-same N (λ j. total N (λ k. total N (λ i. f (node k j i))))
    (λ j. total N (λ i. total N (λ k. f (node k j i))))
    (λ j j_in. total-swap N N (λ k i. f (node k j i)))

-- sums of the same numbers at all nodes of the world
pub over_leaves-same : (depth : ℕ) (m : LevelMap) (f g : Node → ℤ) → ((n : Node) → f n ≡ g n)
    → over_leaves depth m f ≡ over_leaves depth m g
over_leaves-same depth m f g same = go (leaves depth m)
  where
    go : (xs : List Node) → int_sum (map f xs) ≡ int_sum (map g xs)
    go [] = refl
    go (x ∷ xs) = omega (arith, ints, same x, go xs)

-- sums of sums over the leaves
pub over_leaves-sum : (depth : ℕ) (m : LevelMap) (f g : Node → ℤ)
    → over_leaves depth m (λ n. f n +ℤ g n) ≡ over_leaves depth m f +ℤ over_leaves depth m g
over_leaves-sum depth m f g = go (leaves depth m)
  where
    go : (xs : List Node) → int_sum (map (λ n. f n +ℤ g n) xs) ≡ int_sum (map f xs)
        +ℤ int_sum (map g xs)
    go [] = refl
    go (x ∷ xs) = omega (arith, ints, go xs)

-- sums of differences over the leaves
pub over_leaves-difference : (depth : ℕ) (m : LevelMap) (f g : Node → ℤ)
    → over_leaves depth m (λ n. f n -ℤ g n) ≡ over_leaves depth m f -ℤ over_leaves depth m g
over_leaves-difference depth m f g = go (leaves depth m)
  where
    go : (xs : List Node) → int_sum (map (λ n. f n -ℤ g n) xs) ≡ int_sum (map f xs)
        -ℤ int_sum (map g xs)
    go [] = refl
    go (x ∷ xs) = omega (arith, ints, go xs)

-- sums of numbers that are the same at each leaf
pub over_leaves-at : (depth : ℕ) (m : LevelMap) (f g : Node → ℤ)
    → ((n : Node) → is_leaf depth m n ≡ true → f n ≡ g n)
    → over_leaves depth m f ≡ over_leaves depth m g
over_leaves-at depth m f g same = go (nodes depth)
  where
    one : (b : Bool) (x : Node) → is_leaf depth m x ≡ b → when b (f x) ≡ when b (g x)
    one true x e = same x e
    one false x e = refl

    go : (xs : List Node) → kept (is_leaf depth m) f xs ≡ kept (is_leaf depth m) g xs
    go [] = refl
    go (x ∷ xs) =
        kept-one (is_leaf depth m) f (is_leaf depth m x) x xs refl
        ∙ omega (
          arith,
          ints,
          one (is_leaf depth m x) x refl,
          go xs,
          kept-one (is_leaf depth m) g (is_leaf depth m x) x xs refl,
        )
