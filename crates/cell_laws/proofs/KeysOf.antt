-- Keys are told apart, listed once, and weighed pair by pair. For the laws `keys_are_told_apart`,
-- `each_key_is_listed_once` and `nets_by_weights_are_nets_of_pairs`.
--
-- The test of keys compares field by field, and passes exactly for equal keys (`key_test`). A mesh's keys are put into
-- a list one after another, each where it isn't there yet, so that each stays listed once (`with_keys-once`, whose two
-- steps are `push-once` and `drop-known`). The net of a pair is the net under the weight that is 1 for that pair alone
-- (`pair_weight`), so two lists with the same net for all weights have the same net for each pair.
--
-- Offered to the proofs of the crates above, which import them: `key_test` and `nets-from_weights`.
use Rattle.std.proofs.Common.{◌≡◌, ℕ, ◌+◌, Bool, true, false, cond, ◌&&◌, ◌||◌, List, [], ◌∷◌, ◌++◌, refl, sym, ap, ◌∙◌, arith, inl, inr, eq-eqb, append_assoc}
use Rattle.std.proofs.lemmas.List.{append-nil}
use Rattle.std.specs.Prelude.{◌↔◌, IsTrue, pos, ◌-ℤ◌, ◌==◌, if◌then◌else◌}
use Rattle.std.specs.List.{flat_map, list_any}
use Rattle.std.proofs.lemmas.Bool.{cases_Bool, eqb-true, true≢false, and_parts}
use Rattle.std.proofs.lemmas.Int.{ints}
use Rattle.lattice.specs.declared.point.Axis.{Axis}
use Rattle.lattice.specs.declared.point.Axis.TheVariants.{X, Y, Z}
use Rattle.lattice.specs.declared.key.Key.{Key}
use Rattle.terrain.specs.Curves.{HaveSameNet, weight, weight_back}
use Rattle.lattice.specs.Point.{is_same_axis}
use Rattle.lattice.specs.Key.{is_same_key}
use Rattle.terrain.specs.Blocks.{keys_of, net, times, with_key, with_keys}
use Rattle.cell_laws.specs.Keys.{count_of_key, is_among_keys}

-- ---- told apart

-- equal axes from the test
same_axes : (a b : Axis) → is_same_axis a b ≡ true → a ≡ b
same_axes X X h = refl
same_axes Y Y h = refl
same_axes Z Z h = refl
same_axes X Y h = absurd (true≢false (sym h))
same_axes X Z h = absurd (true≢false (sym h))
same_axes Y X h = absurd (true≢false (sym h))
same_axes Y Z h = absurd (true≢false (sym h))
same_axes Z X h = absurd (true≢false (sym h))
same_axes Z Y h = absurd (true≢false (sym h))

-- an axis is the same as itself
own_axis : (a : Axis) → is_same_axis a a ≡ true
own_axis X = refl
own_axis Y = refl
own_axis Z = refl

-- a key is the same as itself
own_key : (a : Key) → is_same_key a a ≡ true
own_key a = rw (
  eq-eqb a.level a.level refl,
  eq-eqb a.at.z a.at.z refl,
  eq-eqb a.at.y a.at.y refl,
  eq-eqb a.at.x a.at.x refl,
  own_axis a.axis,
) refl

-- equal keys from the test
same_keys : (a b : Key) → is_same_key a b ≡ true → a ≡ b
same_keys a b h =
    let p = and_parts (a.level == b.level && a.at.z == b.at.z && a.at.y == b.at.y
    && a.at.x == b.at.x) (is_same_axis a.axis b.axis) h in
    let q = and_parts (a.level == b.level && a.at.z == b.at.z && a.at.y == b.at.y)
    (a.at.x == b.at.x) p.0 in
    let r = and_parts (a.level == b.level && a.at.z == b.at.z) (a.at.y == b.at.y) q.0 in
    let s = and_parts (a.level == b.level) (a.at.z == b.at.z) r.0 in
    let level = eqb-true a.level b.level s.0 in
    let z = eqb-true a.at.z b.at.z s.1 in
    let y = eqb-true a.at.y b.at.y r.1 in
    let x = eqb-true a.at.x b.at.x q.1 in
    let axis = same_axes a.axis b.axis p.1 in
    λ i. record { level = level i; at = record { z = z i; y = y i; x = x i }; axis = axis i }

-- the test of keys passes exactly for equal keys
pub key_test : (a b : Key) → IsTrue (is_same_key a b) ↔ (a ≡ b)
key_test a b = (same_keys a b, λ e. ap (is_same_key a) (sym e) ∙ own_key a)

-- ---- listed once

-- a count in two lists
count-append : (key : Key) (xs ys : List Key)
    → count_of_key key (xs ++ ys) ≡ count_of_key key xs + count_of_key key ys
count-append key [] ys = omega arith
count-append key (x ∷ xs) ys = omega (arith, count-append key xs ys)

-- a test of some item of two lists
any-append : (test : Key → Bool) (xs ys : List Key)
    → list_any test (xs ++ ys) ≡ (list_any test xs || list_any test ys)
any-append test [] ys = refl
any-append test (x ∷ xs) ys = elim (cases_Bool (test x))
    [ inl passes ↦ rw passes refl | inr fails ↦ rw fails (any-append test xs ys) ]

-- whether a key is in the list
abbrev has : Key → List Key → Bool
has key keys = list_any (λ k. is_same_key k key) keys

-- a key that is the same as one in the list is in it too
has-same : (known : List Key) (key k : Key) → is_same_key key k ≡ true → has k known ≡ has key known
has-same known key k same = ap (λ q. has q known) (sym (same_keys key k same))

-- a list with one more key at its end
push-once : (known : List Key) (key : Key) → has key known ≡ false
    → ((k : Key) → count_of_key k known ≡ is_among_keys k known)
    → (k : Key) → count_of_key k (known ++ key ∷ []) ≡ is_among_keys k (known ++ key ∷ [])
push-once known key absent once k =
    let both : has k (known ++ key ∷ []) ≡ (has k known || (is_same_key key k || false)) =
    any-append (λ x. is_same_key x k) known (key ∷ []) in
    count-append k known (key ∷ []) ∙ ap (λ n. n + count_of_key k (key ∷ [])) (once k)
    ∙ go (is_same_key key k) (has k known) refl refl ∙ sym (ap (λ b. cond b 1 0) both)
  where
    go : (same there : Bool) → is_same_key key k ≡ same → has k known ≡ there
        → cond (has k known) 1 0 + (cond (is_same_key key k) 1 0 + 0)
        ≡ cond (has k known || (is_same_key key k || false)) 1 0
    go true there e f = rw (has-same known key k e, absent, e) refl
    go false true e f = rw (e, f) refl
    go false false e f = rw (e, f) refl

-- the key is there already
drop-known : (known keys : List Key) (key : Key) → has key known ≡ true → (k : Key)
    → is_among_keys k (known ++ keys) ≡ is_among_keys k (known ++ key ∷ keys)
drop-known known keys key present k =
    ap (λ b. cond b 1 0) (any-append (λ x. is_same_key x k) known keys ∙ go (is_same_key key k) refl
    ∙ sym (any-append (λ x. is_same_key x k) known (key ∷ keys)))
  where
    go : (same : Bool) → is_same_key key k ≡ same
        → (has k known || has k keys) ≡ (has k known || (is_same_key key k || has k keys))
    go true e = rw (has-same known key k e, present) refl
    go false e = rw e refl

-- a list of keys, put in one after another
with_keys-once : (known keys : List Key)
    → ((k : Key) → count_of_key k known ≡ is_among_keys k known) → (k : Key)
    → count_of_key k (with_keys known keys) ≡ is_among_keys k (known ++ keys)
with_keys-once known [] once k = once k ∙ ap (is_among_keys k) (sym (append-nil known))
with_keys-once known (key ∷ keys) once k =
    let present : has key known ≡ true → count_of_key k (with_keys (with_key known key) keys)
    ≡ is_among_keys k (known ++ key ∷ keys) =
    λ e. rw e (with_keys-once known keys once k ∙ drop-known known keys key e k) in
    let absent : has key known ≡ false → count_of_key k (with_keys (with_key known key) keys)
    ≡ is_among_keys k (known ++ key ∷ keys) =
    λ e. rw e (with_keys-once (known ++ key ∷ []) keys (push-once known key e once) k
    ∙ ap (is_among_keys k) (append_assoc known (key ∷ []) keys)) in
    elim (cases_Bool (has key known)) [ inl e ↦ present e | inr e ↦ absent e ]

-- the keys of triangles are listed once each
pub keys_of-once : (triangles : List (List Key)) (key : Key)
    → count_of_key key (keys_of triangles) ≡ is_among_keys key
    (flat_map (λ triangle. triangle) triangles)
keys_of-once triangles key = with_keys-once [] (flat_map (λ triangle. triangle) triangles)
    (λ k. refl) key

-- ---- weighed pair by pair

-- what an edge weighs where the edge from a to b alone weighs 1
abbrev pair_weight : Key → Key → Key → Key → ℕ
pair_weight a b x y = if is_same_key x a && is_same_key y b then 1 else 0

-- how often a pair occurs is what its edges weigh
times-weight : (a b : Key) (edges : List (Key × Key))
    → times a b edges ≡ weight (pair_weight a b) edges
times-weight a b [] = refl
times-weight a b (edge ∷ edges) = ap (λ n. pair_weight a b edge.0 edge.1 + n)
    (times-weight a b edges)

-- the test of a pair with its parts in the other order
turned : (x y : Bool) → ◌≡◌ {A = ℕ} (cond (x && y) 1 0) (cond (y && x) 1 0)
turned true true = refl
turned true false = refl
turned false true = refl
turned false false = refl

-- how often it occurs the other way round is what the reverses weigh
times-weight_back : (a b : Key) (edges : List (Key × Key))
    → times b a edges ≡ weight_back (pair_weight a b) edges
times-weight_back a b [] = refl
times-weight_back a b (edge ∷ edges) =
    let first : cond (is_same_key edge.0 b && is_same_key edge.1 a) 1 0
    ≡ pair_weight a b edge.1 edge.0 = turned (is_same_key edge.0 b) (is_same_key edge.1 a) in
    omega (arith, first, times-weight_back a b edges)

-- an equation of sums gives one of differences
difference : (m n p q : ℕ) → m + q ≡ n + p → (pos m -ℤ pos n) ≡ (pos p -ℤ pos q)
difference m n p q e = grind (arith, ints)

-- directed edges with the same net by weights have it for each pair of keys
pub nets-from_weights : (xs ys : List (Key × Key)) → HaveSameNet xs ys → (a b : Key)
    → net xs a b ≡ net ys a b
nets-from_weights xs ys same a b =
    let w = pair_weight a b in
    let weights : weight w xs + weight_back w ys ≡ weight_back w xs + weight w ys = same w in
    let counts : times a b xs + times b a ys ≡ times b a xs + times a b ys =
    rw (
      times-weight a b xs,
      times-weight_back a b ys,
      times-weight_back a b xs,
      times-weight a b ys,
    ) weights in
    difference (times a b xs) (times b a xs) (times a b ys) (times b a ys) counts
