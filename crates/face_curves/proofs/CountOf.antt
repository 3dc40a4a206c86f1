-- How often a key is in a list, and what lists with the same counts have in common.
--
-- For `Orbit`, `AreOrbits`, `PolygonCurves` and `IsClosed`, which compare lists of keys without regard to order. `Has`
-- is to be in a list, as a count. The plan: counts and sums over a list (`total`) don't depend on its order, since an
-- element can be taken out wherever it is (`without`); then counts in ranges, in mapped lists and in filtered ones,
-- what holds of all keys of a list, and the least key of one.
use Rattle.std.proofs.Common.{◌≡◌, ◌≢◌, ◌⊎◌, ℕ, zero, suc, ◌+◌, ◌<◌, ◌≤◌, Bool, true, cond, List, [], ◌∷◌, ◌++◌, arith, map, length, filter, inl, inr, ⊎_elim, if◌then◌else◌, ◌==◌, sym, ap, ◌∙◌, refl, subst, eq-eqb, ne_eqb, eqb-true}
use Rattle.std.specs.List.{list_all, range_with_len, AllByRecursion}
use Rattle.std.proofs.lemmas.Bool.{cases_eq, cond-true, cond-false, and_parts, and_from, or_cases, or_left, or_right, cases_Bool, both_ways, cases_lt, true≢false}
use Rattle.terrain.specs.Curves.{count_of, is_one_of}

-- what one element adds to a count
abbrev pub hit : ℕ → ℕ → ℕ
hit key k = if k == key then 1 else 0

-- one element adds 1 to the count of its own key, and 0 to another's
pub hit_cases : (key k : ℕ) → ((k ≡ key) × (hit key k ≡ 1)) ⊎ ((k ≢ key) × (hit key k ≡ 0))
hit_cases key k =
    ⊎_elim
    (λ e. inl (e, cond-true (k == key) 1 0 (eq-eqb k key e)))
    (λ ne. inr (ne, cond-false (k == key) 1 0 (ne_eqb k key ne)))
    (cases_eq k key)

-- the key is one of the list
abbrev pub Has : List ℕ → ℕ → Type 0
Has xs key = 1 ≤ count_of key xs

-- a number is 0 or at least 1
pub none_or_some : (n : ℕ) → (n ≡ 0) ⊎ (1 ≤ n)
none_or_some n = grind arith

-- a count in two lists is the sum of the counts
pub count_of-append : (key : ℕ) (xs ys : List ℕ)
    → count_of key (xs ++ ys) ≡ count_of key xs + count_of key ys
count_of-append key [] ys = omega arith
count_of-append key (x ∷ xs) ys = omega (arith, count_of-append key xs ys)

-- the sum of g over the list
abbrev pub total : (ℕ → ℕ) → List ℕ → ℕ
total g [] = 0
total g (x ∷ xs) = g x + total g xs

-- the list without the first place of the key
abbrev without : ℕ → List ℕ → List ℕ
without key [] = []
without key (x ∷ xs) = cond (x == key) xs (x ∷ without key xs)

-- taking a key out of a list takes 1 off its own count
without-count : (key z : ℕ) (xs : List ℕ) → Has xs key
    → hit z key + count_of z (without key xs) ≡ count_of z xs
without-count key z [] has = absurd (omega arith)
without-count key z (x ∷ xs) has =
    ⊎_elim
    (λ e. rw (cond-true (x == key) xs (x ∷ without key xs) (eq-eqb x key e.0))
    (ap (λ k. hit z k + count_of z xs) (sym e.0)))
    (λ ne. rw (cond-false (x == key) xs (x ∷ without key xs) (ne_eqb x key ne.0))
    (omega (arith, without-count key z xs (omega arith))))
    (hit_cases key x)

-- taking a key out of a list takes g of it off the total
without-total : (g : ℕ → ℕ) (key : ℕ) (xs : List ℕ) → Has xs key
    → g key + total g (without key xs) ≡ total g xs
without-total g key [] has = absurd (omega arith)
without-total g key (x ∷ xs) has =
    ⊎_elim
    (λ e. rw (cond-true (x == key) xs (x ∷ without key xs) (eq-eqb x key e.0))
    (ap (λ k. g k + total g xs) (sym e.0)))
    (λ ne. rw (cond-false (x == key) xs (x ∷ without key xs) (ne_eqb x key ne.0))
    (omega (arith, without-total g key xs (omega arith))))
    (hit_cases key x)

-- a list that has each key at most as often has at most the same total, key by key
total-le : (g : ℕ → ℕ) (xs ys : List ℕ) → ((z : ℕ) → count_of z xs ≤ count_of z ys)
    → total g xs ≤ total g ys
total-le g [] ys h = omega arith
total-le g (x ∷ xs) ys h =
    let here : Has ys x = omega (arith, h x, hit_cases x x) in
    omega (
      arith,
      without-total g x ys here,
      total-le g xs (without x ys) (λ z. omega (arith, h z, without-count x z ys here)),
    )

-- lists that have each key as often have one total
pub total-same : (g : ℕ → ℕ) (xs ys : List ℕ) → ((z : ℕ) → count_of z xs ≡ count_of z ys)
    → total g xs ≡ total g ys
total-same g xs ys h = omega (
  arith,
  total-le g xs ys (λ z. omega (arith, h z)),
  total-le g ys xs (λ z. omega (arith, h z)),
)

-- a length is a total of ones
length-total : (xs : List ℕ) → length xs ≡ total (λ _. 1) xs
length-total [] = omega arith
length-total (x ∷ xs) = omega (arith, length-total xs)

-- a list that has each key at most as often is at most as long
pub length-le_count : (xs ys : List ℕ) → ((z : ℕ) → count_of z xs ≤ count_of z ys)
    → length xs ≤ length ys
length-le_count xs ys h = omega (arith, length-total xs, length-total ys, total-le (λ _. 1) xs ys h)

-- functions that agree on a list's keys have one total over it
pub total-agree : (g h : ℕ → ℕ) (xs : List ℕ) → ((k : ℕ) → Has xs k → g k ≡ h k)
    → total g xs ≡ total h xs
total-agree g h [] agree = omega arith
total-agree g h (x ∷ xs) agree = omega (
  arith,
  hit_cases x x,
  agree x (omega (arith, hit_cases x x)),
  total-agree g h xs (λ k has. agree k (omega arith)),
)

-- a function that is 0 on a list's keys has total 0 over it
pub total-zero : (g : ℕ → ℕ) (xs : List ℕ) → ((k : ℕ) → Has xs k → g k ≡ 0) → total g xs ≡ 0
total-zero g [] none = omega arith
total-zero g (x ∷ xs) none = omega (
  arith,
  none x (omega (arith, hit_cases x x)),
  total-zero g xs (λ k has. none k (omega arith)),
)

-- the total of what each element adds is the count
pub total-hit : (key : ℕ) (xs : List ℕ) → total (hit key) xs ≡ count_of key xs
total-hit key [] = omega arith
total-hit key (x ∷ xs) = omega (arith, total-hit key xs)

-- a total over two lists is the sum of the totals
pub total-append : (g : ℕ → ℕ) (xs ys : List ℕ) → total g (xs ++ ys) ≡ total g xs + total g ys
total-append g [] ys = omega arith
total-append g (x ∷ xs) ys = omega (arith, total-append g xs ys)

-- a range doesn't have numbers below it
count_of-range_below : (a n z : ℕ) → z < a → count_of z (range_with_len a n) ≡ 0
count_of-range_below a zero z lt = omega arith
count_of-range_below a (suc n) z lt =
    omega (arith, hit_cases z a, count_of-range_below (a + 1) n z (omega arith))

-- a range has each number of it once
pub count_of-range : (a n z : ℕ) → a ≤ z → z < a + n → count_of z (range_with_len a n) ≡ 1
count_of-range a zero z from to = absurd (omega arith)
count_of-range a (suc n) z from to =
    ⊎_elim
    (λ e. omega (arith, count_of-range_below (a + 1) n z (omega arith)))
    (λ ne. omega (arith, count_of-range (a + 1) n z (omega arith) (omega arith)))
    (hit_cases z a)

-- a count in a mapped list is the total of what the images add
pub count_of-map : (f : ℕ → ℕ) (key : ℕ) (xs : List ℕ)
    → count_of key (map f xs) ≡ total (λ x. hit key (f x)) xs
count_of-map f key [] = omega arith
count_of-map f key (x ∷ xs) = omega (arith, count_of-map f key xs)

-- two keys with one image are counted together in the mapped list
pub count_of-map_two : (f : ℕ → ℕ) (x y : ℕ) (xs : List ℕ) → x ≢ y → f x ≡ f y
    → count_of x xs + count_of y xs ≤ count_of (f x) (map f xs)
count_of-map_two f x y [] ne e = omega arith
count_of-map_two f x y (z ∷ zs) ne e =
    let rest = count_of-map_two f x y zs ne e in
    ⊎_elim
    (λ a. let same : f z ≡ f x = ap f a.0 in
    omega (arith, rest, hit_cases y z, hit_cases (f x) (f z)))
    (λ a. ⊎_elim
    (λ b. let same : f z ≡ f x = ap f b.0 ∙ sym e in omega (arith, rest, hit_cases (f x) (f z)))
    (λ b. omega (arith, rest))
    (hit_cases y z))
    (hit_cases x z)

-- a key is in a list at most as often as its image in the mapped list
pub count_of-map_one : (f : ℕ → ℕ) (x : ℕ) (xs : List ℕ) → count_of x xs ≤ count_of (f x) (map f xs)
count_of-map_one f x [] = omega arith
count_of-map_one f x (z ∷ zs) =
    ⊎_elim
    (λ a. let same : f z ≡ f x = ap f a.0 in
    omega (arith, count_of-map_one f x zs, hit_cases (f x) (f z)))
    (λ a. omega (arith, count_of-map_one f x zs))
    (hit_cases x z)

-- a key of a mapped list is the image of one
Has-map : (f : ℕ → ℕ) (z : ℕ) (xs : List ℕ) → Has (map f xs) z → (y : ℕ) × Has xs y × (f y ≡ z)
Has-map f z [] has = absurd (omega arith)
Has-map f z (x ∷ xs) has =
    ⊎_elim
    (λ a. (x, omega (arith, hit_cases x x), a.0))
    (λ a. let r = Has-map f z xs (omega arith) in (r.0, omega (arith, r.1), r.2))
    (hit_cases z (f x))

-- a function that keeps the members of a list apart keeps a list without repetition so
pub count_of-map_apart : (f : ℕ → ℕ) (xs : List ℕ)
    → ((x y : ℕ) → Has xs x → Has xs y → f x ≡ f y → x ≡ y) → ((z : ℕ) → count_of z xs ≤ 1)
    → (z : ℕ) → count_of z (map f xs) ≤ 1
count_of-map_apart f [] apart once z = omega arith
count_of-map_apart f (x ∷ xs) apart once z =
    let rest = count_of-map_apart f xs (λ a b ha hb e. apart a b (omega arith) (omega arith) e)
    (λ k. omega (arith, once k)) z in
    ⊎_elim
    (λ none. omega (arith, hit_cases z (f x)))
    (λ some. ⊎_elim
    (λ a. let r = Has-map f z xs some in
    let same : x ≡ r.0 = apart x r.0 (omega (arith, hit_cases x x)) (omega (arith, r.1)) (a.0
    ∙ sym r.2) in
    absurd (omega (arith, once r.0, hit_cases r.0 x, r.1)))
    (λ a. omega (arith, rest))
    (hit_cases z (f x)))
    (none_or_some (count_of z (map f xs)))

-- where all keys of a list pass, each does
pub list_all-at : (p : ℕ → Bool) (xs : List ℕ) (key : ℕ) → list_all p xs ≡ true → Has xs key
    → p key ≡ true
list_all-at p [] key h has = absurd (omega arith)
list_all-at p (x ∷ xs) key h has =
    let parts = and_parts (p x) (list_all p xs) h in
    ⊎_elim (λ a. subst (λ k. p k ≡ true) a.0 parts.0)
    (λ a. list_all-at p xs key parts.1 (omega arith)) (hit_cases key x)

-- where each key of a list passes, all do
pub list_all-from : (p : ℕ → Bool) (xs : List ℕ) → ((k : ℕ) → Has xs k → p k ≡ true)
    → list_all p xs ≡ true
list_all-from p [] h = refl
list_all-from p (x ∷ xs) h = and_from (p x) (list_all p xs) (h x (omega (arith, hit_cases x x)))
    (list_all-from p xs (λ k has. h k (omega arith)))

-- what holds of each key of a list holds of all
pub AllByRecursion-from : (P : ℕ → Type 0) (xs : List ℕ) → ((k : ℕ) → Has xs k → P k)
    → AllByRecursion P xs
AllByRecursion-from P [] h = tt
AllByRecursion-from P (x ∷ xs) h = (
  h x (omega (arith, hit_cases x x)),
  AllByRecursion-from P xs (λ k has. h k (omega arith)),
)

-- a key that passes the test is one of the list
Has-from_is_one_of : (key : ℕ) (xs : List ℕ) → is_one_of key xs ≡ true → Has xs key
Has-from_is_one_of key [] h = absurd (true≢false (sym h))
Has-from_is_one_of key (x ∷ xs) h =
    ⊎_elim
    (λ a. omega (arith, hit_cases key x))
    (λ ne. ⊎_elim (λ t. absurd (ne.0 (eqb-true x key t)))
    (λ t. omega (arith, Has-from_is_one_of key xs t)) (or_cases (x == key) (is_one_of key xs) h))
    (hit_cases key x)

-- a key of the list passes the test
pub is_one_of-from_Has : (key : ℕ) (xs : List ℕ) → Has xs key → is_one_of key xs ≡ true
is_one_of-from_Has key [] has = absurd (omega arith)
is_one_of-from_Has key (x ∷ xs) has =
    ⊎_elim
    (λ a. or_left (x == key) (is_one_of key xs) (eq-eqb x key a.0))
    (λ a. or_right (x == key) (is_one_of key xs) (is_one_of-from_Has key xs (omega arith)))
    (hit_cases key x)

-- a key that passes is as often in the filtered list
pub count_of-filter : (p : ℕ → Bool) (key : ℕ) (xs : List ℕ) → p key ≡ true
    → count_of key (filter p xs) ≡ count_of key xs
count_of-filter p key [] passes = refl
count_of-filter p key (x ∷ xs) passes =
    let rest = count_of-filter p key xs passes in
    ⊎_elim
    (λ t. rw (cond-true (p x) (x ∷ filter p xs) (filter p xs) t) (omega (arith, rest)))
    (λ f. rw (cond-false (p x) (x ∷ filter p xs) (filter p xs) f)
    (⊎_elim (λ a. absurd (both_ways (p x) f (subst (λ k. p k ≡ true) (sym a.0) passes)))
    (λ a. omega (arith, rest)) (hit_cases key x)))
    (cases_Bool (p x))

-- a key of the filtered list passes
pub Has-filter : (p : ℕ → Bool) (key : ℕ) (xs : List ℕ) → Has (filter p xs) key → p key ≡ true
Has-filter p key [] has = absurd (omega arith)
Has-filter p key (x ∷ xs) has =
    ⊎_elim
    (λ t. ⊎_elim
    (λ a. subst (λ k. p k ≡ true) a.0 t)
    (λ a. Has-filter p key xs (let h = rw (cond-true (p x) (x ∷ filter p xs) (filter p xs) t)
    at has in omega (arith, h)))
    (hit_cases key x))
    (λ f. Has-filter p key xs (rw (cond-false (p x) (x ∷ filter p xs) (filter p xs) f) at has))
    (cases_Bool (p x))

-- a key is at most as often in a list as it is long
pub count_of-le-length : (key : ℕ) (xs : List ℕ) → count_of key xs ≤ length xs
count_of-le-length key [] = omega arith
count_of-le-length key (x ∷ xs) = omega (arith, count_of-le-length key xs, hit_cases key x)

-- two keys together are at most as often in a list as it is long
pub pair-le-length : (x y : ℕ) (xs : List ℕ) → x ≢ y → count_of x xs + count_of y xs ≤ length xs
pair-le-length x y [] ne = omega arith
pair-le-length x y (z ∷ zs) ne = omega (
  arith,
  pair-le-length x y zs ne,
  hit_cases x z,
  hit_cases y z,
)

-- a least key of a list that has one
pub least_of : (x : ℕ) (xs : List ℕ) → (m : ℕ) × Has (x ∷ xs) m × ((z : ℕ) → Has (x ∷ xs) z → m ≤ z)
least_of x [] = (x, omega (arith, hit_cases x x), λ z has. omega (arith, hit_cases z x))
least_of x (y ∷ ys) =
    let r = least_of y ys in
    ⊎_elim
    (λ lt. (
      x,
      omega (arith, hit_cases x x),
      λ z has. ⊎_elim (λ a. omega arith) (λ a. omega (arith, r.2 z (omega arith)))
          (hit_cases z x),
    ))
    (λ ge. (
      r.0,
      omega (arith, r.1),
      λ z has. ⊎_elim (λ a. omega arith) (λ a. r.2 z (omega arith))
          (hit_cases z x),
    ))
    (cases_lt x r.0)
