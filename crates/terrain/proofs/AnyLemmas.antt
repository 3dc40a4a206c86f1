-- Whether some item of a list passes a test: for lists one after another, and for the items at numbered places.
--
-- For `event_laws` and `octree`, where nodes are wanted from one of several points. Some item of two lists passes where
-- one does of either (`any_of-append`). Of the items at the places with the numbers below a count some passes where it
-- does at one place (`any_place`, `place_any`), so what passes depends on each place alone (`places-same`).
use Rattle.std.proofs.Common.{◌≡◌, ℕ, zero, suc, ◌<◌, Bool, true, false, ◌||◌, List, [], ◌∷◌, ◌++◌, Option, Some, None, inl, inr, refl, sym, ap, ◌∙◌, arith}
use Rattle.std.specs.Prelude.{option_to_list}
use Rattle.std.proofs.lemmas.Bool.{cases_lt, false≢true, or_cases, or_left, or_right}
use Rattle.lattice.specs.Lists.{joined}
use Rattle.terrain.specs.Lists.{any_of}

-- ---- lists one after another

-- one item more before both
either-append : (b x y z : Bool) → z ≡ (x || y)
    → (elim b as (λ _. Bool) [ true ↦ true | false ↦ z ])
    ≡ ((elim b as (λ _. Bool) [ true ↦ true | false ↦ x ]) || y)
either-append true x y z same = refl
either-append false x y z same = same

-- some item of two lists passes where one of either does
pub any_of-append : {A : Type 0} (test : A → Bool) (xs ys : List A)
    → any_of test (xs ++ ys) ≡ (any_of test xs || any_of test ys)
any_of-append test [] ys = refl
any_of-append test (x ∷ xs) ys =
    either-append (test x) (any_of test xs) (any_of test ys) (any_of test (xs ++ ys))
    (any_of-append test xs ys)

-- ---- items at places

-- a test that is asked alone
alone : (b : Bool) → (elim b as (λ _. Bool) [ true ↦ true | false ↦ false ]) ≡ b
alone true = refl
alone false = refl

-- of one item, whether it passes
pub any_of-one : {A : Type 0} (test : A → Bool) (x : A) → any_of test (x ∷ []) ≡ test x
any_of-one test x = alone (test x)

-- an item at a place with a number below a count passes
pub record PassesAt {A : Type 0} (test : A → Bool) (place : ℕ → Option A) (count : ℕ)
    : Type 0 where
  pub at : ℕ
  pub number : at < count
  pub item : A
  pub is : place at ≡ Some item
  pub pass : test item ≡ true

-- where the item of a place passes, there is one
passes_at : {A : Type 0} (test : A → Bool) (place : ℕ → Option A) (count at : ℕ) (o : Option A)
    → place at ≡ o → at < count → any_of test (option_to_list o) ≡ true
    → PassesAt test place count
passes_at test place count at None is within h = absurd (false≢true h)
passes_at test place count at (Some x) is within h =
    record { at = at; number = within; item = x; is = is; pass = sym (any_of-one test x) ∙ h }

-- where some item passes, it does at a place
pub any_place : {A : Type 0} (test : A → Bool) (place : ℕ → Option A) (count : ℕ)
    → any_of test (joined count (λ at. option_to_list (place at))) ≡ true
    → PassesAt test place count
unfolding joined
any_place test place zero h = absurd (false≢true h)
any_place test place (suc count) h =
    let before = joined count (λ at. option_to_list (place at)) in
    let last = option_to_list (place count) in
    elim (or_cases (any_of test before) (any_of test last)
    (sym (any_of-append test before last) ∙ h)) [
      | inl early ↦
          let found = any_place test place count early in
          record {
            at = found.at;
            number = omega (arith, found.number);
            item = found.item;
            is = found.is;
            pass = found.pass;
          }
      | inr here ↦ passes_at test place (suc count) count (place count) refl (omega arith) here
    ]

-- an item that passes at a place makes some item pass
pub place_any : {A : Type 0} (test : A → Bool) (place : ℕ → Option A) (count at : ℕ) (x : A)
    → at < count → place at ≡ Some x → test x ≡ true
    → any_of test (joined count (λ at. option_to_list (place at))) ≡ true
unfolding joined
place_any test place zero at x within is pass = absurd (omega arith)
place_any test place (suc count) at x within is pass =
    let before = joined count (λ at. option_to_list (place at)) in
    let last = option_to_list (place count) in
    let some : (any_of test before || any_of test last) ≡ true =
    elim (cases_lt at count) [
      | inl early ↦
          or_left (any_of test before) (any_of test last)
          (place_any test place count at x early is pass)
      | inr late ↦
          let here : at ≡ count = omega arith in
          let there : place count ≡ Some x = ap place (sym here) ∙ is in
          or_right (any_of test before) (any_of test last)
          (ap (λ o. any_of test (option_to_list o)) there ∙ any_of-one test x ∙ pass)
    ] in
    any_of-append test before last ∙ some

-- places at which the items pass alike come to the same
pub places-same : {A : Type 0} (test : A → Bool) (one other : ℕ → Option A) (count : ℕ)
    → ((at : ℕ) → at < count → any_of test (option_to_list (one at))
    ≡ any_of test (option_to_list (other at)))
    → any_of test (joined count (λ at. option_to_list (one at)))
    ≡ any_of test (joined count (λ at. option_to_list (other at)))
unfolding joined
places-same test one other zero same = refl
places-same test one other (suc count) same =
    let before = places-same test one other count (λ at within. same at (omega arith)) in
    let last = same count (omega arith) in
    any_of-append test (joined count (λ at. option_to_list (one at))) (option_to_list (one count))
    ∙ (λ i. before i || last i)
    ∙ sym (any_of-append test (joined count (λ at. option_to_list (other at)))
    (option_to_list (other count)))
