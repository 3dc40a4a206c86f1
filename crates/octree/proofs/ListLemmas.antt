-- What is in a list, by recursion: for joined, mapped and filtered lists, in both directions.
--
-- For `BesideLemmas` and `BalanceLemmas`, where nodes are found by lists of directions that are filtered and mapped.
-- `IsIn` is to be in a list; std's `Contains` says the same by an index (`LeafLemmas` has the way from one to the
-- other). `any_of-in` and `any_of-tells` are for the test of some item, `every_at` for that of all, which computes.
use Rattle.std.proofs.Common.{◌≡◌, Bool, true, List, [], ◌∷◌, ◌++◌, map, ◌⊎◌, inl, inr, refl, sym, ap, ◌∙◌, subst}
use Rattle.std.specs.Prelude.{filter, flat_map, ◌&&◌}
use Rattle.std.proofs.lemmas.Bool.{and_parts, cases_Bool}
use Rattle.terrain.specs.Lists.{any_of}

-- x is one of the list
abbrev pub IsIn : {A : Type 0} → A → List A → Type 0
IsIn x [] = ⊥
IsIn x (y ∷ ys) = (x ≡ y) ⊎ IsIn x ys

-- ---- a list that has an item which passes

-- an item that passes makes some item pass
pub any_of-in : {A : Type 0} (test : A → Bool) (x : A) (xs : List A) → IsIn x xs → test x ≡ true
    → any_of test xs ≡ true
any_of-in test x [] here pass = absurd here
any_of-in test x (y ∷ ys) here pass =
    elim here [
      | inl same ↦ (let passes : test y ≡ true = ap test (sym same) ∙ pass in
          rw (passes, any_of) refl)
      | inr later ↦
          elim (cases_Bool (test y)) [
            | inl kept ↦ rw (kept, any_of) refl
            | inr left ↦ rw (
              left,
              any_of,
            ) (any_of-in test x ys later pass)
          ]
    ]

-- an item that passes
pub record Passes {A : Type 0} (test : A → Bool) (xs : List A) : Type 0 where
  pub item : A
  pub listed : IsIn item xs
  pub pass : test item ≡ true

-- where some item passes there is one that does
pub any_of-tells : {A : Type 0} (test : A → Bool) (xs : List A) → any_of test xs ≡ true
    → Passes test xs
any_of-tells test [] h = absurd (cc)
any_of-tells test (y ∷ ys) h =
    elim (cases_Bool (test y)) [
      | inl kept ↦ record { item = y; listed = inl refl; pass = kept }
      | inr left ↦
          let rest = any_of-tells test ys (rw (left, any_of) at h) in
          record { item = rest.item; listed = inr rest.listed; pass = rest.pass }
    ]

-- ---- joined, mapped and filtered lists

-- an item of the first list
IsIn-left : {A : Type 0} (x : A) (xs ys : List A) → IsIn x xs → IsIn x (xs ++ ys)
IsIn-left x [] ys here = absurd here
IsIn-left x (z ∷ zs) ys here =
    elim here [ inl same ↦ inl same | inr later ↦ inr (IsIn-left x zs ys later) ]

-- an item of the second list
IsIn-right : {A : Type 0} (x : A) (xs ys : List A) → IsIn x ys → IsIn x (xs ++ ys)
IsIn-right x [] ys here = here
IsIn-right x (z ∷ zs) ys here = inr (IsIn-right x zs ys here)

-- the image of an item is in the list of images
pub IsIn-map : {A B : Type 0} (f : A → B) (x : A) (xs : List A) → IsIn x xs → IsIn (f x) (map f xs)
IsIn-map f x [] here = absurd here
IsIn-map f x (y ∷ ys) here =
    elim here [ inl same ↦ inl (ap f same) | inr later ↦ inr (IsIn-map f x ys later) ]

-- an item of an item's list is in the joined lists
pub IsIn-flat_map : {A B : Type 0} (f : A → List B) (x : A) (y : B) (xs : List A) → IsIn x xs
    → IsIn y (f x) → IsIn y (flat_map f xs)
IsIn-flat_map f x y [] here inner = absurd here
IsIn-flat_map f x y (z ∷ zs) here inner =
    elim here [
      | inl same ↦ IsIn-left y (f z) (flat_map f zs) (subst (λ w. IsIn y (f w)) same inner)
      | inr later ↦ IsIn-right y (f z) (flat_map f zs) (IsIn-flat_map f x y zs later inner)
    ]

-- an item that passes is kept
pub IsIn-filter : {A : Type 0} (test : A → Bool) (x : A) (xs : List A) → IsIn x xs → test x ≡ true
    → IsIn x (filter test xs)
IsIn-filter test x [] here pass = absurd here
IsIn-filter test x (y ∷ ys) here pass =
    elim here [
      | inl same ↦ (let passes : test y ≡ true = ap test (sym same) ∙ pass in rw passes (inl same))
      | inr later ↦
          let rest = IsIn-filter test x ys later pass in
          elim (cases_Bool (test y)) [ inl kept ↦ rw kept (inr rest) | inr left ↦ rw left rest ]
    ]

-- an item of the list that passes
pub record Kept {A : Type 0} (test : A → Bool) (x : A) (xs : List A) : Type 0 where
  pub listed : IsIn x xs
  pub pass : test x ≡ true

-- a kept item is in the list, and passes
pub IsIn-kept : {A : Type 0} (test : A → Bool) (x : A) (xs : List A) → IsIn x (filter test xs)
    → Kept test x xs
IsIn-kept test x [] here = absurd here
IsIn-kept {A} test x (y ∷ ys) here =
    elim (cases_Bool (test y)) [
      | inl kept ↦
          let P : List A → Type 0 = λ zs. IsIn x zs in
          let there : IsIn x (y ∷ filter test ys) = rw kept at here in
          elim there [
            | inl same ↦ record { listed = inl same; pass = ap test same ∙ kept }
            | inr later ↦ (let rest = IsIn-kept test x ys later in
                record { listed = inr rest.listed; pass = rest.pass })
          ]
      | inr left ↦
          let there : IsIn x (filter test ys) = rw left at here in
          let rest = IsIn-kept test x ys there in
          record { listed = inr rest.listed; pass = rest.pass }
    ]

-- the item of which y is the image
pub record Image {A B : Type 0} (f : A → B) (y : B) (xs : List A) : Type 0 where
  pub item : A
  pub listed : IsIn item xs
  pub image : y ≡ f item

-- an item of the list of images is the image of an item
pub IsIn-image : {A B : Type 0} (f : A → B) (y : B) (xs : List A) → IsIn y (map f xs) → Image f y xs
IsIn-image f y [] here = absurd here
IsIn-image f y (x ∷ xs) here =
    elim here [
      | inl same ↦ record { item = x; listed = inl refl; image = same }
      | inr later ↦ (let rest = IsIn-image f y xs later in
          record { item = rest.item; listed = inr rest.listed; image = rest.image })
    ]

-- ---- tests of a whole list

-- whether each item passes
abbrev pub every : {A : Type 0} → (A → Bool) → List A → Bool
every test [] = true
every test (x ∷ xs) = test x && every test xs

-- where each item passes, an item of the list does
pub every_at : {A : Type 0} (test : A → Bool) (x : A) (xs : List A) → every test xs ≡ true
    → IsIn x xs → test x ≡ true
every_at test x [] all here = absurd here
every_at test x (y ∷ ys) all here =
    let parts = and_parts (test y) (every test ys) all in
    elim here [ inl same ↦ ap test same ∙ parts.0 | inr later ↦ every_at test x ys parts.1 later ]
