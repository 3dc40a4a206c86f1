-- Lists of what passes a test, and lists that grow together.
use Rattle.std.proofs.Common.{◌≡◌, ◌<◌, Bool, true, List, [], ◌∷◌, ◌++◌, length, map, All, refl, sym, ap, ◌∙◌, subst, inl, inr, arith, length-append}
use Rattle.std.specs.Prelude.{◌&&◌, filter}
use Rattle.std.proofs.lemmas.Bool.{cases_Bool}
use Rattle.std.proofs.lemmas.List.{get_or_at, map-append}
use Rattle.std.proofs.lemmas.List.Elements.{filter_passes}

-- an item of a list of what passes a test passes
pub passes : {A : Type 0} (test : A → Bool) (xs ys zs : List A) (x : A)
    → filter test xs ≡ ys ++ x ∷ zs → test x ≡ true
passes test xs ys zs x is =
    let all = subst (All (λ y. test y ≡ true)) is (filter_passes test xs) in
    let within : length ys < length (ys ++ x ∷ zs) = omega (arith, length-append ys (x ∷ zs)) in
    let at = get_or_at ys x zs x (length ys) refl in
    ap test (sym at) ∙ all (length ys) x within

-- two tests one after another
pub filter-filter : {A : Type 0} (p q : A → Bool) (xs : List A)
    → filter p (filter q xs) ≡ filter (λ x. q x && p x) xs
filter-filter p q [] = refl
filter-filter p q (x ∷ xs) =
    elim (cases_Bool (q x)) [
      | inl on ↦
          elim (cases_Bool (p x)) [
            | inl kept ↦ rw (on, kept) (ap (λ ys. x ∷ ys) (filter-filter p q xs))
            | inr left ↦ rw (on, left) (filter-filter p q xs)
          ]
      | inr off ↦ rw off (filter-filter p q xs)
    ]

-- one block more is that of the next leaf
pub map-more : {A B C : Type 0} (f : A → C) (g : B → C) (xs : List A) (ys : List B) (x : A) (y : B)
    → map f xs ≡ map g ys → f x ≡ g y → map f (xs ++ x ∷ []) ≡ map g (ys ++ y ∷ [])
map-more f g xs ys x y so_far same =
    map-append f xs (x ∷ []) ∙ (λ t. so_far t ++ same t ∷ []) ∙ sym (map-append g ys (y ∷ []))
