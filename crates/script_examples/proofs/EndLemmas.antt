-- Editors that are ended one after another, the last of them first.
use Rattle.std.proofs.Common.{◌≡◌, ℕ, zero, suc, ◌+◌, ◌<◌, ◌≤◌, Any, List, [], ◌∷◌, ◌++◌, length, slice_index_or, refl, sym, ap, ◌∙◌, subst, ⊎_elim, arith, length-append}
use Rattle.std.proofs.lemmas.Bool.{cases_lt}
use Rattle.std.proofs.lemmas.List.{get_or_append_left, get_or_push}
use Rattle.std.proofs.lemmas.List.Quantifiers.{Any-push}
use Rattle.editors.specs.declared.editor.Editor.{Editor}
use Rattle.editors.specs.declared.editor.Ended.{Ended}
use Rattle.editors.specs.Mail.{AreNumbered}

-- one that is there is there still behind which one more is
any-longer : (n : ℕ) (xs : List Ended) (y : Ended) → Any (λ (one : Ended). one.number ≡ n) xs
    → Any (λ (one : Ended). one.number ≡ n) (xs ++ y ∷ [])
any-longer n xs y any = (
  any.0,
  any.1,
  omega (arith, any.2, length-append xs (y ∷ [])),
  get_or_append_left xs (y ∷ []) any.1 any.0 any.2 ∙ any.3,
  any.4,
)

-- the editors before the last one are numbered
pub numbered-front : (editors front : List Editor) (last : Editor) → editors ≡ front ++ last ∷ []
    → AreNumbered editors → AreNumbered front
numbered-front editors front last is are =
    let whole = subst AreNumbered is are in
    λ k d within.
    ap (λ (e : Editor). e.number) (sym (get_or_append_left front (last ∷ []) d k within))
    ∙ whole k d (omega (arith, length-append front (last ∷ [])))

-- and its number is how many there are
pub numbered-last : (editors front : List Editor) (last : Editor) → editors ≡ front ++ last ∷ []
    → AreNumbered editors → last.number ≡ length front
numbered-last editors front last is are =
    let whole = subst AreNumbered is are in
    ap (λ (e : Editor). e.number) (sym (get_or_push front last last (length front) refl))
    ∙ whole (length front) last (omega (arith, length-append front (last ∷ [])))

-- all from a number on have ended, and one more
pub ended-more : (from all : ℕ) (ended more : List Ended) (one : Ended)
    → more ≡ ended ++ one ∷ [] → one.number ≡ from
    → ((n : ℕ) → from + 1 ≤ n → n < all → Any (λ (e : Ended). e.number ≡ n) ended)
    → (n : ℕ) → from ≤ n → n < all → Any (λ (e : Ended). e.number ≡ n) more
ended-more from all ended more one is number each n past within =
    let P : List Ended → Type 0 = λ es. Any (λ (e : Ended). e.number ≡ n) es in
    subst P (sym is)
    (⊎_elim (λ (later : from < n). any-longer n ended one (each n (omega arith) within))
    (λ (here : n ≤ from).
    Any-push (λ (e : Ended). e.number ≡ n) ended one (omega (arith, number)))
    (cases_lt from n))

-- one with this number is among those that have ended, since it is at a place
pub any-at : (n : ℕ) (xs : List Ended) (k : ℕ) → k < length xs
    → ((d : Ended) → (slice_index_or xs k d).number ≡ n)
    → Any (λ (one : Ended). one.number ≡ n) xs
any-at n [] k within holds = absurd (omega arith)
any-at n (x ∷ xs) zero within holds = (0, x, omega arith, refl, holds x)
any-at n (x ∷ xs) (suc k) within holds =
    let rest = any-at n xs k (omega arith) holds in
    (suc rest.0, rest.1, omega (arith, rest.2), rest.3, rest.4)
