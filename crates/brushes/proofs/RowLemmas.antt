-- One more item of a row is made.
use Rattle.std.proofs.Common.{◌≡◌, ◌≢◌, ℕ, ◌+◌, ◌<◌, ◌≤◌, List, [], ◌∷◌, ◌++◌, ℤ, length, get_or, set, ap, sym, subst, ◌∙◌, inl, inr, arith}
use Rattle.std.proofs.lemmas.Bool.{cases_lt}
use Rattle.std.proofs.lemmas.List.{get_or-set_same, get_or-set_other, get_or_append_left, get_or_push, length_push}
use Rattle.terrain.specs.declared.brush.TheConstants.{MAX_SAMPLE}

-- what is so of each item before a place is so of the item there too
pub made_more_of : {A : Type 0} (d : A) (IsMade : ℕ → A → Type 0) (row : List A) (x : ℕ) (v : A)
    → x < length row → IsMade x v → ((t : ℕ) → t < x → IsMade t (get_or row t d))
    → (t : ℕ) → t < x + 1 → IsMade t (get_or (set row x v) t d)
made_more_of d IsMade row x v within made so_far t t_in =
    elim (cases_lt t x) [
      | inl before ↦
          let other : t ≢ x = omega arith in
          subst (IsMade t) (sym (get_or-set_other row x t v d other)) (so_far t before)
      | inr past ↦
          let here : x ≡ t = omega arith in
          subst (λ n. IsMade n (get_or (set row x v) n d)) here
          (subst (IsMade x) (sym (get_or-set_same row x v d within)) made)
    ]

-- the same of samples
pub made_more : (IsMade : ℕ → ℤ → Type 0) (row : List ℤ) (x : ℕ) (v : ℤ) → x < length row
    → IsMade x v → ((t : ℕ) → t < x → IsMade t (get_or row t MAX_SAMPLE))
    → (t : ℕ) → t < x + 1 → IsMade t (get_or (set row x v) t MAX_SAMPLE)
made_more = made_more_of MAX_SAMPLE

-- and the items past it are left
pub left_more : (row initial : List ℤ) (x : ℕ) (v : ℤ)
    → ((t : ℕ) → x ≤ t → get_or row t MAX_SAMPLE ≡ get_or initial t MAX_SAMPLE)
    → (t : ℕ) → x + 1 ≤ t → get_or (set row x v) t MAX_SAMPLE ≡ get_or initial t MAX_SAMPLE
left_more row initial x v left t past =
    let other : t ≢ x = omega arith in
    get_or-set_other row x t v MAX_SAMPLE other ∙ left t (omega arith)

-- what is so of each item of a list is so of one more
pub pushed_more : (IsMade : ℕ → ℤ → Type 0) (before items : List ℤ) (x : ℤ)
    → items ≡ before ++ x ∷ [] → IsMade (length before) x
    → ((k : ℕ) → k < length before → IsMade k (get_or before k MAX_SAMPLE))
    → (k : ℕ) → k < length items → IsMade k (get_or items k MAX_SAMPLE)
pushed_more IsMade before items x items_is made so_far k k_in =
    subst (λ l. IsMade k (get_or l k MAX_SAMPLE)) (sym items_is)
    (elim (cases_lt k (length before)) [
      | inl early ↦
          subst (IsMade k) (sym (get_or_append_left before (x ∷ []) MAX_SAMPLE k early))
          (so_far k early)
      | inr late ↦
          let long = ap length items_is ∙ length_push before x in
          let here : length before ≡ k = omega (arith, long, k_in, late) in
          subst (IsMade k) (sym (get_or_push before x MAX_SAMPLE k here))
          (subst (λ n. IsMade n x) here made)
    ])
