-- How far an edit has come in a list of parts, be they pages of a layer or layers of a version: each loop that revises
-- them keeps this.
-- The parts before the present one are revised, and the others are the old ones. So it begins with nothing done
-- (start), goes on by a part that needs no revision (left) or is replaced (set), and ends with all of them revised
-- (all), where those past the last one need none.
use Rattle.std.proofs.Common.{◌≡◌, ◌≢◌, ℕ, ◌+◌, ◌<◌, ◌≤◌, List, length, get_or, set, refl, sym, subst, ◌∙◌, inl, inr, arith}
use Rattle.std.proofs.lemmas.Bool.{cases_lt}
use Rattle.std.proofs.lemmas.List.{get_or-set_same, get_or-set_other, length-set}

-- each part before this one is revised, and the others are as they were
pub record ArePartsRevised {A : Type 0} (IsRevised : ℕ → A → Type 0) (d : A) (k : ℕ)
    (old new : List A) : Type 0 where
  pub long : length new ≡ length old
  pub made : (n : ℕ) → n < k → IsRevised n (get_or new n d)
  pub left : (n : ℕ) → k ≤ n → get_or new n d ≡ get_or old n d

-- at first the parts are as they were, and those before the first one need no revision
pub ArePartsRevised-start : {A : Type 0} (IsRevised : ℕ → A → Type 0) (d : A) (k : ℕ)
    (old new : List A) → new ≡ old → ((n : ℕ) → n < k → IsRevised n (get_or old n d))
    → ArePartsRevised IsRevised d k old new
ArePartsRevised-start IsRevised d k old new same none =
    subst (ArePartsRevised IsRevised d k old) (sym same)
    (record { long = refl; made = none; left = λ n h. refl })

-- a part needs no revision
pub ArePartsRevised-left : {A : Type 0} (IsRevised : ℕ → A → Type 0) (d : A) (k : ℕ)
    (old new : List A) → IsRevised k (get_or old k d)
    → ArePartsRevised IsRevised d k old new → ArePartsRevised IsRevised d (k + 1) old new
ArePartsRevised-left IsRevised d k old new here so_far = record {
  long = so_far.long;
  made = λ n within. elim (cases_lt n k) [
    | inl before ↦ so_far.made n before
    | inr past ↦
        let n_is : k ≡ n = omega arith in
        subst (λ m. IsRevised m (get_or new m d)) n_is
        (subst (IsRevised k) (sym (so_far.left k (omega arith))) here)
  ];
  left = λ n after. so_far.left n (omega arith);
}

-- a part is replaced by a revised one
pub ArePartsRevised-set : {A : Type 0} (IsRevised : ℕ → A → Type 0) (d : A) (k : ℕ)
    (old new : List A) (x : A) → k < length old → IsRevised k x
    → ArePartsRevised IsRevised d k old new → ArePartsRevised IsRevised d (k + 1) old (set new k x)
ArePartsRevised-set IsRevised d k old new x within here so_far = record {
  long = length-set new k x ∙ so_far.long;
  made = λ n n_in. elim (cases_lt n k) [
    | inl before ↦
        let other : n ≢ k = omega arith in
        subst (IsRevised n) (sym (get_or-set_other new k n x d other)) (so_far.made n before)
    | inr past ↦
        let n_is : k ≡ n = omega arith in
        let k_in : k < length new = omega (arith, so_far.long, within) in
        subst (λ m. IsRevised m (get_or (set new k x) m d)) n_is
        (subst (IsRevised k) (sym (get_or-set_same new k x d k_in)) here)
  ];
  left = λ n after.
      let other : n ≢ k = omega arith in
      get_or-set_other new k n x d other ∙ so_far.left n (omega arith);
}

-- in the end each part is revised, where those past the last one need no revision
pub ArePartsRevised-all : {A : Type 0} (IsRevised : ℕ → A → Type 0) (d : A) (k : ℕ)
    (old new : List A) → ((n : ℕ) → k ≤ n → IsRevised n (get_or old n d))
    → ArePartsRevised IsRevised d k old new → (n : ℕ) → IsRevised n (get_or new n d)
ArePartsRevised-all IsRevised d k old new none so_far n =
    elim (cases_lt n k) [
      | inl before ↦ so_far.made n before
      | inr past ↦ subst (IsRevised n) (sym (so_far.left n past)) (none n past)
    ]
