-- Lists joined one after another, and lists in order.
--
-- For `SlotLemmas`, and for each crate above that walks over nodes by level, plane and row, since the list of nodes is
-- joined so. How long the whole is, where the items of each list are in it, what holds of all, that it is in order
-- where each list is and each list is before the next (`AllPairs-joined`), and how many items pass a test that holds
-- for a front (`length-filter_front`).
use Rattle.std.proofs.Common.{◌≡◌, ℕ, zero, suc, ◌+◌, ◌-◌, ◌*◌, ◌<◌, ◌≤◌, Bool, true, false, List, [], ◌∷◌, ◌++◌, length, get_or, All, refl, inl, inr, sym, ap, ◌∙◌, subst, arith, add-one}
use Rattle.std.specs.Prelude.{filter}
use Rattle.std.specs.List.{AllPairs}
use Rattle.std.proofs.Math.Seq.{get_or-append_right}
use Rattle.std.proofs.lemmas.Bool.{cases_lt}
use Rattle.std.proofs.lemmas.List.{length-append, get_or_append_left, get_or-append-add}
use Rattle.std.proofs.lemmas.List.Elements.{All-append, All-nil}
use Rattle.lattice.specs.Lists.{joined}

-- n lists of one length m, one after another, have n times m items
pub length-joined : {A : Type 0} (n m : ℕ) (f : ℕ → List A) → ((i : ℕ) → length (f i) ≡ m)
    → length (joined n f) ≡ n * m
unfolding joined
length-joined zero m f each = omega arith
length-joined (suc n) m f each = omega (
  arith,
  length-append (joined n f) (f n),
  length-joined n m f each,
  each n,
)

-- each of the lists is within the whole
pub joined-longer : {A : Type 0} (n k : ℕ) (f : ℕ → List A) → k < n
    → length (joined k f) + length (f k) ≤ length (joined n f)
unfolding joined
joined-longer zero k f k_in = absurd (omega arith)
joined-longer (suc n) k f k_in =
    let whole = length-append (joined n f) (f n) in
    elim (cases_lt k n) [
      | inl before ↦ omega (arith, whole, joined-longer n k f before)
      | inr not_before ↦
          let last : n ≡ k = omega arith in
          let P : ℕ → Type 0 = λ i. length (joined i f) + length (f i)
          ≤ length (joined n f ++ f n) in
          subst P last (omega (arith, whole))
    ]

-- and its items stand behind those of the lists before it
pub get_or-joined : {A : Type 0} (n k j : ℕ) (f : ℕ → List A) (d : A) → k < n → j < length (f k)
    → get_or (joined n f) (length (joined k f) + j) d ≡ get_or (f k) j d
unfolding joined
get_or-joined zero k j f d k_in j_in = absurd (omega arith)
get_or-joined (suc n) k j f d k_in j_in =
    elim (cases_lt k n) [
      | inl before ↦
          get_or_append_left (joined n f) (f n) d (length (joined k f) + j) (omega (
            arith,
            joined-longer n k f before,
          )) ∙ get_or-joined n k j f d before j_in
      | inr not_before ↦
          let last : n ≡ k = omega arith in
          let P : ℕ → Type 0 = λ i. get_or (joined n f ++ f n) (length (joined i f) + j) d
          ≡ get_or (f i) j d in
          subst P last (get_or-append-add (joined n f) (f n) j d)
    ]

-- what holds of the items of each of the lists
pub All-joined : {A : Type 0} (P : A → Type 0) (n : ℕ) (f : ℕ → List A)
    → ((k : ℕ) → k < n → All P (f k)) → All P (joined n f)
unfolding joined
All-joined P zero f each = All-nil P
All-joined P (suc n) f each =
    All-append P (joined n f) (f n) (All-joined P n f (λ k k_in.
    each k (omega arith))) (each n (omega arith))

-- two lists in order, where each item of the first is before each of the second
AllPairs-append : {A : Type 0} (R : A → A → Type 0) (xs ys : List A) → AllPairs R xs → AllPairs R ys
    → ((i j : ℕ) (d : A) → i < length xs → j < length ys → R (get_or xs i d) (get_or ys j d))
    → AllPairs R (xs ++ ys)
AllPairs-append {A} R xs ys first second across i j d i_before j_in =
    let long = length-append xs ys in
    let right : (n : ℕ) → length xs ≤ n → get_or (xs ++ ys) n d ≡ get_or ys (n - length xs) d =
    λ n past. get_or-append_right xs ys n d past in
    let left : (n : ℕ) → n < length xs → get_or (xs ++ ys) n d ≡ get_or xs n d =
    λ n n_in. get_or_append_left xs ys d n n_in in
    let join : (a a' b b' : A) → a ≡ a' → b ≡ b' → R a' b' → R a b =
    λ a a' b b' ea eb r. subst (λ x. R x b) (sym ea) (subst (R a') (sym eb) r) in
    elim (cases_lt j (length xs)) [
      | inl j_left ↦
          join _ _ _ _ (left i (omega arith)) (left j j_left) (first i j d i_before j_left)
      | inr j_right ↦
          elim (cases_lt i (length xs)) [
            | inl i_left ↦
                join _ _ _ _ (left i i_left) (right j j_right)
                (across i (j - length xs) d i_left (omega arith))
            | inr i_right ↦
                join _ _ _ _ (right i i_right) (right j j_right)
                (second (i - length xs) (j - length xs) d (omega arith) (omega arith))
          ]
    ]

-- lists in order, where each item of a list is before each of a later one
pub AllPairs-joined : {A : Type 0} (R : A → A → Type 0) (P : ℕ → A → Type 0) (n : ℕ) (f : ℕ
    → List A) → ((k : ℕ) → All (P k) (f k)) → ((k : ℕ) → AllPairs R (f k))
    → ((k l : ℕ) (x y : A) → k < l → P k x → P l y → R x y) → AllPairs R (joined n f)
unfolding joined
AllPairs-joined R P zero f part each across = λ i j d i_before j_in. absurd (omega arith)
AllPairs-joined {A} R P (suc n) f part each across =
    let Early : A → Type 0 = λ x. (k : ℕ) × (k < n) × P k x in
    let early : All Early (joined n f) =
    All-joined Early n f (λ k k_in. λ i d i_in. (k, k_in, part k i d i_in)) in
    AllPairs-append R (joined n f) (f n) (AllPairs-joined R P n f part each across) (each n)
    (λ i j d i_in j_in.
    let at = early i d i_in in
    across at.0 n _ _ at.1 at.2 (part n j d j_in))

-- a list that passes a test up to a place and not from there on
pub length-filter_front : {A : Type 0} (p : A → Bool) (xs : List A) (n : ℕ) → n ≤ length xs
    → ((k : ℕ) (d : A) → k < n → p (get_or xs k d) ≡ true)
    → ((k : ℕ) (d : A) → n ≤ k → k < length xs → p (get_or xs k d) ≡ false)
    → length (filter p xs) ≡ n
length-filter_front p [] n within front rest = omega arith
length-filter_front p (x ∷ xs) zero within front rest =
    let out : p x ≡ false = rest 0 x (omega arith) (omega arith) in
    rw out (length-filter_front p xs zero (omega arith) (λ k d k_in.
    absurd (omega arith)) (λ k d low high. rest (suc k) d (omega arith) (omega arith)))
length-filter_front p (x ∷ xs) (suc n) within front rest =
    let in_front : p x ≡ true = front 0 x (omega arith) in
    rw in_front (ap suc (length-filter_front p xs n (omega arith) (λ k d k_in.
    front (suc k) d (omega arith)) (λ k d low high.
    rest (suc k) d (omega arith) (omega arith))))

-- one more list goes behind the others
pub joined-more : {A : Type 0} (n : ℕ) (f : ℕ → List A) → joined (n + 1) f ≡ joined n f ++ f n
unfolding joined
joined-more n f = rw add-one refl

-- lists that are equal up to a number come to the same
pub joined-same : {A : Type 0} (n : ℕ) (f g : ℕ → List A) → ((k : ℕ) → k < n → f k ≡ g k)
    → joined n f ≡ joined n g
unfolding joined
joined-same zero f g same = refl
joined-same (suc n) f g same =
    let before : joined n f ≡ joined n g = joined-same n f g (λ k k_in. same k (omega arith)) in
    let last : f n ≡ g n = same n (omega arith) in
    λ i. before i ++ last i
