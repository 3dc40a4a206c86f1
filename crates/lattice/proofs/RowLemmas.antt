-- Lists that are joined from others: from rows of one length, and from lists of one item. Crates above take these
-- lemmas wherever a loop makes a list that the definition joins.
-- A list that is joined from n rows of one length has the item j of row k at the index k * w + j (get_or-rows), and is
-- told by its rows (row-of, same-rows). One that is joined from single items is told by these (singles_are).
use Rattle.std.proofs.Common.{◌≡◌, ℕ, zero, suc, ◌+◌, ◌-◌, ◌*◌, ◌/◌, ◌%◌, ◌<◌, ◌≤◌, List, [], ◌∷◌, ◌++◌, length, take, drop, get_or, refl, sym, ap, ◌∙◌, subst, arith, add-one, length-append, inl, inr}
use Rattle.std.specs.Prelude.{All}
use Rattle.std.proofs.lemmas.Bool.{cases_lt}
use Rattle.std.proofs.Math.Nat.{mul-le-mul_right}
use Rattle.std.proofs.lemmas.Nat.{mul-add-lt}
use Rattle.std.proofs.lemmas.List.{append-nil, append_assoc, get_or_append_left, drop-take, take_more, get_or-append_right, get_or-drop, get_or-take, length-drop, length-take-le, same_lists, take-append-drop, take-take}
use Rattle.lattice.proofs.JoinedLemmas.{joined-more}
use Rattle.lattice.specs.Lists.{joined}

-- no list is joined
pub joined-none : {A : Type 0} (f : ℕ → List A) → joined 0 f ≡ []
unfolding joined
joined-none f = refl

-- one more list goes behind the others
pub joined-suc : {A : Type 0} (n : ℕ) (f : ℕ → List A) → joined (suc n) f ≡ joined n f ++ f n
unfolding joined
joined-suc n f = refl

-- first so many of them, then the others
pub joined-add : {A : Type 0} (m n : ℕ) (f : ℕ → List A)
    → joined (m + n) f ≡ joined m f ++ joined n (λ k. f (m + k))
joined-add m zero f =
    let none : m + 0 ≡ m = omega arith in
    ap (λ k. joined k f) none ∙ sym (append-nil (joined m f))
    ∙ ap (λ more. joined m f ++ more) (sym (joined-none (λ k. f (m + k))))
joined-add m (suc n) f =
    let more : m + suc n ≡ (m + n) + 1 = omega arith in
    ap (λ k. joined k f) more ∙ joined-more (m + n) f
    ∙ ap (λ front. front ++ f (m + n)) (joined-add m n f)
    ∙ append_assoc (joined m f) (joined n (λ k. f (m + k))) (f (m + n))
    ∙ ap (λ rest. joined m f ++ rest) (sym (joined-more n (λ k. f (m + k)))
    ∙ ap (λ k. joined k (λ j. f (m + j))) (add-one n))

-- ---- lists of one length

-- lists of one length add up to a product
pub length-rows : {A : Type 0} (w n : ℕ) (f : ℕ → List A)
    → ((k : ℕ) → k < n → length (f k) ≡ w) → length (joined n f) ≡ n * w
unfolding joined
length-rows w zero f each = omega arith
length-rows w (suc n) f each =
    length-append (joined n f) (f n)
    ∙ (let before : length (joined n f) ≡ n * w = length-rows w n f (λ k k_in.
    each k (omega arith)) in
    let last : length (f n) ≡ w = each n (omega arith) in
    omega (arith, before, last))

-- the item at place j of list k
pub get_or-rows : {A : Type 0} (w n : ℕ) (f : ℕ → List A)
    → ((k : ℕ) → k < n → length (f k) ≡ w) → (k j : ℕ) (d : A) → k < n → j < w
    → get_or (joined n f) (k * w + j) d ≡ get_or (f k) j d
unfolding joined
get_or-rows w zero f each k j d k_in j_in = absurd (omega arith)
get_or-rows {A} w (suc n) f each k j d k_in j_in =
    let before : length (joined n f) ≡ n * w = length-rows w n f (λ i i_in.
    each i (omega arith)) in
    elim (cases_lt k n) [
      | inl early ↦
          let room : k * w + j < n * w = omega (arith, mul-add-lt k w j n early j_in) in
          get_or_append_left (joined n f) (f n) d (k * w + j) (omega (arith, before, room))
          ∙ get_or-rows w n f (λ i i_in. each i (omega arith)) k j d early j_in
      | inr late ↦
          let last : n ≡ k = omega arith in
          let P : ℕ → Type 0 = λ i. get_or (joined n f ++ f n) (i * w + j) d ≡ get_or (f i) j d in
          subst P last (get_or-append_right (joined n f) (f n) (n * w) (n * w + j) d before
          (omega arith) ∙ (let rest : n * w + j - n * w ≡ j = omega arith in
          ap (λ i. get_or (f n) i d) rest))
    ]

-- ---- lists of one item each

-- as many items as lists of one
pub length-singles : {A : Type 0} (n : ℕ) (f : ℕ → A) → length (joined n (λ k. f k ∷ [])) ≡ n
length-singles n f = length-rows 1 n (λ k. f k ∷ []) (λ k k_in. refl) ∙ omega arith

-- the item at a place of lists of one
pub get_or-singles : {A : Type 0} (n : ℕ) (f : ℕ → A) (k : ℕ) (d : A) → k < n
    → get_or (joined n (λ i. f i ∷ [])) k d ≡ f k
get_or-singles n f k d k_in =
    let place : k ≡ k * 1 + 0 = omega arith in
    ap (λ i. get_or (joined n (λ i. f i ∷ [])) i d) place
    ∙ get_or-rows 1 n (λ i. f i ∷ []) (λ i i_in. refl) k 0 d k_in (omega arith)

-- a list by its items
pub singles_are : {A : Type 0} (n : ℕ) (f : ℕ → A) (xs : List A) (d : A) → length xs ≡ n
    → ((k : ℕ) → k < n → get_or xs k d ≡ f k) → xs ≡ joined n (λ k. f k ∷ [])
singles_are n f xs d long each =
    same_lists xs (joined n (λ k. f k ∷ [])) (long ∙ sym (length-singles n f)) (λ k e k_in.
    let at : k < n = omega (arith, long) in
    default_at xs k d e k_in ∙ each k at ∙ sym (get_or-singles n f k e at))
  where
    default_at : {A : Type 0} (xs : List A) (k : ℕ) (d e : A) → k < length xs
        → get_or xs k e ≡ get_or xs k d
    default_at [] k d e k_in = absurd (omega arith)
    default_at (x ∷ xs) zero d e k_in = refl
    default_at (x ∷ xs) (suc k) d e k_in = default_at xs k d e (omega arith)

-- the first so many items from a place on
pub take-drop_singles : {A : Type 0} (xs : List A) (from n : ℕ) (d : A) → from + n ≤ length xs
    → take n (drop from xs) ≡ joined n (λ k. get_or xs (from + k) d ∷ [])
take-drop_singles xs from zero d within = sym (joined-none (λ k. get_or xs (from + k) d ∷ []))
take-drop_singles xs from (suc n) d within =
    ap (λ m. take m (drop from xs)) (sym (add-one n))
    ∙ take_more (drop from xs) n d (omega (arith, length-drop from xs))
    ∙ (λ i. take-drop_singles xs from n d (omega arith) i ++ get_or-drop from xs n d i ∷ [])
    ∙ sym (joined-more n (λ k. get_or xs (from + k) d ∷ []))
    ∙ ap (λ m. joined m (λ k. get_or xs (from + k) d ∷ [])) (add-one n)

-- what holds of each item
pub All-singles : {A : Type 0} (P : A → Type 0) (n : ℕ) (f : ℕ → A) → ((k : ℕ) → k < n → P (f k))
    → All P (joined n (λ k. f k ∷ []))
All-singles P n f each = λ k d k_in.
    let at : k < n = omega (arith, length-singles n f) in
    subst P (sym (get_or-singles n f k d at)) (each k at)

-- ---- rows of one length

-- a list cut at a place
pub take-add : {A : Type 0} (m n : ℕ) (xs : List A)
    → take (m + n) xs ≡ take m xs ++ take n (drop m xs)
take-add m n xs =
    sym (take-append-drop m (take (m + n) xs))
    ∙ (λ i. take-take m (m + n) xs (omega arith) i ++ drop-take m n xs i)

-- the items of a row
row-items : {A : Type 0} (w k j : ℕ) (xs : List A) (d : A) → j < w
    → get_or (take w (drop (k * w) xs)) j d ≡ get_or xs (k * w + j) d
row-items w k j xs d j_in =
    get_or-take w (drop (k * w) xs) j d j_in ∙ get_or-drop (k * w) xs j d

-- a row of a list that is joined from rows
pub row-of : {A : Type 0} (w n : ℕ) (f : ℕ → List A) (xs : List A)
    → ((k : ℕ) → k < n → length (f k) ≡ w) → xs ≡ joined n f → (k : ℕ) → k < n
    → take w (drop (k * w) xs) ≡ f k
row-of w n f xs each is k k_in =
    let long : length xs ≡ n * w = ap length is ∙ length-rows w n f each in
    let room : k * w + w ≤ n * w = rows-below k n w k_in in
    let count : length (take w (drop (k * w) xs)) ≡ w =
    length-take-le w (drop (k * w) xs) (omega (arith, length-drop (k * w) xs, long, room)) in
    same_lists (take w (drop (k * w) xs)) (f k) (count ∙ sym (each k k_in)) (λ j d j_in.
    let j_below : j < w = omega (arith, count) in
    row-items w k j xs d j_below ∙ ap (λ ys. get_or ys (k * w + j) d) is
    ∙ get_or-rows w n f each k j d k_in j_below)
  where
    rows-below : (k n w : ℕ) → k < n → k * w + w ≤ n * w
    rows-below k n w k_in =
        let up : (k + 1) * w ≤ n * w = mul-le-mul_right w (let h : k + 1 ≤ n = omega arith in h) in
        omega (arith, up)

-- a list whose rows are those
pub same-rows : {A : Type 0} (w n : ℕ) (f : ℕ → List A) (xs : List A) → 0 < w
    → ((k : ℕ) → k < n → length (f k) ≡ w) → length xs ≡ n * w
    → ((k : ℕ) → k < n → take w (drop (k * w) xs) ≡ f k) → xs ≡ joined n f
same-rows w n f xs some each long rows =
    same_lists xs (joined n f) (long ∙ sym (length-rows w n f each)) (λ i d i_in.
    let within : i < n * w = omega (arith, long) in
    let k : ℕ = i / w in
    let j : ℕ = i % w in
    let j_in : j < w = omega arith in
    let whole : k * w + j ≡ i = omega arith in
    let k_in : k < n = by_rows k n w j (omega (arith, whole, within)) in
    ap (λ m. get_or xs m d) (sym whole) ∙ sym (row-items w k j xs d j_in)
    ∙ ap (λ ys. get_or ys j d) (rows k k_in) ∙ sym (get_or-rows w n f each k j d k_in j_in)
    ∙ ap (λ m. get_or (joined n f) m d) whole)
  where
    by_rows : (k n w j : ℕ) → k * w + j < n * w → k < n
    by_rows k n w j h = elim (cases_lt k n) [
      | inl below ↦ below
      | inr above ↦
          let up : n * w ≤ k * w = mul-le-mul_right w above in
          absurd (omega (arith, up, h))
    ]

-- a row as it is cut out
pub row-slice : {A : Type 0} (w k : ℕ) (xs : List A)
    → take (k * w + w - k * w) (drop (k * w) xs) ≡ take w (drop (k * w) xs)
row-slice w k xs =
    let count : k * w + w - k * w ≡ w = omega arith in
    ap (λ n. take n (drop (k * w) xs)) count
